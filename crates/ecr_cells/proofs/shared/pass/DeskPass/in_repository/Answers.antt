use Rattle.std.proofs.Common.{◌≡◌, Some, option_map, sym, ap, ◌∙◌, subst, ⊎_elim}
use Rattle.ecr_model.specs.declared.registry.journal.CellKey.TheVariants.{Repository}
use Rattle.ecr_turn.specs.Passes.{Gate, Known}
use Rattle.ecr_cells.specs.Deeds.{ask_of, told_of}
use Rattle.ecr_cells.specs.SiteCells.{site_of_cell}
use Rattle.ecr_cells.specs.Doors.{Visited, realm_of_frame, site_frame_of, view_of}
use Rattle.ecr_cells.specs.Shared.{DeskKnown, IsWay, SiteKnown, door_view, gates_in, passes_at}
use Rattle.ecr_cells.proofs.SharedViewLemmas.{Looks-comes, Looks-none, MadeTurn-visited, Passes-lent, gate-found, gates_in-passes, gates_in-same, views_in-found, views_in-repository, views_in-same}
use Rattle.ecr_cells.proofs.WorldLemmas.{on_err_any}
use Rattle.ecr_cells.proofs.shared.pass.DeskPass.in_repository.Goals as goal

pub in_repository-requires-clause-at : goal.in_repository-requires-clause-at
in_repository-requires-clause-at g c =
    ap site_of_cell (c.requires.at c.in-Some.passes.now.directory.gate
    (ap (λ (p : DeskKnown). gates_in p.sites c.args.key.site) (sym c.self.view_is)
    ∙ ap (option_map (λ (s : SiteKnown). s.directory.gate)) (sym c.in-Some.ensures.value)))

pub in_repository-requires-clause-way : goal.in_repository-requires-clause-way
in_repository-requires-clause-way g c =
    let key = c.args.key in
    let there : passes_at c.self.inside.sites.entries key.site ≡ Some c.requires.way.passes =
    ap (λ (p : DeskKnown). passes_at p.sites key.site) c.self.view_is ∙ c.requires.way.found in
    let same : c.requires.way.passes ≡ c.in-Some.passes.now = cc (c.in-Some.ensures.value, there) in
    subst (λ (s : SiteKnown). IsWay (site_frame_of s.directory.gate.frame) s.doors key.name c.args.door)
    same c.requires.way.way

pub returns-in_err-done-in-Some-clause-gates : goal.returns-in_err-done-in-Some-clause-gates
returns-in_err-done-in-Some-clause-gates g c =
    let after = c.in_repository.new.self in
    gates_in-passes _ _ _ _ c.args.key.site c.in-Some.passes.now after c.self.view_is
    (Passes-lent _ (c.get_mut.follows.lender after).entries _ _ after c.in-Some.ensures.value
    (λ there. ((c.get_mut.follows.holds after).3 there).0)
    (ap (λ (k : Known). k.gate) c.in_repository.ensures.directory))

pub returns-in_err-done-in-Some-clause-err : goal.returns-in_err-done-in-Some-clause-err
returns-in_err-done-in-Some-clause-err g c = λ gate is.
    let key = c.args.key in
    let after = c.in_repository.new.self in
    let directory = c.in_repository.ensures.directory in
    let passes = Passes-lent c.self.inside.sites.entries (c.get_mut.follows.lender after).entries key.site _ after
    c.in-Some.ensures.value (λ there. ((c.get_mut.follows.holds after).3 there).0)
    (ap (λ (k : Known). k.gate) directory) in
    on_err_any c.from_residual.result
    (⊎_elim
    (λ same. Looks-none _ _ _ _ _ (Repository key) c.self.view_is
    (views_in-same _ _ key.site _ after passes directory same)
    (gates_in-same _ _ _ _ after passes))
    (λ peers. Looks-comes _ _ _ _ _ (Repository key) _ (view_of peers.now) c.self.view_is
    (views_in-found _ (Repository key) _ c.in-Some.ensures.value) peers.comes
    (views_in-repository _ _ key _ after peers.now passes directory peers.hangs)
    (gates_in-same _ _ _ _ after passes))
    c.in_err-done-in-Some.ensures.err)

pub returns-clause-ran : goal.returns-clause-ran
returns-clause-ran g c = λ gate is.
    let key = c.args.key in
    let after = c.in_repository.new.self in
    let directory = c.in_repository.ensures.directory in
    let passes = Passes-lent c.self.inside.sites.entries (c.get_mut.follows.lender after).entries key.site _ after
    c.in-Some.ensures.value (λ there. ((c.get_mut.follows.holds after).3 there).0)
    (ap (λ (k : Known). k.gate) directory) in
    let enters = c.in_ok-done-in-Some.ensures.entered in
    let same = gate-found _ _ _ key.site c.in-Some.passes.now gate c.self.view_is c.in-Some.ensures.value is in
    MadeTurn-visited _ _ _ _ _ _ (Repository key) _ (view_of enters.now) _ _ _ c.self.view_is
    (views_in-found _ (Repository key) _ c.in-Some.ensures.value)
    (subst (λ (x : Gate). Visited (realm_of_frame x.frame) (door_view c.in-Some.passes.now.doors key.name)
    (view_of enters.now) (Repository key) (ask_of c.args.deed) (told_of c.in_ok-done-in-Some.done)
    c.in_ok-done-in-Some.place) same enters.visited)
    (views_in-repository _ _ key _ after enters.now passes directory enters.hangs)
    (gates_in-same _ _ _ _ after passes) c.counted-self-inside.ensures

pub returns-clause-gates : goal.returns-clause-gates
returns-clause-gates g c =
    let after = c.in_repository.new.self in
    gates_in-passes _ _ _ _ c.args.key.site c.in-Some.passes.now after c.self.view_is
    (Passes-lent _ (c.get_mut.follows.lender after).entries _ _ after c.in-Some.ensures.value
    (λ there. ((c.get_mut.follows.holds after).3 there).0)
    (ap (λ (k : Known). k.gate) c.in_repository.ensures.directory))
