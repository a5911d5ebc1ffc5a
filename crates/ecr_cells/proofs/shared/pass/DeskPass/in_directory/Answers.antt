use Rattle.std.proofs.Common.{◌≡◌, None, sym, subst}
use Rattle.ecr_model.specs.declared.registry.journal.CellKey.TheVariants.{Directory}
use Rattle.ecr_model.specs.declared.names.SiteId.{SiteId}
use Rattle.ecr_turn.specs.Passes.{Gate}
use Rattle.ecr_cells.specs.Deeds.{refusal_of}
use Rattle.ecr_cells.specs.Doors.{site_frame_of}
use Rattle.ecr_cells.specs.Shared.{IsWay, LeadsInto, Passes}
use Rattle.ecr_cells.proofs.SharedViewLemmas.{LeadsInto-passes, Looks-comes, MadeTurn-visited, Passes-lent, gate-found, gates_in-passes, gates_in-same, given_then, views_in-directory, views_in-found}
use Rattle.ecr_cells.proofs.WorldLemmas.{on_err_any}
use Rattle.ecr_cells.proofs.shared.pass.DeskPass.in_directory.Goals as goal

pub in_directory-requires-clause-of : goal.in_directory-requires-clause-of
in_directory-requires-clause-of g c =
    gate-found _ _ _ c.args.site _ _ c.self.view_is c.in-Some.ensures.value c.requires.of

pub returns-in_err-done-in-Some-clause-gates : goal.returns-in_err-done-in-Some-clause-gates
returns-in_err-done-in-Some-clause-gates g c =
    let after = c.in_directory.new.self in
    gates_in-passes _ _ _ _ c.args.site c.in-Some.passes.now after c.self.view_is
    (Passes-lent _ (c.get_mut.follows.lender after).entries _ _ after c.in-Some.ensures.value
    (λ there. ((c.get_mut.follows.holds after).3 there).0) c.in_directory.ensures.gate)

pub returns-in_err-done-in-Some-clause-err : goal.returns-in_err-done-in-Some-clause-err
returns-in_err-done-in-Some-clause-err g c =
    let after = c.in_directory.new.self in
    let passes = Passes-lent c.self.inside.sites.entries (c.get_mut.follows.lender after).entries c.args.site _ after
    c.in-Some.ensures.value (λ there. ((c.get_mut.follows.holds after).3 there).0) c.in_directory.ensures.gate in
    on_err_any c.from_residual.result
    (Looks-comes _ _ _ _ _ (Directory c.args.site) _ _ c.self.view_is
    (views_in-found _ (Directory c.args.site) _ c.in-Some.ensures.value) c.in_err-done-in-Some.ensures.err
    (views_in-directory _ _ _ _ after passes c.in_directory.ensures.doors)
    (gates_in-same _ _ _ _ after passes))

pub returns-clause-ran : goal.returns-clause-ran
returns-clause-ran g c =
    let after = c.in_directory.new.self in
    let passes = Passes-lent c.self.inside.sites.entries (c.get_mut.follows.lender after).entries c.args.site _ after
    c.in-Some.ensures.value (λ there. ((c.get_mut.follows.holds after).3 there).0) c.in_directory.ensures.gate in
    MadeTurn-visited _ _ _ _ _ _ (Directory c.args.site) _ _ _ _ _ c.self.view_is
    (views_in-found _ (Directory c.args.site) _ c.in-Some.ensures.value) c.in_ok-done-in-Some.ensures.visited
    (views_in-directory _ _ _ _ after passes c.in_directory.ensures.doors)
    (gates_in-same _ _ _ _ after passes) c.counted-self-inside.ensures

pub returns-clause-gates : goal.returns-clause-gates
returns-clause-gates g c =
    let after = c.in_directory.new.self in
    gates_in-passes _ _ _ _ c.args.site c.in-Some.passes.now after c.self.view_is
    (Passes-lent _ (c.get_mut.follows.lender after).entries _ _ after c.in-Some.ensures.value
    (λ there. ((c.get_mut.follows.holds after).3 there).0) c.in_directory.ensures.gate)

pub returns-clause-given : goal.returns-clause-given
returns-clause-given g c =
    let sites = c.self.inside.sites.entries in
    let site = c.args.site in
    let before = c.in-Some.passes.now in
    let after = c.in_directory.new.self in
    let news = (c.get_mut.follows.lender after).entries in
    let passes : Passes sites news site before after =
    Passes-lent sites news site before after c.in-Some.ensures.value
    (λ there. ((c.get_mut.follows.holds after).3 there).0)
    c.in_directory.ensures.gate in
    let told = c.in_ok-done-in-Some.done in
    let same = gate-found _ _ _ site before _ c.self.view_is c.in-Some.ensures.value c.requires.of in
    given_then c.in_ok-done-in-Some.door c.args.key
    (λ k door. refusal_of told ≡ None → IsWay (site_frame_of c.args.turnstile.now.frame) before.doors k.now.name door)
    (λ k door. refusal_of told ≡ None → LeadsInto news k.now door)
    (λ k. k.now.site ≡ site)
    c.requires.key
    (λ k door at way is. LeadsInto-passes sites news k.now before after door
    (subst (λ (s : SiteId). Passes sites news s before after) (sym at) passes)
    c.in_directory.ensures.doors
    (subst (λ (x : Gate). IsWay (site_frame_of x.frame) before.doors k.now.name door) (sym same) (way is)))
    c.in_ok-done-in-Some.ensures.given
