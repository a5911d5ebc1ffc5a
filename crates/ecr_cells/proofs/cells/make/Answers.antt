use Rattle.std.proofs.Common.{◌≡◌, Some, is_some, sym, ap, ◌∙◌, subst}
use Rattle.std.proofs.lemmas.Result.{IfOk-weaker}
use Rattle.ecr_model.specs.declared.names.SiteId.{SiteId}
use Rattle.ecr_cells.specs.Deeds.{ask_of, told_of}
use Rattle.ecr_cells.specs.Desks.{Changes, Turns, site_at}
use Rattle.ecr_cells.specs.SiteCells.{Site, IsTurn, site_of_cell}
use Rattle.ecr_cells.proofs.cells.make.Goals as goal

pub make-requires-clause-at : goal.make-requires-clause-at
make-requires-clause-at c =
    let sites = c.args.cells.now.entries in
    let served = c.requires.served in
    let found : site_at sites (site_of_cell c.args.cell) ≡ Some c.in-Some.site.now =
    ap (site_at sites) (sym c.site_of.ensures) ∙ sym c.in-Some.ensures.value in
    let same : c.in-Some.site.now ≡ served.kept = cc (found, served.found) in
    ap (λ (s : Site). s.directory.site) same ∙ served.site_is

pub returns-clause-turned : goal.returns-clause-turned
returns-clause-turned c =
    let sites = c.args.cells.now.entries in
    let before = c.in-Some.site.now in
    let after = c.make.new.self in
    let news = (c.get_mut.follows.lender after).entries in
    let at = c.site_of.result.now in
    let found : site_at sites at ≡ Some before = sym c.in-Some.ensures.value in
    let changes : Changes sites news at before after =
    record { was = found; updates = ((c.get_mut.follows.holds after).3 (ap is_some found)).0 } in
    IfOk-weaker c.make.result
    (λ t. IsTurn before after c.args.cell (ask_of c.args.deed) (told_of t.0) t.1)
    (λ t. Turns sites news c.args.cell (ask_of c.args.deed) (told_of t.0) t.1)
    (λ t turn. record {
      before = before;
      after = after;
      changes = subst (λ (s : SiteId). Changes sites news s before after) c.site_of.ensures changes;
      turn = turn;
    })
    c.make.ensures.turned
