use Rattle.std.proofs.Common.{refl, sym, ap, ◌∙◌, subst}
use Rattle.ecr_model.specs.declared.registry.journal.CellKey.TheVariants.{Directory}
use Rattle.ecr_cells.specs.Deeds.{ask_of, told_of}
use Rattle.ecr_cells.specs.SiteCells.{Site, IsTurn}
use Rattle.ecr_cells.proofs.SiteLemmas.{AreOfSite-turned, IsTurn-directory}
use Rattle.ecr_cells.proofs.site_cells.SiteCells.in_directory.Goals as goal

pub invariant_of-self-2 : goal.invariant_of-self-2
invariant_of-self-2 c =
    let s = c.self.inside in
    AreOfSite-turned s.limits s.directory c.make.new.state s.repositories.entries c.entries-ticket.result
    (ask_of c.args.deed) c.in_ok-done.done
    c.self.invariant (c.self.invariant.numbered ∙ sym c.entries-ticket.ensures.count) c.in_ok-done.ensures.turned

pub returns-clause-turned : goal.returns-clause-turned
returns-clause-turned c =
    let s = c.self.inside in
    let before : Site = record { directory = s.directory; repositories = s.repositories.entries } in
    let after : Site = record { directory = c.make.new.state; repositories = s.repositories.entries } in
    subst (λ (h : Site). IsTurn h after (Directory c.args.site) (ask_of c.args.deed)
    (told_of c.in_ok-done.done) c.placed-place.result) c.self.view_is
    (IsTurn-directory before after c.args.site c.entries-ticket.result
    (ask_of c.args.deed) c.in_ok-done.done c.placed-place.result
    (c.self.invariant.numbered ∙ sym c.entries-ticket.ensures.count)
    (ap (λ (h : Site). h.directory.site) c.self.view_is ∙ c.requires.at)
    c.in_ok-done.ensures.turned c.placed-place.ensures refl)
