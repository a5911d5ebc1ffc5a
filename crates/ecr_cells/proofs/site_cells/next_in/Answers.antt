use Rattle.std.proofs.Common.{◌≡◌, length, sym, ap, ◌∙◌, subst}
use Rattle.ecr_model.specs.declared.registry.journal.CellKey.TheVariants.{Repository}
use Rattle.ecr_model.specs.registry.Journals.{past}
use Rattle.ecr_repo.specs.States.{State}
use Rattle.ecr_cells.specs.Deeds.{ask_of, changes}
use Rattle.ecr_cells.specs.Turns.{turn_in_repository}
use Rattle.ecr_cells.proofs.RepositoryLemmas.{IsNextTurn-made}
use Rattle.ecr_cells.proofs.SiteLemmas.{numbered-after}
use Rattle.ecr_cells.proofs.site_cells.next_in.Goals as goal

pub returns-clause-turned : goal.returns-clause-turned
returns-clause-turned c =
    let n = c.entries-ticket.result in
    let done = c.in_ok-done.done in
    IsNextTurn-made c.args.cell.now c.make.new.self n (ask_of c.args.deed) done c.placed-place.result
    (c.requires.numbered ∙ sym c.entries-ticket.ensures) c.in_ok-done.ensures.turned
    (c.placed-place.ensures ∙ ap (λ k. record { cell = Repository k; ticket = n; changed = changes done })
    (sym c.requires.key))

pub returns-clause-stays : goal.returns-clause-stays
returns-clause-stays c =
    let turn = returns-clause-turned c in
    (ap (λ (s : State). s.key) turn.left, ap (λ (s : State). s.limits) turn.left)

pub returns-clause-numbered : goal.returns-clause-numbered
returns-clause-numbered c =
    let s = c.args.cell.now in
    let turn = returns-clause-turned c in
    subst (λ (r : State). past r.journal ≡ length r.journal) (sym turn.left)
    (numbered-after s.journal (turn_in_repository s (past s.journal) (ask_of c.args.deed)).entry c.requires.numbered)
