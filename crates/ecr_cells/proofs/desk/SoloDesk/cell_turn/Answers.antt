use Rattle.std.proofs.Common.{[], ◌∷◌, sym, subst}
use Rattle.ecr_blob_upload.specs.Loads.{given}
use Rattle.ecr_model.specs.requests.Requests.{Decided, cell_turn}
use Rattle.ecr_desk.specs.Desks.{Ran}
use Rattle.ecr_cells.specs.Deeds.{told_of}
use Rattle.ecr_cells.specs.Desks.{state_of}
use Rattle.ecr_cells.proofs.RunLemmas.{Ran-cell_turn}
use Rattle.ecr_cells.proofs.desk.SoloDesk.cell_turn.Goals as goal

pub returns-clause-ran : goal.returns-clause-ran
returns-clause-ran c =
    let before = state_of c.args.self.now in
    let after = state_of c.make.new.self in
    let key = c.args.key.now in
    let content = given c.args.load in
    let place = c.in_ok-done.place in
    subst (λ (d : Decided). Ran before after (cell_turn key c.args.call content c.args.moment) d (place ∷ []))
    (sym c.outcome_of-outcome.ensures.reply)
    (Ran-cell_turn before after key c.in_ok-copy.copy c.args.call content c.args.moment
    (told_of c.in_ok-done.done) place c.in_ok-copy.ensures c.in_ok-done.ensures.ran)
