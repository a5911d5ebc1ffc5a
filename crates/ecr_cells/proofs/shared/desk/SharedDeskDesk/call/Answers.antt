use Rattle.std.proofs.Common.{◌∷◌, [], refl}
use Rattle.ecr_blob_upload.specs.Loads.{given}
use Rattle.ecr_model.specs.requests.Requests.{call_script}
use Rattle.ecr_desk.proofs.DeskLemmas.{Stopped-at_first, Stopped-second, StoppedWithin-none}
use Rattle.ecr_cells.specs.Deeds.{told_of}
use Rattle.ecr_cells.specs.Desks.{places_made}
use Rattle.ecr_cells.specs.Shared.{seen_through}
use Rattle.ecr_cells.proofs.RunLemmas.{Ran-answered}
use Rattle.ecr_cells.proofs.WorldLemmas.{on_err_any}
use Rattle.ecr_cells.proofs.shared.desk.SharedDeskDesk.call.Goals as goal

pub returns-in_err-places-clause-stopped : goal.returns-in_err-places-clause-stopped
returns-in_err-places-clause-stopped g c =
    let seen = seen_through c.args.self.now c.args.pass.now in
    on_err_any c.from_residual.result
    (StoppedWithin-none 1 seen seen (call_script c.args.key.now c.args.call (given c.args.load) c.args.moment) refl)

pub returns-in_err-told-clause-stopped : goal.returns-in_err-told-clause-stopped
returns-in_err-told-clause-stopped g c =
    on_err_any c.from_residual-in_err-told.result
    (Stopped-at_first (seen_through c.args.self.now c.args.pass.now)
    (seen_through c.args.self.now c.first_turn.new.pass)
    c.args.key.now c.args.call (given c.args.load) c.args.moment c.in_err-told.ensures.err)

pub returns-in_err-outcome-clause-stopped : goal.returns-in_err-outcome-clause-stopped
returns-in_err-outcome-clause-stopped g c =
    on_err_any c.from_residual-in_err-outcome.result
    (Stopped-second (seen_through c.args.self.now c.args.pass.now)
    (seen_through c.args.self.now c.first_turn.new.pass)
    (seen_through c.args.self.now c.then_cell.new.pass) c.args.key.now c.args.call
    (given c.args.load) c.args.moment (told_of c.in_ok-told.told) (c.in_ok-told.first ∷ [])
    c.in_ok-told.ensures.ran c.in_err-outcome.ensures.err)

pub returns-clause-ran : goal.returns-clause-ran
returns-clause-ran g c =
    Ran-answered _ (seen_through c.args.self.now c.first_turn.new.pass) _ _ _ _ _ (told_of c.in_ok-told.told)
    c.in_ok-told.first (places_made c.in_ok-outcome.second) _ c.in_ok-outcome.outcome.reply _ _
    c.answer_of.ensures.reply c.answer_of.ensures.sealed c.answer_of.ensures.places c.in_ok-told.ensures.ran
    c.in_ok-outcome.ensures.ran
