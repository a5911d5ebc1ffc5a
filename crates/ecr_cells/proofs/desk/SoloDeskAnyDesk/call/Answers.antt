use Rattle.std.proofs.Common.{◌∷◌, ℕ, List, [], refl, sym, ap, subst}
use Rattle.ecr_blob_upload.specs.Loads.{given}
use Rattle.ecr_model.specs.declared.requests.reply.Reply.{Reply}
use Rattle.ecr_model.specs.registry.Contents.{AreContents}
use Rattle.ecr_model.specs.requests.Requests.{call_script}
use Rattle.ecr_desk.specs.Desks.{seen_by}
use Rattle.ecr_desk.proofs.DeskLemmas.{Stopped-call, StoppedWithin-none}
use Rattle.ecr_cells.specs.Deeds.{told_of}
use Rattle.ecr_cells.specs.Desks.{state_of, places_made}
use Rattle.ecr_cells.proofs.RunLemmas.{Ran-answered}
use Rattle.ecr_cells.proofs.WorldLemmas.{on_err_any}
use Rattle.ecr_cells.proofs.desk.SoloDeskAnyDesk.call.Goals as goal

pub returns-in_err-places-clause-stopped : goal.returns-in_err-places-clause-stopped
returns-in_err-places-clause-stopped c =
    let seen = state_of c.args.self.now in
    on_err_any c.from_residual.result
    (StoppedWithin-none 1 seen seen (call_script c.args.key.now c.args.call (given c.args.load) c.args.moment) refl)

pub returns-in_err-told-clause-stopped : goal.returns-in_err-told-clause-stopped
returns-in_err-told-clause-stopped c =
    on_err_any c.from_residual-in_err-told.result
    (StoppedWithin-none 1 (state_of c.args.self.now) (state_of c.first_turn.new.self)
    (call_script c.args.key.now c.args.call (given c.args.load) c.args.moment)
    (ap seen_by c.in_err-told.ensures.err))

pub returns-in_err-outcome-clause-stopped : goal.returns-in_err-outcome-clause-stopped
returns-in_err-outcome-clause-stopped c =
    on_err_any c.from_residual-in_err-outcome.result
    (Stopped-call (state_of c.args.self.now) (state_of c.first_turn.new.self)
    (state_of c.then_cell.new.self) c.args.key.now c.args.call (given c.args.load) c.args.moment
    (told_of c.in_ok-told.told) (c.in_ok-told.first ∷ []) c.in_ok-told.ensures.ran
    (ap seen_by c.in_err-outcome.ensures.err))

pub returns-clause-ran : goal.returns-clause-ran
returns-clause-ran c =
    Ran-answered _ (state_of c.first_turn.new.self) _ _ _ _ _ (told_of c.in_ok-told.told) c.in_ok-told.first
    (places_made c.in_ok-outcome.second) _ c.in_ok-outcome.outcome.reply _ _ c.answer_of.ensures.reply
    c.answer_of.ensures.sealed c.answer_of.ensures.places c.in_ok-told.ensures.ran c.in_ok-outcome.ensures.ran

pub returns-clause-contents : goal.returns-clause-contents
returns-clause-contents c =
    subst (λ (bs : List (List ℕ)). AreContents c.answer_of.result.reply bs) (sym c.answer_of.ensures.blobs)
    (subst (λ (r : Reply). AreContents r c.in_ok-outcome.outcome.blobs.items)
    (sym c.answer_of.ensures.reply) c.in_ok-outcome.ensures.contents)
