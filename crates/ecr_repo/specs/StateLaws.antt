-- What holds of a name's state in turns. Tickets count from 0.
use Rattle.std.specs.Prelude.{◌≡◌, ◌≤◌, ℕ, suc, false}
use Rattle.ecr_model.specs.declared.requests.call.Call.{Call}
use Rattle.ecr_model.specs.registry.Journals.{past}
use Rattle.ecr_model.specs.registry.Steps.{Turn}
use Rattle.ecr_repo.specs.States.{State, AnswersOnly, changes_repository, after_call}

-- a call that asks changes nothing
abbrev pub AnAnswerChangesNothing : Type 0
AnAnswerChangesNothing = (state : State) (turn : Turn) (call : Call) → AnswersOnly call
    → changes_repository state turn call ≡ false

-- the next ticket is above all in the journal after a turn, where the turn's own was before it
abbrev pub TheNextTurnIsLater : Type 0
TheNextTurnIsLater = (state : State) (caller : ℕ) (turn : Turn) (call : Call)
    → past state.journal ≤ turn.ticket → past (after_call state caller turn call).journal ≤ suc turn.ticket
