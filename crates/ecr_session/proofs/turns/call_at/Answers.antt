use Rattle.std.proofs.Common.{◌∙◌}
use Rattle.ecr_session.proofs.TurnLemmas.{OnErr-always, StoppedWith-within, StoppedWith-nothing, StoppedWith-unheard}
use Rattle.ecr_session.proofs.turns.call_at.Goals as goal

pub returns-in_err-make_room-clause-stopped : goal.returns-in_err-make_room-clause-stopped
returns-in_err-make_room-clause-stopped g c = OnErr-always _ _ (StoppedWith-nothing _ _ _ _ c.make_room.ensures)

pub returns-in_err-answer-clause-stopped : goal.returns-in_err-answer-clause-stopped
returns-in_err-answer-clause-stopped g c =
    OnErr-always _ _ (StoppedWith-within _ _ _ _ _ _ c.make_room.ensures c.in_err-answer.ensures.stopped)

pub returns-in_err-put_behind-clause-stopped : goal.returns-in_err-put_behind-clause-stopped
returns-in_err-put_behind-clause-stopped g c =
    OnErr-always _ _ (StoppedWith-unheard _ _ _ _ _ _ _
    (c.in_err-put_behind.ensures.err ∙ c.make_room.ensures) c.in_ok-answer.ensures.ran)
