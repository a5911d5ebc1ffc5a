use Rattle.ecr_session.proofs.TurnLemmas.{OnErr-always, StoppedWith-nothing, StoppedWith-within}
use Rattle.ecr_session.proofs.turns.site_at.Goals as goal

pub returns-in_err-reserve-clause-stopped : goal.returns-in_err-reserve-clause-stopped
returns-in_err-reserve-clause-stopped g c = OnErr-always _ _ (StoppedWith-nothing _ _ _ _ c.reserve.ensures.items)

pub returns-in_err-answer-clause-stopped : goal.returns-in_err-answer-clause-stopped
returns-in_err-answer-clause-stopped g c =
    OnErr-always _ _ (StoppedWith-within _ _ _ _ _ _ c.reserve.ensures.items c.in_err-answer.ensures.stopped)
