use Rattle.std.proofs.Common.{sym, subst}
use Rattle.ecr_model.specs.registry.Contents.{AreContents}
use Rattle.ecr_session.proofs.AnswerLemmas.{IsReplied-asked, StoppedWith-asked}
use Rattle.ecr_session.proofs.TurnLemmas.{OnErr-always, StoppedWith-whole}
use Rattle.ecr_session.proofs.answer.answer_asked.Goals as goal

pub returns-in_err-decided-clause-stopped : goal.returns-in_err-decided-clause-stopped
returns-in_err-decided-clause-stopped g c =
    OnErr-always _ _ (StoppedWith-asked _ _ _ _ _ _ c.in_err-decided.ensures.stopped)

pub returns-clause-replied : goal.returns-clause-replied
returns-clause-replied g c =
    IsReplied-asked _ _ _ _ _ _ c.as_slice.result.now c.in_ok-reply.reply _ _ c.in_ok-decided.ensures.ran
    (subst (AreContents c.in_ok-decided.decided.reply) (sym c.as_slice.ensures.value) c.in_ok-decided.ensures.contents)
    c.in_ok-reply.ensures.exact

pub returns-in_err-reply-clause-stopped : goal.returns-in_err-reply-clause-stopped
returns-in_err-reply-clause-stopped g c =
    OnErr-always _ _ (StoppedWith-asked _ _ _ _ _ _ (StoppedWith-whole _ _ _ _ _ _ c.in_ok-decided.ensures.ran))
