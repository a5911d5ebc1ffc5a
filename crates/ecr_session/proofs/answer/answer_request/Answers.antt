use Rattle.ecr_session.proofs.AnswerLemmas.{Answers-failed, Answers-replied}
use Rattle.ecr_session.proofs.answer.answer_request.Goals as goal

pub returns-in-Ok : goal.returns-in-Ok
returns-in-Ok g c = Answers-replied _ _ _ _ _ _ c.new-places.result.items _ _ _ _ c.cut_of.ensures
    c.new-places.ensures.items c.made-before.ensures.count c.made.ensures.count c.in-Ok.ensures.replied

pub returns-in-Err : goal.returns-in-Err
returns-in-Err g c = Answers-failed _ _ _ _ c.new-places.result.items _ _ _ _ c.cut_of-in-Err.ensures
    c.new-places.ensures.items c.made-before.ensures.count c.made.ensures.count c.in-Err.ensures.stopped
