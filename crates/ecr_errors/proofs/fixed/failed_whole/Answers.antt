use Rattle.std.proofs.Common.{refl}
use Rattle.ecr_model.specs.http.Replies.{connection_line, failed_reply}
use Rattle.ecr_errors.proofs.fixed.failed_whole.Goals as goal

pub returns-then-close : goal.returns-then-close
unfolding failed_reply connection_line
returns-then-close c = rw c.if-close.true refl

pub returns-else-close : goal.returns-else-close
unfolding failed_reply connection_line
returns-else-close c = rw c.if-close.false refl
