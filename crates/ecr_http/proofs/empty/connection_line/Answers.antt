use Rattle.std.proofs.Common.{refl}
use Rattle.ecr_model.specs.http.Replies.{connection_line}
use Rattle.ecr_http.proofs.empty.connection_line.Goals as goal

pub returns-then-close : goal.returns-then-close
unfolding connection_line
returns-then-close c = record { line = rw c.if-close.true refl }

pub returns-else-close : goal.returns-else-close
unfolding connection_line
returns-else-close c = record { line = rw c.if-close.false refl }
