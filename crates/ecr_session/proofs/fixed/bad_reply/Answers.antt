use Rattle.std.proofs.Common.{refl}
use Rattle.ecr_model.specs.http.Replies.{bad_reply, empty_reply, connection_line}
use Rattle.ecr_session.proofs.fixed.bad_reply.Goals as goal

pub returns : goal.returns
unfolding bad_reply empty_reply connection_line
returns c = refl
