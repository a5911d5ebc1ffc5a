use Rattle.std.proofs.Common.{refl}
use Rattle.ecr_model.specs.http.Replies.{continue_reply}
use Rattle.ecr_http.proofs.next.continue_reply.Goals as goal

pub returns : goal.returns
unfolding continue_reply
returns c = refl
