use Rattle.std.proofs.Common.{refl}
use Rattle.ecr_model.specs.sessions.Commands.{ready_line}
use Rattle.ecr_serve.proofs.server.ready_text.Goals as goal

pub returns : goal.returns
unfolding ready_line
returns c = refl
