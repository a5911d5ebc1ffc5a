use Rattle.std.proofs.Common.{refl}
use Rattle.ecr_model.specs.sessions.Commands.{usage_lines}
use Rattle.ecr_serve.proofs.command.usage_text.Goals as goal

pub returns : goal.returns
unfolding usage_lines
returns c = refl
