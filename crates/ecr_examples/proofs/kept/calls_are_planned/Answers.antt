use Rattle.std.proofs.Common.{refl}
use Rattle.ecr_examples.proofs.kept.calls_are_planned.Goals as goal

pub returns : goal.returns
returns c = record { planned = record { sizes = refl; unlimited = refl; fails = refl; next = refl; last = refl } }
