use Rattle.std.proofs.Common.{refl}
use Rattle.ecr_model.specs.registry.Limits.{standard}
use Rattle.ecr_model.proofs.registry.journal.Limits.standard.Goals as goal

pub returns : goal.returns
unfolding standard
returns c = record { limits = refl }
