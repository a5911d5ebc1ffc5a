use Rattle.std.proofs.Common.{length}
use Rattle.ecr_api.proofs.members.+named_value.Given as goal

abbrev pub decreases-named_value : goal.decreases-named_value
decreases-named_value l = length l.values.now
