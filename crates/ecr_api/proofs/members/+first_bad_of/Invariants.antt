use Rattle.std.proofs.Common.{length}
use Rattle.ecr_api.proofs.members.+first_bad_of.Given as goal

abbrev pub decreases-first_bad_of : goal.decreases-first_bad_of
decreases-first_bad_of l = length l.values.now
