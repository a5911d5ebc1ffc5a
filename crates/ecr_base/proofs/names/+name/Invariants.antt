use Rattle.std.proofs.Common.{length}
use Rattle.ecr_base.proofs.names.+name.Given as goal

abbrev pub decreases-after_dash : goal.decreases-after_dash
decreases-after_dash l = length l.text.now

abbrev pub decreases-after_underscore : goal.decreases-after_underscore
decreases-after_underscore l = length l.text.now

abbrev pub decreases-after_word : goal.decreases-after_word
decreases-after_word l = length l.text.now

abbrev pub decreases-at_word : goal.decreases-at_word
decreases-at_word l = length l.text.now
