use Rattle.std.proofs.Common.{length}
use Rattle.ecr_json.specs.Thinning.{ReadsTexts}
use Rattle.ecr_json.proofs.thin.read_list.Given as goal

abbrev pub invariant-items : goal.invariant-items
invariant-items l = ReadsTexts l.depth l.initial.reader l.reader l.texts.items

abbrev pub decreases-items : goal.decreases-items
decreases-items l = length l.reader
