use Rattle.std.proofs.Common.{length, drop, ◌-◌, ◌+◌, ◌≡◌, ◌≤◌}
use Rattle.ecr_tagmatch.specs.Agreed.{agreed}
use Rattle.ecr_tagmatch.proofs.wildcards.agreed.Given as goal

abbrev pub invariant-loop-at : goal.invariant-loop-at
invariant-loop-at l =
    (l.at ≤ length l.pattern) × (l.at ≤ length l.tag)
    × (l.at + agreed (drop l.at l.pattern) (drop l.at l.tag) ≡ agreed l.pattern l.tag)

abbrev pub decreases-loop-at : goal.decreases-loop-at
decreases-loop-at l = length l.pattern - l.at
