use Rattle.std.proofs.Common.{◌≤◌, ◌-◌, length}
use Rattle.ecr_model.specs.http.Framing.{HasNoEnd}
use Rattle.ecr_http.proofs.head.find_end_within.Given as goal

abbrev pub invariant-loop-looked : goal.invariant-loop-looked
invariant-loop-looked l = (l.looked ≤ length l.bytes) × HasNoEnd l.bytes l.looked

abbrev pub decreases-loop-looked : goal.decreases-loop-looked
decreases-loop-looked l = length l.bytes - l.looked
