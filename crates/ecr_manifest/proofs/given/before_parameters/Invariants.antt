use Rattle.std.proofs.Common.{◌≡◌, ◌<◌, ℕ, false, get_or, eqb}
use Rattle.ecr_manifest.proofs.given.before_parameters.Given as goal

abbrev pub invariant-loop-at : goal.invariant-loop-at
invariant-loop-at l = (k : ℕ) → k < l.at → eqb (get_or l.text k 0) 59 ≡ false
