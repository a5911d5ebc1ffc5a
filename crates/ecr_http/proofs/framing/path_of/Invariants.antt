use Rattle.std.proofs.Common.{◌≡◌, ◌<◌, ℕ, false, get_or, eqb}
use Rattle.ecr_http.proofs.framing.path_of.Given as goal

abbrev pub invariant-loop-at : goal.invariant-loop-at
invariant-loop-at l = (k : ℕ) → k < l.at → eqb (get_or l.target k 0) 63 ≡ false
