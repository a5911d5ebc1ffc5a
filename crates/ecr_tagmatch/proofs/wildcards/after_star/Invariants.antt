use Rattle.std.proofs.Common.{◌≡◌, ◌∷◌, length, ◌+◌}
use Rattle.ecr_tagmatch.specs.Matches.{wild}
use Rattle.ecr_tagmatch.proofs.wildcards.after_star.Given as goal

abbrev pub invariant-places : goal.invariant-places
invariant-places l = wild (42 ∷ l.fn.pattern) l.fn.tag ≡ wild (42 ∷ l.pattern) l.tag

abbrev pub decreases-places : goal.decreases-places
decreases-places l = length l.pattern + length l.tag
