use Rattle.std.proofs.Common.{◌≡◌, drop, map}
use Rattle.ecr_tagmatch.specs.Matches.{all_wild}
use Rattle.ecr_tagmatch.proofs.matches.all_wild.Given as goal

abbrev pub invariant-loop-pattern : goal.invariant-loop-pattern
invariant-loop-pattern g l =
    all_wild (map g.P.AsSlice.items l.patterns) (map g.T.AsSlice.items l.tags) ≡ all_wild
    (map g.P.AsSlice.items (drop l.pattern-index l.patterns)) (map g.T.AsSlice.items l.tags)
