use Rattle.std.proofs.Common.{◌≡◌, drop, map}
use Rattle.ecr_tagmatch.specs.Matches.{matches_some}
use Rattle.ecr_tagmatch.proofs.matches.matches_some.Given as goal

abbrev pub invariant-loop-tag : goal.invariant-loop-tag
invariant-loop-tag g l = matches_some l.pattern (map g.T.AsSlice.items l.tags) ≡ matches_some l.pattern
    (map g.T.AsSlice.items (drop l.tag-index l.tags))
