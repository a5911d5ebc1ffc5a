use Rattle.std.proofs.Common.{◌≡◌, drop, map}
use Rattle.ecr_tagmatch.specs.Matches.{starts_some}
use Rattle.ecr_tagmatch.proofs.matches.starts_some.Given as goal

abbrev pub invariant-loop-tag : goal.invariant-loop-tag
invariant-loop-tag g l = starts_some l.prefix (map g.T.AsSlice.items l.tags) ≡ starts_some l.prefix
    (map g.T.AsSlice.items (drop l.tag-index l.tags))
