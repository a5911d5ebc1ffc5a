use Rattle.std.proofs.Common.{◌≡◌, drop, map}
use Rattle.ecr_tagmatch.specs.Matches.{all_start}
use Rattle.ecr_tagmatch.proofs.matches.all_start.Given as goal

abbrev pub invariant-loop-prefix : goal.invariant-loop-prefix
invariant-loop-prefix g l =
    all_start (map g.P.AsSlice.items l.prefixes) (map g.T.AsSlice.items l.tags) ≡ all_start
    (map g.P.AsSlice.items (drop l.prefix-index l.prefixes)) (map g.T.AsSlice.items l.tags)
