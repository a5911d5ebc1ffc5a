use Rattle.std.proofs.Common.{◌≤◌}
use Rattle.ecr_model.specs.http.Stream.{blank_length}
use Rattle.ecr_http.proofs.next_head.blank_length.Given as goal

abbrev pub invariant-loop-n : goal.invariant-loop-n
invariant-loop-n l = l.n ≤ blank_length l.bytes
