use Rattle.std.proofs.Common.{◌≡◌, ◌+◌, length}
use Rattle.ecr_http.specs.Lines.{line_count}
use Rattle.ecr_http.proofs.head.count_lines.Given as goal

abbrev pub invariant-loop-rest : goal.invariant-loop-rest
invariant-loop-rest l = l.lines + line_count l.rest ≡ line_count l.bytes

abbrev pub decreases-loop-rest : goal.decreases-loop-rest
decreases-loop-rest l = length l.rest
