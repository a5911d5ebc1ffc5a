use Rattle.std.proofs.Common.{◌≡◌, take}
use Rattle.ecr_http.specs.Lines.{line_count}
use Rattle.ecr_http.proofs.head.count_few.Given as goal

abbrev pub invariant-loop-byte : goal.invariant-loop-byte
invariant-loop-byte l = l.lines ≡ line_count (take l.byte-index l.piece)
