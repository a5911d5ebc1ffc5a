use Rattle.std.proofs.Common.{◌≡◌, drop, fold}
use Rattle.ecr_policy.specs.Marks.{byte_mark}
use Rattle.ecr_policy.proofs.marked.text_mark.Given as goal

abbrev pub invariant-loop-byte : goal.invariant-loop-byte
invariant-loop-byte l = fold byte_mark l.fn.mark l.text ≡ fold byte_mark l.mark (drop l.byte-index l.text)
