use Rattle.ecr_http.proofs.DecodingLemmas.{line-whole}
use Rattle.ecr_http.proofs.chunk_line.size_of.Goals as goal

pub returns-else-len-line : goal.returns-else-len-line
returns-else-len-line c = record {
  size = λ l reads.
      let complete = rw c.in-Ok-Complete.field-0-is at c.in-Ok-Complete.ensures.complete in
      c.if-len-line.false (line-whole c.args.line.now _ _ complete.0 l complete.1 reads);
}
