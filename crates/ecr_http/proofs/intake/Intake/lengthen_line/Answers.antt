use Rattle.std.proofs.Common.{arith}
use Rattle.ecr_model.specs.http.Chunks.{max_chunk_line}
use Rattle.ecr_http.proofs.StageLemmas.{Line-awaits, Line-long}
use Rattle.ecr_http.proofs.intake.Intake.lengthen_line.Goals as goal

pub returns-then-len-ge-MAX_CHUNK_LINE-clause-goes_on : goal.returns-then-len-ge-MAX_CHUNK_LINE-clause-goes_on
unfolding max_chunk_line
returns-then-len-ge-MAX_CHUNK_LINE-clause-goes_on g c = λ limit before old body d.
    let long = c.if-len-ge-MAX_CHUNK_LINE.true in
    Line-long limit before old _ c.args.self.now body c.requires (omega (arith, c.len.ensures.length)) d

pub returns-clause-goes_on : goal.returns-clause-goes_on
unfolding max_chunk_line
returns-clause-goes_on g c = λ limit before old body d.
    let few = c.if-len-ge-MAX_CHUNK_LINE.false in
    c.read_on.ensures.goes_on limit before old body
    (Line-awaits limit before old _ c.args.self.now body c.requires (omega (arith, c.len.ensures.length)) d)
