use Rattle.std.proofs.Common.{◌<◌, length, sym, ◌∙◌, arith}
use Rattle.ecr_manifest.proofs.GivenLemmas.{through_last-other, through_last-space}
use Rattle.ecr_manifest.proofs.given.before_spaces.Goals as goal
use Rattle.ecr_manifest.proofs.given.before_spaces.Goals.{then-byte-ne32, else-byte-ne32}

pub loop-at-preserved : goal.loop-at-preserved
loop-at-preserved c =
    let t = c.args.text.now in
    let i = c.loop-at.at in
    let lt : i < length t = omega arith in
    elim c.if-byte-ne32.branch [
      | then-byte-ne32 w ↦
          record { within = omega arith; last = w.end-is ∙ sym (through_last-other t i lt w.if-byte-ne32.true) }
      | else-byte-ne32 w ↦
          record {
            within = omega arith;
            last = w.end-is ∙ c.loop-at.invariant.last
                ∙ sym (through_last-space t i lt w.if-byte-ne32.false);
          }
    ]
