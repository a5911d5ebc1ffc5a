use Rattle.std.proofs.Common.{◌+◌, arith}
use Rattle.ecr_http.proofs.DigitsLemmas.{digits_value-more, digits_value-short}
use Rattle.ecr_http.proofs.framing.value_of.Goals as goal

pub overflow_mul-value : goal.overflow_mul-value
overflow_mul-value c =
    let ds = c.args.digits.now in
    omega (arith, c.loop-digit.invariant, digits_value-short ds c.loop-digit.digit-index c.requires)

pub overflow_add-value : goal.overflow_add-value
overflow_add-value c =
    let ds = c.args.digits.now in
    let i = c.loop-digit.digit-index in
    omega (
      arith,
      c.loop-digit.invariant,
      digits_value-more ds i c.requires c.loop-digit-test.true,
      digits_value-short ds (i + 1) c.requires,
    )

pub loop-digit-preserved : goal.loop-digit-preserved
loop-digit-preserved c =
    omega (
      arith,
      c.loop-digit.invariant,
      digits_value-more c.args.digits.now c.loop-digit.digit-index c.requires
          c.loop-digit-test.true,
    )
