use Rattle.std.proofs.Common.{arith}
use Rattle.std.proofs.lemmas.Result.{err_from_is_err_and}
use Rattle.ecr_http.proofs.DecodingLemmas.{Decodes-start, HasBody-decoded, Decoded-rest}
use Rattle.ecr_http.proofs.intake.Intake.take_chunked.Goals as goal

pub loop-body-init : goal.loop-body-init
loop-body-init g c = record {
  decodes = Decodes-start c.args.limit _ c.args.self.now c.new-body.result.items c.new-body.ensures.items
      c.requires.spent;
  later = omega arith;
}

pub overflow_sub-size : goal.overflow_sub-size
overflow_sub-size g c =
    let d = rw c.in-None.is at (c.in_ok-next.ensures.goes_on _ c.args.self.now c.loop-body.invariant.decodes) in
    omega (arith, d.come.counted)

pub overflow_sub-size-in-None : goal.overflow_sub-size-in-None
overflow_sub-size-in-None g c =
    let d = rw c.in-None.is at (c.in_ok-next.ensures.goes_on _ c.args.self.now c.loop-body.invariant.decodes) in
    let fits = Decoded-rest c.args.limit _ c.args.self.now _ c.decode.new.self _ c.len-held.result d
    c.len-held.ensures.length in
    omega (arith, c.len.ensures.length)

pub returns-in-None-clause-takes : goal.returns-in-None-clause-takes
returns-in-None-clause-takes g c =
    let d = rw c.in-None.is at (c.in_ok-next.ensures.goes_on _ c.args.self.now c.loop-body.invariant.decodes) in
    let left = c.len.ensures.length in
    HasBody-decoded c.args.limit _ c.args.self.now _ c.decode.new.self c.len-held.result _ d c.len-held.ensures.length
    (omega arith)

pub returns-in_err-next-clause-takes : goal.returns-in_err-next-clause-takes
returns-in_err-next-clause-takes g c =
    let p = err_from_is_err_and c.from_residual.result c.from_residual.ensures.1 in
    rw (p.1, p.2) (c.in_err-next.ensures.goes_on _ c.args.self.now c.loop-body.invariant.decodes)
