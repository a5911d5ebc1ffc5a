use Rattle.std.proofs.Common.{arith}
use Rattle.std.proofs.lemmas.Result.{err_from_is_err_and}
use Rattle.ecr_http.proofs.NextHeadLemmas.{IsRead-start}
use Rattle.ecr_http.proofs.intake.Intake.find_head.Goals as goal

pub loop-count-init : goal.loop-count-init
loop-count-init g c = record {
  read = IsRead-start (g.S.Source.left c.args.source.now) c.args.self.now c.requires.ready;
  later = omega arith;
}

pub returns-in_err-lengthen-clause-finds : goal.returns-in_err-lengthen-clause-finds
returns-in_err-lengthen-clause-finds g c =
    let p = err_from_is_err_and c.from_residual.result c.from_residual.ensures.1 in
    rw (p.1, p.2) (c.in_err-lengthen.ensures.goes_on _ c.args.self.now
    (c.skip_blank.ensures.goes_on _ _ c.args.self.now c.loop-count.invariant.read))
