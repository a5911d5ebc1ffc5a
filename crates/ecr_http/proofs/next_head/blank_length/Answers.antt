use Rattle.std.proofs.Common.{sym, arith}
use Rattle.ecr_model.proofs.lemmas.http.StreamLemmas.{blank_length-le}
use Rattle.ecr_http.proofs.NextHeadLemmas.{blank_length-more, blank_length-stop}
use Rattle.ecr_http.proofs.next_head.blank_length.Goals as goal

pub loop-n-preserved : goal.loop-n-preserved
loop-n-preserved c = blank_length-more c.args.bytes.now c.loop-n.n c.loop-n-test.true c.loop-n.invariant
    (sym c.if-not-is_blank.ensures)

pub returns : goal.returns
returns c =
    let at_most = c.loop-n.invariant in
    omega (arith, blank_length-le c.args.bytes.now)

pub returns-then-not-is_blank : goal.returns-then-not-is_blank
returns-then-not-is_blank c =
    blank_length-stop c.args.bytes.now c.loop-n.n c.loop-n-test.true c.loop-n.invariant (sym c.if-not-is_blank.ensures)
