use Rattle.std.proofs.Common.{arith, ap, ◌∙◌, subst, length, take, length-drop}
use Rattle.std.specs.Io.KnownBytes.{Appends}
use Rattle.ecr_http.proofs.SendLemmas.{Appends-take, Sends-failed}
use Rattle.ecr_http.proofs.write.send.Goals as goal

pub loop-at-preserved : goal.loop-at-preserved
loop-at-preserved g c =
    let e = c.in-Bytes.ensures in
    let count = e.count in
    let size = ap length c.rest_from.ensures ∙ length-drop c.loop-at.at c.args.piece.now in
    let later = e.later in
    let before = c.loop-at.invariant.later in
    record {
      within = omega arith;
      sent = Appends-take _ _ _ c.args.piece.now c.loop-at.at c.in-Bytes.n c.loop-at.invariant.sent
          (subst (λ rest. Appends (g.K.Sink.held c.loop-at.sink) (g.K.Sink.held c.write.new.self)
          (take c.in-Bytes.n rest)) c.rest_from.ensures e.bytes);
      later = omega arith;
    }

pub returns-in-Failed-clause-sends : goal.returns-in-Failed-clause-sends
returns-in-Failed-clause-sends g c = Sends-failed _ _ _ c.args.piece.now c.loop-at.at c.loop-at-test.true
    c.loop-at.invariant.sent c.in-Failed.ensures.bytes
