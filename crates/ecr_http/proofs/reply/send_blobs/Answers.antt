use Rattle.std.proofs.Common.{subst, arith}
use Rattle.std.specs.Io.KnownBytes.{Appends}
use Rattle.ecr_http.specs.declared.write.Sent.TheVariants.{WriteFault}
use Rattle.ecr_http.specs.Sends.{Sends}
use Rattle.ecr_http.proofs.ReplyLemmas.{Appends-blob, Sends-blob_cut}
use Rattle.ecr_http.proofs.reply.send_blobs.Goals as goal

pub loop-blob-preserved : goal.loop-blob-preserved
loop-blob-preserved g c =
    let before = c.loop-blob.invariant.later in
    let later = c.in-Done.ensures.later in
    record {
      sent = Appends-blob _ _ _ c.args.blobs.now c.loop-blob.blob-index c.blob-item.result c.loop-blob-test.true
          c.blob-item.is c.loop-blob.invariant.sent
          (subst (λ l. Appends (g.K.Sink.held c.loop-blob.sink)
          (g.K.Sink.held c.send.new.sink) l) c.bytes.ensures.exact c.in-Done.ensures.sends);
      later = omega arith;
    }

pub returns-in-WriteFault-clause-sends : goal.returns-in-WriteFault-clause-sends
returns-in-WriteFault-clause-sends g c =
    Sends-blob_cut _ _ _ c.args.blobs.now c.loop-blob.blob-index c.blob-item.result c.loop-blob-test.true c.blob-item.is
    c.loop-blob.invariant.sent
    (subst (λ l. Sends (g.K.Sink.held c.loop-blob.sink)
    (g.K.Sink.held c.send.new.sink) l WriteFault) c.bytes.ensures.exact c.in-WriteFault.ensures.sends)
