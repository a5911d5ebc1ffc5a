use Rattle.std.proofs.Common.{◌≤◌, take}
use Rattle.std.specs.Io.KnownBytes.{Appends}
use Rattle.std.specs.List.{concat}
use Rattle.ecr_http.proofs.reply.send_blobs.Given as goal

abbrev pub invariant-loop-blob : goal.invariant-loop-blob
invariant-loop-blob g l = record {
  sent : Appends (g.K.Sink.held l.initial.sink) (g.K.Sink.held l.sink) (concat (take l.blob-index l.blobs));
  later : g.K.Sink.faults l.initial.sink ≤ g.K.Sink.faults l.sink;
}
