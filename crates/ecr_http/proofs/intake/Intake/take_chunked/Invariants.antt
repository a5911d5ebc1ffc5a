use Rattle.std.proofs.Common.{◌≤◌}
use Rattle.ecr_http.specs.Decoding.{Decodes, left_to_do}
use Rattle.ecr_http.proofs.intake.Intake.take_chunked.Given as goal

abbrev pub invariant-loop-body : goal.invariant-loop-body
invariant-loop-body g l = record {
  decodes : Decodes l.limit (g.S.Source.left l.initial.source) l.initial.self
      (g.S.Source.left l.source) l.self l.body.items l.stage;
  later : g.S.Source.faults l.initial.source ≤ g.S.Source.faults l.source;
}

abbrev pub decreases-loop-body : goal.decreases-loop-body
decreases-loop-body g l = left_to_do l.stage l.self
