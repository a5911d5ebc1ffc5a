use Rattle.std.proofs.Common.{◌≤◌}
use Rattle.ecr_http.specs.Bodies.{Gathers}
use Rattle.ecr_http.specs.Takings.{left_to_read}
use Rattle.ecr_http.proofs.intake.Intake.take_sized.Given as goal

abbrev pub invariant-loop-body : goal.invariant-loop-body
invariant-loop-body g l = record {
  gathers : Gathers l.size (g.S.Source.left l.initial.source) l.initial.self
      (g.S.Source.left l.source) l.self l.body.items;
  later : g.S.Source.faults l.initial.source ≤ g.S.Source.faults l.source;
}

abbrev pub decreases-loop-body : goal.decreases-loop-body
decreases-loop-body g l = left_to_read l.self
