use Rattle.std.proofs.Common.{◌≤◌}
use Rattle.ecr_http.specs.NextHeads.{IsRead}
use Rattle.ecr_http.specs.Takings.{left_to_read}
use Rattle.ecr_http.proofs.intake.Intake.find_head.Given as goal

abbrev pub invariant-loop-count : goal.invariant-loop-count
invariant-loop-count g l = record {
  read : IsRead (g.S.Source.left l.initial.source) l.initial.self (g.S.Source.left l.source) l.self;
  later : g.S.Source.faults l.initial.source ≤ g.S.Source.faults l.source;
}

abbrev pub decreases-loop-count : goal.decreases-loop-count
decreases-loop-count g l = left_to_read l.self
