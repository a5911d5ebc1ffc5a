use Rattle.std.proofs.Common.{◌-◌, ◌≤◌}
use Rattle.ecr_model.specs.registry.Journals.{past}
use Rattle.ecr_ample.proofs.states.register_often.Given as goal

abbrev pub invariant-loop-ticket : goal.invariant-loop-ticket
invariant-loop-ticket l = past l.state.journal ≤ l.ticket

abbrev pub decreases-loop-ticket : goal.decreases-loop-ticket
decreases-loop-ticket l = 3000 - l.ticket
