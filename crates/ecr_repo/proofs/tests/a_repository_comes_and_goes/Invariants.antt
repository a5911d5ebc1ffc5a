use Rattle.std.proofs.Common.{◌≤◌}
use Rattle.ecr_model.specs.registry.Journals.{past}
use Rattle.ecr_repo.proofs.tests.a_repository_comes_and_goes.Given as goal

abbrev pub invariant-loop-ticket : goal.invariant-loop-ticket
invariant-loop-ticket g l = past l.state.journal ≤ l.ticket-counter

abbrev pub invariant-loop-line : goal.invariant-loop-line
invariant-loop-line g l =
    (goal.iterator-loop-line g).can_next l.line-iterator ×
    (goal.iterator-loop-line g).is_finite l.line-iterator
