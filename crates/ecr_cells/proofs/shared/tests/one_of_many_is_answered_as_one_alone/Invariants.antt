use Rattle.ecr_desk.specs.Desks.{IsOf}
use Rattle.ecr_cells.specs.Shared.{pass_of, shared_of}
use Rattle.ecr_cells.proofs.shared.tests.one_of_many_is_answered_as_one_alone.Given as goal

abbrev pub invariant-loop-at : goal.invariant-loop-at
invariant-loop-at g l = IsOf (shared_of l.desk) (pass_of l.pass)
