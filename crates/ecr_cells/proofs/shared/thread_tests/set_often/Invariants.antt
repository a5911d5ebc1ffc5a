use Rattle.ecr_desk.specs.Desks.{IsOf}
use Rattle.ecr_cells.specs.Shared.{pass_of, shared_of}
use Rattle.ecr_cells.proofs.shared.thread_tests.set_often.Given as goal

abbrev pub invariant-loop-turn : goal.invariant-loop-turn
invariant-loop-turn g l = IsOf (shared_of l.desk) (pass_of l.pass)
