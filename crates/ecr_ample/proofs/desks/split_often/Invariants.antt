use Rattle.ecr_desk.specs.Desks.{IsOf}
use Rattle.ecr_cells.specs.Shared.{pass_of, shared_of}
use Rattle.ecr_ample.proofs.desks.split_often.Given as goal

abbrev pub invariant-loop : goal.invariant-loop
invariant-loop g l = IsOf (shared_of l.desk) (pass_of l.pass)
