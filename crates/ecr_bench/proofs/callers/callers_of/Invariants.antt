use Rattle.ecr_desk.specs.Desks.{IsOf}
use Rattle.ecr_cells.specs.Shared.{pass_of, shared_of}
use Rattle.ecr_bench.proofs.callers.callers_of.Given as goal

abbrev pub invariant-loop-number : goal.invariant-loop-number
invariant-loop-number g l = IsOf (shared_of l.desk) (pass_of l.pass)
