use Rattle.ecr_serve.specs.Serving.{TakesLinks}
use Rattle.ecr_serve.proofs.workers.take_links.Given as goal

abbrev pub invariant-loop : goal.invariant-loop
invariant-loop g l = TakesLinks (g.A.Accept.entrance l.initial.accept) (g.A.Accept.entrance l.accept)
