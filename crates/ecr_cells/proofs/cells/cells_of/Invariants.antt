use Rattle.std.proofs.Common.{IsSome, All, take}
use Rattle.ecr_cells.specs.Desks.{site_at, AreEmpty}
use Rattle.ecr_cells.proofs.cells.cells_of.Given as goal

abbrev pub invariant-loop-site : goal.invariant-loop-site
invariant-loop-site l = record {
  empty : AreEmpty l.fn.served l.limits l.cells.entries;
  all : All (λ site. IsSome (site_at l.cells.entries site)) (take l.site-index l.fn.served);
}
