use Rattle.ecr_pages.specs.Places.{IsCopying}
use Rattle.ecr_pages.proofs.places.copy_of.Given as goal

abbrev pub invariant-loop-birth : goal.invariant-loop-birth
invariant-loop-birth g l = IsCopying l.places.entries l.copy.entries l.birth-iterator
