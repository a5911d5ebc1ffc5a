use Rattle.std.proofs.Common.{◌≡◌, ◌++◌, is_some, filter}
use Rattle.ecr_pages.specs.Places.{row_in, births_with_rows}
use Rattle.ecr_pages.proofs.places.add_births.Given as goal

abbrev pub invariant-loop-birth : goal.invariant-loop-birth
invariant-loop-birth g l =
    l.births.items ++ filter (λ birth. is_some (row_in l.places.entries birth)) l.birth-iterator
    ≡ l.fn.births.items ++ births_with_rows l.places.entries
