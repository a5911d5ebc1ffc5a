use Rattle.std.proofs.Common.{◌≡◌, is_some}
use Rattle.std.specs.List.{list_any}
use Rattle.ecr_pages.specs.Places.{row_in, has_row}
use Rattle.ecr_pages.proofs.places.has_row.Given as goal

abbrev pub invariant-loop-birth : goal.invariant-loop-birth
invariant-loop-birth g l = list_any (λ birth. is_some (row_in l.places.entries birth)) l.birth-iterator ≡ has_row
    l.places.entries
