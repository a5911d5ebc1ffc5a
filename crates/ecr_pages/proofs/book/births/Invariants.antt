use Rattle.std.proofs.Common.{◌≡◌, ◌++◌}
use Rattle.std.specs.List.{flat_map, AllByRecursion}
use Rattle.std.specs.List.Sorted.{IsStrictlySortedBy}
use Rattle.std.specs.Map.{keys_of}
use Rattle.std.specs.Ordering.{nat_cmp}
use Rattle.ecr_pages.specs.Places.{shelved, births_with_rows, births_shelved, EachRises}
use Rattle.ecr_pages.proofs.book.births.Given as goal

abbrev pub invariant-loop-places : goal.invariant-loop-places
invariant-loop-places g l = record {
  told : l.births.items ++ flat_map (λ p. births_with_rows (shelved p)) l.places-iterator ≡ births_shelved
      l.shelf.entries;
  rise : AllByRecursion (λ p. IsStrictlySortedBy nat_cmp (keys_of (shelved p))) l.places-iterator
      → EachRises l.shelf.entries;
}
