use Rattle.std.proofs.Common.{◌≡◌, ◌<◌, ℕ, true, slice_index}
use Rattle.ecr_pages.specs.Places.{owned_at, OwnsFor}
use Rattle.ecr_pages.proofs.book.own.Given as goal

abbrev pub invariant-loop-birth : goal.invariant-loop-birth
invariant-loop-birth g l = record {
  owns : OwnsFor l.fn.book.entries l.book.entries l.births;
  owned : (j : ℕ) → j < l.birth-index → owned_at l.book.entries (slice_index l.births j) ≡ true;
}
