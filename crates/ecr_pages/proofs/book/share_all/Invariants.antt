use Rattle.std.proofs.Common.{◌≡◌, ◌+◌, take}
use Rattle.ecr_pages.specs.Places.{rowed, KeepsRows, HasShared}
use Rattle.ecr_pages.proofs.book.share_all.Given as goal

abbrev pub invariant-loop-number : goal.invariant-loop-number
invariant-loop-number g l = record {
  kept : KeepsRows l.fn.book.entries l.book.entries;
  shared : HasShared l.fn.book.entries l.book.entries l.shelf.entries (take l.number-index l.numbers);
  cost : l.reads ≡ l.fn.reads + rowed l.fn.book.entries (take l.number-index l.numbers);
}
