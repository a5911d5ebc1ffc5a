use Rattle.std.proofs.Common.{◌≡◌, ◌≤◌, ◌+◌, [], ◌∷◌, take, slice_index, refl, arith}
use Rattle.ecr_pages.specs.Places.{rowed}
use Rattle.ecr_pages.proofs.Sharing.{keeps_itself, keeps_more, shared_none, shares_more, rowed-more, rowed-least}
use Rattle.ecr_pages.proofs.book.share_all.Goals as goal

pub loop-number-init : goal.loop-number-init
loop-number-init g c = record {
  kept = keeps_itself c.args.book.now.entries;
  shared = shared_none c.args.book.now.entries c.args.shelf.now.entries c.requires.bare;
  cost = omega arith;
}

pub loop-number-preserved : goal.loop-number-preserved
loop-number-preserved g c =
    let old = c.args.book.now.entries in
    let book = c.loop-number.book.entries in
    let shelf = c.loop-number.shelf.entries in
    let numbers = c.args.numbers.now in
    let i = c.loop-number.number-index in
    let number = slice_index numbers i in
    let more : rowed old (take (i + 1) numbers) ≡ rowed old (take i numbers) + rowed book (number ∷ []) =
    rowed-more old book shelf numbers i number c.requires.rise c.loop-number-test.true refl
    c.loop-number.invariant.shared in
    let was : c.loop-number.reads ≡ c.args.reads.now + rowed old (take i numbers) = c.loop-number.invariant.cost in
    let now : c.share_one.new.reads ≡ c.loop-number.reads + rowed book (number ∷ []) = c.in_ok-share_one.ensures.cost in
    record {
      kept = keeps_more old book c.share_one.new.book.entries c.loop-number.invariant.kept c.share_one.ensures.kept;
      shared = shares_more old book c.share_one.new.book.entries shelf c.share_one.new.shelf.entries numbers i number
          c.requires.rise
          c.loop-number-test.true refl c.loop-number.invariant.shared c.in_ok-share_one.ensures.shared;
      cost = omega arith;
    }

pub returns-in_err-share_one-clause-kept : goal.returns-in_err-share_one-clause-kept
returns-in_err-share_one-clause-kept g c =
    keeps_more c.args.book.now.entries c.loop-number.book.entries c.share_one.new.book.entries
    c.loop-number.invariant.kept c.share_one.ensures.kept

pub returns-in_err-share_one-clause-bound : goal.returns-in_err-share_one-clause-bound
returns-in_err-share_one-clause-bound g c =
    let old = c.args.book.now.entries in
    let book = c.loop-number.book.entries in
    let numbers = c.args.numbers.now in
    let i = c.loop-number.number-index in
    let number = slice_index numbers i in
    let more : rowed old (take (i + 1) numbers) ≡ rowed old (take i numbers) + rowed book (number ∷ []) =
    rowed-more old book c.loop-number.shelf.entries numbers i number c.requires.rise c.loop-number-test.true refl
    c.loop-number.invariant.shared in
    let was : c.loop-number.reads ≡ c.args.reads.now + rowed old (take i numbers) = c.loop-number.invariant.cost in
    let now : c.share_one.new.reads ≤ c.loop-number.reads + rowed book (number ∷ []) = c.share_one.ensures.bound in
    let least : rowed old (take (i + 1) numbers) ≤ rowed old numbers = rowed-least old numbers (i + 1) in
    omega arith
