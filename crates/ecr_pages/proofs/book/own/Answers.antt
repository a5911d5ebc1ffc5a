use Rattle.std.proofs.Common.{slice_index, refl, arith}
use Rattle.ecr_pages.proofs.Owning.{owns_itself, owns_more, owned_more}
use Rattle.ecr_pages.proofs.book.own.Goals as goal

pub loop-birth-init : goal.loop-birth-init
loop-birth-init g c =
    record { owns = owns_itself c.args.book.now.entries c.args.births.now; owned = λ j h. absurd (omega arith) }

pub loop-birth-preserved : goal.loop-birth-preserved
loop-birth-preserved g c =
    let births = c.args.births.now in
    let j = c.loop-birth.birth-index in
    let birth = slice_index births j in
    record {
      owns = owns_more c.args.book.now.entries c.loop-birth.book.entries c.own_one.new.book.entries births j birth
          c.loop-birth-test.true refl
          c.loop-birth.invariant.owns c.own_one.ensures.owns;
      owned = owned_more c.loop-birth.book.entries c.own_one.new.book.entries births j birth refl c.own_one.ensures.owns
          c.in_ok-own_one.ensures.owned c.loop-birth.invariant.owned;
    }

pub returns-in_err-own_one-clause-owns : goal.returns-in_err-own_one-clause-owns
returns-in_err-own_one-clause-owns g c =
    let births = c.args.births.now in
    let j = c.loop-birth.birth-index in
    owns_more c.args.book.now.entries c.loop-birth.book.entries c.own_one.new.book.entries births j
    (slice_index births j) c.loop-birth-test.true refl
    c.loop-birth.invariant.owns c.own_one.ensures.owns
