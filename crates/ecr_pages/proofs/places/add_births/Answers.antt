use Rattle.std.proofs.Common.{is_some, sym, ◌++◌, ◌∙◌}
use Rattle.ecr_pages.specs.Places.{row_in, births_with_rows}
use Rattle.ecr_pages.proofs.Listing.{filtered_more}
use Rattle.ecr_pages.proofs.places.add_births.Goals as goal

pub loop-birth-preserved-in-Continue-1 : goal.loop-birth-preserved-in-Continue-1
loop-birth-preserved-in-Continue-1 g c =
    let places = c.args.places.now.entries in
    filtered_more (λ birth. is_some (row_in places birth)) c.loop-birth.births.items c.push.new.self.items
    (c.args.births.now.items ++ births_with_rows places) c.loop-birth.birth-iterator c.next.new.self c.in-Some.birth.now
    c.in_ok-push.ensures.items c.in-Some.ensures.steps (sym c.is_filled.ensures ∙ c.if-is_filled.true)
    c.loop-birth.invariant
