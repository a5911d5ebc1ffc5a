use Rattle.std.proofs.Common.{sym}
use Rattle.ecr_pages.proofs.Views.{placed_written}
use Rattle.ecr_pages.proofs.book.set.Goals as goal

pub returns-clause-placed : goal.returns-clause-placed
returns-clause-placed g c =
    let after = c.set.new.self in
    placed_written c.args.book.now.entries (c.get_mut.follows.lender after).entries c.page_of.result c.in-Some.page.now
    after
    (sym c.in-Some.ensures.value) (λ there. ((c.get_mut.follows.holds after).3 there).0) c.set.ensures.places
