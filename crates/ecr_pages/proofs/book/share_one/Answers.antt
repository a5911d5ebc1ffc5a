use Rattle.ecr_pages.proofs.Sharing.{drops_page}
use Rattle.ecr_pages.proofs.book.share_one.Goals as goal

pub returns-then-not-has_row-clause-shared : goal.returns-then-not-has_row-clause-shared
returns-then-not-has_row-clause-shared g c =
    drops_page c.args.book.now.entries c.drop_page.new.book.entries c.args.shelf.now.entries c.args.number
    c.drop_page.ensures.bare
    c.drop_page.ensures.gone c.drop_page.ensures.others
