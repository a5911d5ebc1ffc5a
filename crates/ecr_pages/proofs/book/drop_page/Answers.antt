use Rattle.ecr_pages.proofs.Views.{keeps_dropped}
use Rattle.ecr_pages.proofs.book.drop_page.Goals as goal

pub returns-clause-kept : goal.returns-clause-kept
returns-clause-kept g c =
    keeps_dropped c.args.book.now.entries c.remove.new.self.entries c.args.number c.requires c.remove.ensures.updates.0
