use Rattle.std.proofs.Common.{sym, ap, ◌∙◌}
use Rattle.std.specs.FinMap as map
use Rattle.std.specs.FinSet.{contains}
use Rattle.ecr_pages.specs.Places.{places_of}
use Rattle.ecr_pages.proofs.Views.{contains-owned, same_owned, row_set}
use Rattle.ecr_pages.proofs.pages.Pages.set.Goals as goal

pub set-requires : goal.set-requires
set-requires g c =
    sym (contains-owned c.self.inside.book.entries c.args.birth)
    ∙ ap (λ p. contains p.owned c.args.birth) c.self.view_is ∙ c.requires

pub returns-clause-owned : goal.returns-clause-owned
returns-clause-owned g c =
    same_owned c.self.inside.book.entries c.set.new.book.entries c.set.ensures.owned ∙ ap (λ p. p.owned) c.self.view_is

pub returns-clause-rows : goal.returns-clause-rows
returns-clause-rows g c =
    row_set places_of c.self.inside.book.entries c.set.new.book.entries c.args.birth c.args.row c.set.ensures.rows
    ∙ ap (λ p. map.insert p.rows c.args.birth c.args.row) c.self.view_is
