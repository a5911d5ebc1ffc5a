use Rattle.std.proofs.Common.{sym, ap, ◌∙◌}
use Rattle.std.specs.FinMap as map
use Rattle.std.specs.FinSet.{contains}
use Rattle.ecr_pages.specs.Places.{places_of}
use Rattle.ecr_pages.proofs.Views.{get-rows, contains-owned, same_owned, row_removed}
use Rattle.ecr_pages.proofs.pages.Pages.remove.Goals as goal

pub take-requires : goal.take-requires
take-requires g c =
    sym (contains-owned c.self.inside.book.entries c.args.birth)
    ∙ ap (λ p. contains p.owned c.args.birth) c.self.view_is ∙ c.requires

pub returns-clause-owned : goal.returns-clause-owned
returns-clause-owned g c =
    same_owned c.self.inside.book.entries c.take.new.book.entries c.take.ensures.owned
    ∙ ap (λ p. p.owned) c.self.view_is

pub returns-clause-rows : goal.returns-clause-rows
returns-clause-rows g c =
    row_removed places_of c.self.inside.book.entries c.take.new.book.entries c.args.birth c.take.ensures.rows
    ∙ ap (λ p. map.remove p.rows c.args.birth) c.self.view_is

pub returns-clause-row : goal.returns-clause-row
returns-clause-row g c =
    c.take.ensures.row ∙ sym (get-rows places_of c.self.inside.book.entries c.args.birth)
    ∙ ap (λ p. map.get p.rows c.args.birth) c.self.view_is
