use Rattle.std.proofs.Common.{sym, ap, ◌∙◌}
use Rattle.std.specs.FinMap.{get}
use Rattle.ecr_pages.specs.Places.{places_of}
use Rattle.ecr_pages.proofs.Views.{get-rows}
use Rattle.ecr_pages.proofs.pages.Pages.read.Goals as goal

pub returns-clause-row : goal.returns-clause-row
returns-clause-row g c =
    c.row.ensures ∙ sym (get-rows places_of c.self.inside.book.entries c.args.birth)
    ∙ ap (λ p. get p.rows c.args.birth) c.self.view_is
