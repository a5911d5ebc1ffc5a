use Rattle.std.proofs.Common.{sym, ap, ◌∙◌}
use Rattle.std.specs.FinMap.{get}
use Rattle.ecr_pages.specs.Places.{shelved, row_at}
use Rattle.ecr_pages.proofs.Views.{get-rows}
use Rattle.ecr_pages.proofs.snapshot.Snapshot.read.Goals as goal

pub returns-clause-row : goal.returns-clause-row
returns-clause-row g c =
    c.shelf_row.ensures ∙ ap (λ shelf. row_at shelved shelf.entries c.args.birth) c.deref.ensures
    ∙ sym (get-rows shelved c.self.inside.shelf.value.entries c.args.birth)
    ∙ ap (λ m. get m c.args.birth) c.self.view_is
