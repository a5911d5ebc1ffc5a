use Rattle.std.proofs.Common.{ap, ◌∙◌}
use Rattle.ecr_pages.specs.Places.{places_of, rows_in, owned_at}
use Rattle.ecr_pages.proofs.Views.{no_rows, none_owned}
use Rattle.ecr_pages.proofs.pages.Pages.new.Goals as goal

pub returns-clause-rows : goal.returns-clause-rows
returns-clause-rows g c = ap (rows_in places_of) c.new.ensures.empty ∙ no_rows places_of

pub returns-clause-owned : goal.returns-clause-owned
returns-clause-owned g c = none_owned c.new.result.entries (λ b. ap (λ es. owned_at es b) c.new.ensures.empty)
