use Rattle.std.proofs.Common.{⊎_elim, inl, inr, slice_index, sym, ap, ◌∙◌}
use Rattle.std.proofs.lemmas.Result.{on_ok_weaker}
use Rattle.std.specs.FinSet.{contains}
use Rattle.ecr_pages.specs.Places.{places_of}
use Rattle.ecr_pages.proofs.Views.{contains-owned, same_rows}
use Rattle.ecr_pages.proofs.pages.Pages.own.Goals as goal

pub returns-clause-rows : goal.returns-clause-rows
returns-clause-rows g c =
    same_rows places_of places_of c.self.inside.book.entries c.own.new.book.entries c.own.ensures.owns.rows
    ∙ ap (λ p. p.rows) c.self.view_is

pub returns-clause-owned : goal.returns-clause-owned
returns-clause-owned g c =
    on_ok_weaker c.own.result
    (λ owned j h. contains-owned c.own.new.book.entries (slice_index c.args.births.now j) ∙ owned j h)
    c.own.ensures.owned

pub returns-clause-kept : goal.returns-clause-kept
returns-clause-kept g c = λ birth h.
    contains-owned c.own.new.book.entries birth
    ∙ c.own.ensures.owns.kept birth
    (sym (contains-owned c.self.inside.book.entries birth) ∙ ap (λ p. contains p.owned birth) c.self.view_is ∙ h)

pub returns-clause-others : goal.returns-clause-others
returns-clause-others g c = λ birth h.
    ⊎_elim
    (λ e. inl (sym (ap (λ p. contains p.owned birth) c.self.view_is) ∙ contains-owned c.self.inside.book.entries birth
    ∙ e))
    (λ e. inr e)
    (c.own.ensures.owns.others birth (sym (contains-owned c.own.new.book.entries birth) ∙ h))
