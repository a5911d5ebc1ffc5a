use Rattle.std.proofs.Common.{◌≤◌, ◌+◌, ℕ, arith, ap, subst, ◌∙◌}
use Rattle.std.proofs.lemmas.Result.{IfOk-weaker}
use Rattle.std.specs.Map.{keys_of}
use Rattle.ecr_pages.specs.Rows.{Paged, page_of, page_count, page_bound, births_of}
use Rattle.ecr_pages.specs.Places.{places_of, shelved, rowed}
use Rattle.ecr_pages.proofs.Counts.{rowed-count, rowed-bound}
use Rattle.ecr_pages.proofs.Sharing.{keeps_placed, shelf_rows, shelf_placed, all_shared}
use Rattle.ecr_pages.proofs.Views.{same_rows, none_owned}
use Rattle.ecr_pages.proofs.pages.Pages.snapshot.Goals as goal

pub invariant_of-self : goal.invariant_of-self
invariant_of-self g c = keeps_placed c.self.inside.book.entries c.share.new.book.entries c.share.ensures.kept
    c.self.invariant

pub returns-in_err-shelf-clause-rows : goal.returns-in_err-shelf-clause-rows
returns-in_err-shelf-clause-rows g c =
    same_rows places_of places_of c.self.inside.book.entries c.share.new.book.entries
    (λ q. c.share.ensures.kept.rows (page_of q) q)
    ∙ ap (λ p. p.rows) c.self.view_is

pub returns-in_err-shelf-clause-bound : goal.returns-in_err-shelf-clause-bound
returns-in_err-shelf-clause-bound g c =
    let old = c.self.inside.book.entries in
    let few : rowed old (keys_of old) ≤ page_bound (births_of c.args.self.now.rows) =
    subst (λ (p : Paged g.row.R.Denot). rowed old (keys_of old) ≤ page_bound (births_of p.rows)) c.self.view_is
    (rowed-bound old c.self.invariant c.share.ensures.ordered) in
    let steps : c.share.new.reads ≤ c.args.reads.now + rowed old (keys_of old) = c.share.ensures.bound in
    omega arith

pub of-requires : goal.of-requires
of-requires g c =
    shelf_placed c.self.inside.book.entries c.share.new.book.entries c.in_ok-shelf.shelf.entries
    c.in_ok-shelf.ensures.shelf c.self.invariant

pub invariant_of-self-2 : goal.invariant_of-self-2
invariant_of-self-2 g c = keeps_placed c.self.inside.book.entries c.share.new.book.entries c.share.ensures.kept
    c.self.invariant

pub returns-clause-snapshot : goal.returns-clause-snapshot
returns-clause-snapshot g c =
    let old = c.self.inside.book.entries in
    let shelf = c.in_ok-shelf.shelf.entries in
    IfOk-weaker c.of.result _ _
    (λ s e. e
    ∙ same_rows places_of shelved old shelf (shelf_rows old c.share.new.book.entries shelf c.in_ok-shelf.ensures.shelf)
    ∙ ap (λ p. p.rows) c.self.view_is)
    c.of.ensures

pub returns-clause-rows : goal.returns-clause-rows
returns-clause-rows g c =
    same_rows places_of places_of c.self.inside.book.entries c.share.new.book.entries
    (λ q. c.share.ensures.kept.rows (page_of q) q)
    ∙ ap (λ p. p.rows) c.self.view_is

pub returns-clause-shared : goal.returns-clause-shared
returns-clause-shared g c =
    IfOk-weaker c.of.result _ _
    (λ s e. none_owned c.share.new.book.entries
    (all_shared c.self.inside.book.entries c.share.new.book.entries c.in_ok-shelf.shelf.entries
    c.in_ok-shelf.ensures.shelf))
    c.of.ensures

pub returns-clause-cost : goal.returns-clause-cost
returns-clause-cost g c =
    let old = c.self.inside.book.entries in
    IfOk-weaker c.of.result _ _
    (λ s e. c.in_ok-shelf.ensures.cost
    ∙ ap (λ (n : ℕ). c.args.reads.now + n)
    (rowed-count old c.self.invariant c.share.ensures.ordered ∙ ap (λ p. page_count p.rows) c.self.view_is))
    c.of.ensures

pub returns-clause-bound : goal.returns-clause-bound
returns-clause-bound g c =
    let old = c.self.inside.book.entries in
    let few : rowed old (keys_of old) ≤ page_bound (births_of c.args.self.now.rows) =
    subst (λ (p : Paged g.row.R.Denot). rowed old (keys_of old) ≤ page_bound (births_of p.rows)) c.self.view_is
    (rowed-bound old c.self.invariant c.share.ensures.ordered) in
    let steps : c.share.new.reads ≤ c.args.reads.now + rowed old (keys_of old) = c.share.ensures.bound in
    omega arith
