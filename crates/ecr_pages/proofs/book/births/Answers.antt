use Rattle.std.proofs.Common.{◌++◌, sym, ap, subst, ◌∙◌}
use Rattle.std.specs.List.{flat_map, AllByRecursion}
use Rattle.std.specs.List.Sorted.{IsStrictlySortedBy}
use Rattle.std.specs.Map.{keys_of}
use Rattle.std.specs.Ordering.{nat_cmp}
use Rattle.ecr_pages.specs.Places.{shelved, births_with_rows, births_shelved}
use Rattle.ecr_pages.proofs.Births.{listed-births}
use Rattle.ecr_pages.proofs.Listing.{flat_values, all_values, told_more, told_all}
use Rattle.ecr_pages.proofs.book.births.Goals as goal

pub loop-places-init : goal.loop-places-init
loop-places-init g c =
    let shelf = c.args.shelf.now.entries in
    let all = c.into_iter-places-iterator.ensures.into_iter_gives ∙ c.values-places-items.ensures.rest in
    record {
      told = ap (λ ns. ns ++ flat_map (λ p. births_with_rows (shelved p)) c.into_iter-places-iterator.result)
          c.new-births.ensures.items
          ∙ ap (flat_map (λ p. births_with_rows (shelved p))) all
          ∙ flat_values (λ p. births_with_rows (shelved p)) shelf;
      rise = λ h. all_values (λ p. IsStrictlySortedBy nat_cmp (keys_of (shelved p))) shelf
          (subst (AllByRecursion (λ p. IsStrictlySortedBy nat_cmp (keys_of (shelved p)))) all h);
    }

pub loop-places-preserved : goal.loop-places-preserved
loop-places-preserved g c =
    let told = c.loop-places.births.items in
    record {
      told = told_more (λ p. births_with_rows (shelved p)) told c.add_births.new.births.items
          (births_shelved c.args.shelf.now.entries)
          c.loop-places.places-iterator c.next.new.self c.in-Some.places.now
          (c.in_ok-add_births.ensures.births ∙ ap (λ s. told ++ births_with_rows s.entries) c.deref.ensures)
          c.in-Some.ensures.steps
          c.loop-places.invariant.told;
      rise = λ h. c.loop-places.invariant.rise
          (subst (AllByRecursion (λ p. IsStrictlySortedBy nat_cmp (keys_of (shelved p)))) (sym c.in-Some.ensures.steps) (
            subst (λ s. IsStrictlySortedBy nat_cmp (keys_of s.entries)) c.deref.ensures c.add_births.ensures.ordered,
            h,
          ));
    }

pub returns : goal.returns
returns g c =
    let shelf = c.args.shelf.now.entries in
    told_all (λ p. births_with_rows (shelved p)) c.loop-places.births.items (births_shelved shelf)
    c.loop-places.places-iterator
    c.in-None.ensures.steps.0 c.loop-places.invariant.told
    ∙ listed-births shelved shelf c.values-places-items.ensures.ordered
    (c.loop-places.invariant.rise
    (subst (AllByRecursion (λ p. IsStrictlySortedBy nat_cmp (keys_of (shelved p)))) (sym c.in-None.ensures.steps.0)
    tt))
    c.requires
