use Rattle.std.proofs.Common.{◌≡◌, ◌+◌, ◌<◌, ℕ, zero, suc, true, false, cond, List, [], ◌∷◌, map, Option, ◌&&◌, ◌++◌, refl, sym, ap, ◌∙◌, arith}
use Rattle.std.specs.Prelude.{slice_index}
use Rattle.std.specs.Cmp.{nat_cmp_total}
use Rattle.std.specs.BTreeMap.{BTreeMap}
use Rattle.std.specs.FinMap as finite
use Rattle.std.specs.FinMap.{entries-from_sorted, nat_cmp-IsAntisymmetric}
use Rattle.std.specs.FinSet as set
use Rattle.std.specs.FinSet.{contains-from_list_nat, contains-retain, len-insert, len-empty}
use Rattle.std.specs.List.{list_any}
use Rattle.std.specs.Ordering.{nat_cmp}
use Rattle.std.specs.Prelude.{nat_eq}
use Rattle.ecr_pages.specs.Rows.{births_of, page_of, IsOwned, AreOwned}
use Rattle.ecr_pages.specs.Places.{births_in, has_place, owned_at, owned_in, places_of, rows_in}
use Rattle.ecr_pages.specs.declared.page.Page.{Page}
use Rattle.ecr_pages.specs.declared.page.Page.TheVariants.{Owned}
use Rattle.ecr_pages.specs.examples.Computed.{first, second, rows, pages, plain, book}
use Rattle.ecr_pages.proofs.laws.pages_are_computed.Goals as goal

-- how many items a set has with one that it hasn't yet, and with one that it has
counted_new : (ks : List ℕ) (k : ℕ) → list_any (λ y. nat_eq y k) ks ≡ false
    → set.len (set.from_list {R = nat_cmp} (k ∷ ks)) ≡ set.len (set.from_list {R = nat_cmp} ks) + 1
counted_new ks k new =
    len-insert nat_cmp_total (set.from_list ks) k
    ∙ ap (λ b. cond b (set.len (set.from_list {R = nat_cmp} ks)) (set.len (set.from_list {R = nat_cmp} ks) + 1))
    (contains-from_list_nat ks k ∙ new)

counted_old : (ks : List ℕ) (k : ℕ) → list_any (λ y. nat_eq y k) ks ≡ true
    → set.len (set.from_list {R = nat_cmp} (k ∷ ks)) ≡ set.len (set.from_list {R = nat_cmp} ks)
counted_old ks k old =
    len-insert nat_cmp_total (set.from_list ks) k
    ∙ ap (λ b. cond b (set.len (set.from_list {R = nat_cmp} ks)) (set.len (set.from_list {R = nat_cmp} ks) + 1))
    (contains-from_list_nat ks k ∙ old)

births : births_of rows ≡ 1 ∷ 300 ∷ 301 ∷ []
births = ap (λ (es : List (ℕ × ℕ)). map (λ e. e.0) es) (entries-from_sorted nat_cmp ((1, 8) ∷ (300, 9) ∷ (301, 7) ∷ []) tt)

two_pages : set.len (set.from_list {R = nat_cmp} (0 ∷ 1 ∷ 1 ∷ [])) ≡ 2
two_pages =
    counted_new (1 ∷ 1 ∷ []) 0 refl
    ∙ ap (λ n. n + 1) (counted_old (1 ∷ []) 1 refl ∙ counted_new [] 1 refl)
    ∙ ap (λ n. n + 1 + 1) (len-empty nat_cmp)

owned_one : IsOwned pages 1
owned_one = contains-from_list_nat (1 ∷ 300 ∷ []) 1

owned_300 : IsOwned pages 300
owned_300 = contains-from_list_nat (1 ∷ 300 ∷ []) 300

not_owned : IsOwned pages 2 → ⊥
not_owned h =
    let no : false ≡ true = sym (contains-from_list_nat (1 ∷ 300 ∷ []) 2) ∙ h in
    cc no

all_owned : AreOwned pages (300 ∷ 1 ∷ [])
all_owned zero lt = owned_300
all_owned (suc zero) lt = owned_one
all_owned (suc (suc j)) lt = absurd (let no : ⊥ = omega (arith, lt) in no)

one_not_owned : AreOwned pages (300 ∷ 2 ∷ []) → ⊥
one_not_owned h =
    let second : 1 < 2 = omega arith in
    not_owned (h 1 second)

pub returns-clause-rows : goal.returns-clause-rows
returns-clause-rows c = record {
  low = refl;
  next = refl;
  births = births;
  owned = owned_300;
  not_owned = not_owned;
  all_owned = all_owned;
  one_not_owned = one_not_owned;
  beside = refl;
  not_beside = refl;
  count = ap (λ (bs : List ℕ). set.len (set.from_list {R = nat_cmp} (map page_of bs))) births ∙ two_pages;
  bound = refl;
  no_bound = refl;
}

in_rows : rows_in plain book ≡ finite.from_entries {R = nat_cmp} ((1, 8) ∷ (300, 9) ∷ [])
unfolding rows_in
in_rows = refl

owned_in_page : (slots : BTreeMap ℕ (Option ℕ)) → slots.entries ≡ second
    → set.contains (owned_in ((1, Owned slots) ∷ [])) 300 ≡ true
unfolding owned_in
owned_in_page slots is =
    let book : List (ℕ × Page ℕ) = (1, Owned slots) ∷ [] in
    contains-retain (set.from_list {R = nat_cmp} (births_in places_of book)) (owned_at book) 300
    (λ x tie. ap (owned_at book) (sym (nat_cmp-IsAntisymmetric 300 x tie)))
    ∙ ap (λ b. b && owned_at book 300) (contains-from_list_nat (births_in places_of book) 300
    ∙ ap (λ (e : List (ℕ × Option ℕ)). list_any (λ y. nat_eq y 300) (map (λ p. p.0) e ++ [])) is)
    ∙ ap (λ e. has_place e 300) is

pub returns-clause-places : goal.returns-clause-places
returns-clause-places c = record {
  found = refl;
  not_found = refl;
  row = refl;
  no_row = refl;
  place = refl;
  no_place = refl;
  no_page = refl;
  page = refl;
  second_row = refl;
  beyond = refl;
  births = refl;
  entry = refl;
  no_entry = refl;
  all = refl;
  as_map = in_rows;
  misplaced = λ h. (let no : 1 ≡ 0 = h 0 300 refl in omega (arith, no));
}

pub returns-clause-pages : goal.returns-clause-pages
returns-clause-pages c = record {
  owned = λ slots is. is;
  shared = λ slots is. is;
  owns = λ slots is. ap (λ e. has_place e 3) is;
  owns_not = λ slots is. ap (λ e. has_place e 2) is;
  owns_nothing = refl;
  owned_there = λ slots is. ap (λ e. has_place e 300) is;
  owned_elsewhere = λ slots is. refl;
  owned_births = λ slots is. owned_in_page slots is;
}
