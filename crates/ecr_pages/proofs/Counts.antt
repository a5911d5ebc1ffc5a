-- How many pages have a row.
use Rattle.std.proofs.Common.{◌≡◌, ◌||◌, ◌+◌, ◌<◌, ◌≤◌, ℕ, Bool, true, false, cond, List, [], ◌∷◌, map, length, max, Option, None, Some, is_some, refl, sym, ap, subst, ◌∙◌}
use native.Mathlib.Omega.{arith}
use Rattle.std.proofs.Math.Nat.{le-max_left, le-max_right}
use Rattle.std.proofs.lemmas.List.Elements.{All-from_recursion}
use Rattle.std.proofs.lemmas.List.Kept.{IsStrictlySortedBy-filter}
use Rattle.std.proofs.lemmas.Map.Keys.{sorted_tail, IsDistinct-from_sorted, IsDistinct-head}
use Rattle.std.proofs.lemmas.Map.Views.{length-le_from_below}
use Rattle.std.specs.Cmp.{nat_cmp_total}
use Rattle.std.specs.FinMap.{contains_key-keys, nat_cmp-IsAntisymmetric}
use Rattle.std.specs.FinSet as set
use Rattle.std.specs.FinSet.{contains-from_list, same_set, len-insert, len-empty}
use Rattle.std.specs.List.{filter}
use Rattle.std.specs.List.Sorted.{IsStrictlySortedBy}
use Rattle.std.specs.Map.{keys_of}
use Rattle.std.specs.Ordering.{nat_cmp, eq_by_cmp}
use Rattle.ecr_pages.specs.Rows.{page_of, births_of, page_count, page_bound}
use Rattle.ecr_pages.specs.Places.{Places, at, row_in, places_of, held, row_at, rows_in, is_one_of, has_row, rowed, AreInPages}
use Rattle.ecr_pages.specs.declared.page.Page.{Page}
use Rattle.ecr_pages.proofs.Numbers.{no_way, tied_same, same_test, some_flat, is_some-at}
use Rattle.ecr_pages.proofs.Members.{any_of, some_of, to_map, from_map, to_filter, from_filter, each_of, none_of}
use Rattle.ecr_pages.proofs.Views.{get-rows}

-- a set of numbers that rise has as many
len-from_list : (xs : List ℕ) → IsStrictlySortedBy nat_cmp xs → set.len (set.from_list {R = nat_cmp} xs) ≡ length xs
len-from_list [] s = len-empty nat_cmp
len-from_list (x ∷ xs) s =
    let new_one : set.contains (set.from_list {R = nat_cmp} xs) x ≡ false =
    contains-from_list nat_cmp_total xs x
    ∙ none_of x xs (IsDistinct-head (eq_by_cmp nat_cmp) x xs (IsDistinct-from_sorted nat_cmp (x ∷ xs) s)) in
    let rest : set.len (set.from_list {R = nat_cmp} xs) ≡ length xs = len-from_list xs (sorted_tail nat_cmp x xs s) in
    let n = set.len (set.from_list {R = nat_cmp} xs) in
    let added : set.len (set.insert (set.from_list {R = nat_cmp} xs) x) ≡ n + 1 =
    len-insert nat_cmp_total (set.from_list xs) x ∙ ap (λ b. cond b n (n + 1)) new_one in
    added ∙ (omega arith)

pub in_births : {R P : Type 0} (places : P → Places R) (book : List (ℕ × P)) (b : ℕ)
    → is_one_of (births_of (rows_in places book)) b ≡ is_some (row_at places book b)
in_births places book b = sym (contains_key-keys (rows_in places book) b) ∙ ap is_some (get-rows places book b)

module _ {R : Type 0} where
  -- the page of that number has a row
  abbrev is_live : List (ℕ × Page R) → ℕ → Bool
  is_live book n = has_row (held places_of (at book n))

  rowed-filter : (book : List (ℕ × Page R)) (numbers : List ℕ)
      → rowed book numbers ≡ length (filter (is_live book) numbers)
  rowed-filter book [] = refl
  rowed-filter book (n ∷ numbers) =
      elim (is_live book n) as
      (λ b. cond b 1 0 + rowed book numbers ≡ length
      (cond b (n ∷ filter (is_live book) numbers) (filter (is_live book) numbers))) [
        | true ↦ let rest = rowed-filter book numbers in (omega arith)
        | false ↦ let rest = rowed-filter book numbers in (omega arith)
      ]

  live-has : (page : Option (Page R)) → has_row (held places_of page) ≡ true → is_some page ≡ true
  live-has None h = h
  live-has (Some page) h = refl

  live_there : (book : List (ℕ × Page R)) (n : ℕ) → is_live book n ≡ true → is_one_of (keys_of book) n ≡ true
  live_there book n h = sym (is_some-at book n) ∙ live-has (at book n) h

  row-live : (book : List (ℕ × Page R)) (b : ℕ) → is_some (row_at places_of book b) ≡ true
      → is_live book (page_of b) ≡ true
  row-live book b h =
      let places = held places_of (at book (page_of b)) in
      any_of (λ birth. is_some (row_in places birth)) (keys_of places) b (sym (is_some-at places b)
      ∙ some_flat (at places b) h) h

  live-row : (book : List (ℕ × Page R)) (n : ℕ) → AreInPages places_of book → is_live book n ≡ true
      → (b : ℕ) × (page_of b ≡ n) × (is_some (row_at places_of book b) ≡ true)
  live-row book n placed h =
      let places = held places_of (at book n) in
      let found = some_of (λ birth. is_some (row_in places birth)) (keys_of places) h in
      let page = placed n found.0 (some_flat (at places found.0) found.2) in
      (found.0, page, ap (λ (m : ℕ). is_some (row_in (held places_of (at book m)) found.0)) page ∙ found.2)

  -- the pages with a row are those of the rows' births
  live-births : (book : List (ℕ × Page R)) → AreInPages places_of book → (q : ℕ)
      → is_one_of (map page_of (births_of (rows_in places_of book))) q ≡ is_one_of
      (filter (is_live book) (keys_of book)) q
  live-births book placed q =
      same_test _ _
      (λ h. let found = from_map page_of (births_of (rows_in places_of book)) q h in
      let live = row-live book found.0 (sym (in_births places_of book found.0) ∙ found.1) in
      subst (λ (n : ℕ). is_one_of (filter (is_live book) (keys_of book)) n ≡ true) (sym found.2)
      (to_filter (is_live book) (keys_of book) (page_of found.0) (live_there book (page_of found.0) live) live))
      (λ h. let found = live-row book q placed (from_filter (is_live book) (keys_of book) q h).1 in
      subst (λ (n : ℕ). is_one_of (map page_of (births_of (rows_in places_of book))) n ≡ true) found.1
      (to_map page_of (births_of (rows_in places_of book)) found.0 (in_births places_of book found.0 ∙ found.2)))

  pub rowed-count : (book : List (ℕ × Page R)) → AreInPages places_of book → IsStrictlySortedBy nat_cmp (keys_of book)
      → rowed book (keys_of book) ≡ page_count (rows_in places_of book)
  rowed-count book placed s =
      rowed-filter book (keys_of book)
      ∙ sym (ap set.len (same_set nat_cmp_total nat_cmp-IsAntisymmetric
      (set.from_list (map page_of (births_of (rows_in places_of book))))
      (set.from_list (filter (is_live book) (keys_of book)))
      (λ q. contains-from_list nat_cmp_total (map page_of (births_of (rows_in places_of book))) q
      ∙ live-births book placed q
      ∙ sym (contains-from_list nat_cmp_total (filter (is_live book) (keys_of book)) q)))
      ∙ len-from_list (filter (is_live book) (keys_of book))
      (IsStrictlySortedBy-filter nat_cmp (is_live book) (keys_of book) s))

  pub rowed-bound : (book : List (ℕ × Page R)) → AreInPages places_of book → IsStrictlySortedBy nat_cmp (keys_of book)
      → rowed book (keys_of book) ≤ page_bound (births_of (rows_in places_of book))
  rowed-bound book placed s =
      let births = births_of (rows_in places_of book) in
      subst (λ (n : ℕ). n ≤ page_bound births) (sym (rowed-filter book (keys_of book)))
      (length-le_from_below (page_bound births) (filter (is_live book) (keys_of book))
      (IsStrictlySortedBy-filter nat_cmp (is_live book) (keys_of book) s)
      (All-from_recursion (λ n. n < page_bound births) _
      (each_of (λ n. n < page_bound births) (filter (is_live book) (keys_of book)) (λ n h.
      let found = from_map page_of births n (live-births book placed n ∙ h) in
      subst (λ (m : ℕ). m < page_bound births) (sym found.2) (bounded births found.0 found.1)))))
    where
      bounded : (births : List ℕ) (b : ℕ) → is_one_of births b ≡ true → page_of b < page_bound births
      bounded [] b h = no_way (sym h)
      bounded (x ∷ births) b h =
          (elim (eq_by_cmp nat_cmp b x) as (λ t. eq_by_cmp nat_cmp b x ≡ t → (t || is_one_of births b) ≡ true
          → page_of b < max (page_of x + 1) (page_bound births)) [
            | true ↦ λ t _. let same = ap page_of (tied_same b x t) in let le =
                le-max_left (page_of x + 1) (page_bound births) in (omega arith)
            | false ↦ λ t h. let less = bounded births b h in let le =
                le-max_right (page_of x + 1) (page_bound births) in (omega arith)
          ]) refl h
