-- The births of the rows, page by page, are the keys of the map.
use Rattle.std.proofs.Common.{◌≡◌, ◌||◌, ◌&&◌, ◌<◌, ℕ, Bool, true, false, cond, List, [], ◌∷◌, ◌++◌, Option, None, Some, is_some, refl, sym, ap, subst, ◌∙◌}
use native.Mathlib.Omega.{arith}
use lib.Dec.{T}
use Rattle.std.proofs.lemmas.List.Folds.{list_any-append}
use Rattle.std.proofs.lemmas.List.Kept.{IsStrictlySortedBy-filter}
use Rattle.std.proofs.lemmas.Map.Keys.{sorted_head, sorted_tail}
use Rattle.std.specs.Cmp.{nat_cmp_total, nat_cmp_is, ranks}
use Rattle.std.specs.declared.cmp.Ordering.TheVariants.{Less}
use Rattle.std.specs.FinMap as map
use Rattle.std.specs.FinMap.{get-from_sorted, entries-from_sorted, same_map, nat_cmp-IsAntisymmetric, is_sorted}
use Rattle.std.specs.FinMap.Entries.{below_all}
use Rattle.std.specs.List.{flat_map, AllByRecursion}
use Rattle.std.specs.List.Sorted.{IsStrictlySortedBy}
use Rattle.std.specs.Map.{keys_of}
use Rattle.std.specs.Ordering.{nat_cmp, eq_by_cmp, is_eq, is_lt, MatchOrdering}
use Rattle.ecr_pages.specs.Rows.{page_of, births_of}
use Rattle.ecr_pages.specs.Places.{Places, at, row_in, has_place, held, row_at, entry_with, filled, rows_in, is_one_of, births_with_rows, AreInPages}
use Rattle.ecr_pages.proofs.Numbers.{no_way, tied_same, tied_self, tied_back, or_left, or_right, covered, some_flat, is_some-at}
use Rattle.ecr_pages.proofs.Members.{to_filter, from_filter, each_of}
use Rattle.ecr_pages.proofs.Views.{find-filled, get-rows}

-- ---- orders

rises : (x y : ℕ) → x < y → nat_cmp x y ≡ Less
rises x y h = sym (nat_cmp_is x y Less h)

below : (x y : ℕ) → nat_cmp x y ≡ Less → x < y
below x y e = subst (λ k. MatchOrdering k (x < y) (x ≡ y) (y < x)) e (ranks x y)

apart : (x y : ℕ) → nat_cmp x y ≡ Less → eq_by_cmp nat_cmp y x ≡ false
apart x y e = tied_back y x ∙ ap is_eq e

each_less : (x : ℕ) (xs : List ℕ) → AllByRecursion (λ y. nat_cmp x y ≡ Less) xs → (y : ℕ) → is_one_of xs y ≡ true
    → nat_cmp x y ≡ Less
each_less x [] all y h = no_way (sym h)
each_less x (z ∷ xs) all y h =
    (elim (eq_by_cmp nat_cmp y z) as (λ t. eq_by_cmp nat_cmp y z ≡ t → (t || is_one_of xs y) ≡ true
    → nat_cmp x y ≡ Less) [
      | true ↦ λ t _. ap (nat_cmp x) (tied_same y z t) ∙ all.0
      | false ↦ λ t h. each_less x xs all.1 y h
    ]) refl h

all_append : (P : ℕ → Type 0) (xs ys : List ℕ) → AllByRecursion P xs → AllByRecursion P ys → AllByRecursion P (xs ++ ys)
all_append P [] ys a b = b
all_append P (x ∷ xs) ys a b = (a.0, all_append P xs ys a.1 b)

-- numbers that rise, and after them greater ones that rise
rises_append : (xs ys : List ℕ) → IsStrictlySortedBy nat_cmp xs → IsStrictlySortedBy nat_cmp ys
    → ((x y : ℕ) → is_one_of xs x ≡ true → is_one_of ys y ≡ true → x < y) → IsStrictlySortedBy nat_cmp (xs ++ ys)
unfolding IsStrictlySortedBy
rises_append [] ys s t less = t
rises_append (x ∷ xs) ys s t less = (
  all_append (λ y. nat_cmp x y ≡ Less) xs ys s.0
      (each_of (λ y. nat_cmp x y ≡ Less) ys
      (λ y h. rises x y (less x y (or_left (eq_by_cmp nat_cmp x x) (is_one_of xs x) (tied_self x)) h))),
  rises_append xs ys s.1 t (λ a b h k. less a b (or_right (eq_by_cmp nat_cmp a x) (is_one_of xs a) h) k),
)

rises_nil : IsStrictlySortedBy nat_cmp []
unfolding IsStrictlySortedBy
rises_nil = tt

both_T : (a b : Bool) → T a → T b → T (a && b)
both_T true b x y = y
both_T false b x y = absurd x

below_entries : {R : Type 0} (x : ℕ) (entries : List (ℕ × R))
    → AllByRecursion (λ y. nat_cmp x y ≡ Less) (keys_of entries) → T (below_all nat_cmp x entries)
below_entries x [] all = tt
below_entries x (e ∷ entries) all =
    both_T (is_lt (nat_cmp x e.0)) (below_all nat_cmp x entries) (subst (λ r. T (is_lt r)) (sym all.0) tt)
    (below_entries x entries all.1)

sorted_entries : {R : Type 0} (entries : List (ℕ × R)) → IsStrictlySortedBy nat_cmp (keys_of entries)
    → T (is_sorted nat_cmp entries)
sorted_entries [] s = tt
sorted_entries (e ∷ entries) s =
    both_T (below_all nat_cmp e.0 entries) (is_sorted nat_cmp entries)
    (below_entries e.0 entries (sorted_head nat_cmp e.0 (keys_of entries) s))
    (sorted_entries entries (sorted_tail nat_cmp e.0 (keys_of entries) s))

-- ---- entries from births

entry-there : {R : Type 0} (b : ℕ) (o : Option R) (entries : List (ℕ × R)) → is_some o ≡ true
    → keys_of (entry_with b o entries) ≡ b ∷ keys_of entries
entry-there b None entries h = no_way (sym h)
entry-there b (Some r) entries h = refl

keys-filled : {R : Type 0} (f : ℕ → Option R) (births : List ℕ)
    → ((b : ℕ) → is_one_of births b ≡ true → is_some (f b) ≡ true) → keys_of (filled f births) ≡ births
keys-filled f [] h = refl
keys-filled f (b ∷ births) h =
    entry-there b (f b) (filled f births) (h b (or_left (eq_by_cmp nat_cmp b b) (is_one_of births b) (tied_self b)))
    ∙ ap (λ (bs : List ℕ). b ∷ bs)
    (keys-filled f births (λ c k. h c (or_right (eq_by_cmp nat_cmp c b) (is_one_of births c) k)))

-- ---- page by page

module _ {R P : Type 0} (places : P → Places R) where
  abbrev listed : List (ℕ × P) → List ℕ
  listed shelf = flat_map (λ e. births_with_rows (places e.1)) shelf

  abbrev EachRising : List (ℕ × P) → Type 0
  EachRising shelf = AllByRecursion (λ e. IsStrictlySortedBy nat_cmp (keys_of (places e.1))) shelf

  held-there : (page : Option P) (q : ℕ) → has_place (held places page) q ≡ true → is_some page ≡ true
  held-there None q h = h
  held-there (Some page) q h = refl

  -- a page that stands after the first one
  at-later : (e : ℕ × P) (shelf : List (ℕ × P)) (n q : ℕ) → IsStrictlySortedBy nat_cmp (keys_of (e ∷ shelf))
      → has_place (held places (at shelf n)) q ≡ true → (e.0 < n) × (at (e ∷ shelf) n ≡ at shelf n)
  at-later e shelf n q s h =
      let less = each_less e.0 (keys_of shelf) (sorted_head nat_cmp e.0 (keys_of shelf) s) n (sym (is_some-at shelf n)
      ∙ held-there (at shelf n) q h) in
      (below e.0 n less, ap (λ b. cond b (Some e.1) (at shelf n)) (apart e.0 n less))

  at-first : (e : ℕ × P) (shelf : List (ℕ × P)) → at (e ∷ shelf) e.0 ≡ Some e.1
  at-first e shelf = ap (λ b. cond b (Some e.1) (at shelf e.0)) (tied_self e.0)

  placed-later : (e : ℕ × P) (shelf : List (ℕ × P)) → IsStrictlySortedBy nat_cmp (keys_of (e ∷ shelf))
      → AreInPages places (e ∷ shelf) → AreInPages places shelf
  placed-later e shelf s placed n q h =
      placed n q (ap (λ (o : Option P). has_place (held places o) q) (at-later e shelf n q s h).1 ∙ h)

  placed-first : (e : ℕ × P) (shelf : List (ℕ × P)) → AreInPages places (e ∷ shelf) → (q : ℕ)
      → has_place (places e.1) q ≡ true → page_of q ≡ e.0
  placed-first e shelf placed q h = placed e.0 q (ap (λ (o : Option P). has_place (held places o) q) (at-first e shelf)
      ∙ h)

  -- a listed birth has a row in some page
  from_listed : (shelf : List (ℕ × P)) (q : ℕ) → IsStrictlySortedBy nat_cmp (keys_of shelf)
      → is_one_of (listed shelf) q ≡ true
      → (n : ℕ) × (is_some (row_in (held places (at shelf n)) q) ≡ true)
  from_listed [] q s h = no_way (sym h)
  from_listed (e ∷ shelf) q s h =
      (elim (is_one_of (births_with_rows (places e.1)) q) as (λ t. is_one_of (births_with_rows (places e.1)) q ≡ t
      → (t || is_one_of (listed shelf) q) ≡ true
      → (n : ℕ) × (is_some (row_in (held places (at (e ∷ shelf) n)) q) ≡ true)) [
        | true ↦ λ t _. (
          e.0,
          ap (λ (o : Option P). is_some (row_in (held places o) q)) (at-first e shelf)
              ∙ (from_filter (λ birth. is_some (row_in (places e.1) birth)) (keys_of (places e.1)) q t).1,
        )
        | false ↦ λ t h.
            let rest = from_listed shelf q (sorted_tail nat_cmp e.0 (keys_of shelf) s) h in
            let same = (at-later e shelf rest.0 q s (some_flat (at (held places (at shelf rest.0)) q) rest.1)).1 in
            (rest.0, ap (λ (o : Option P). is_some (row_in (held places o) q)) same ∙ rest.1)
      ]) refl (sym (list_any-append (eq_by_cmp nat_cmp q) (births_with_rows (places e.1)) (listed shelf)) ∙ h)

  -- a birth with a row in some page is listed
  to_listed : (shelf : List (ℕ × P)) (n q : ℕ) → is_some (row_in (held places (at shelf n)) q) ≡ true
      → is_one_of (listed shelf) q ≡ true
  to_listed [] n q h = h
  to_listed (e ∷ shelf) n q h =
      list_any-append (eq_by_cmp nat_cmp q) (births_with_rows (places e.1)) (listed shelf)
      ∙ (elim (eq_by_cmp nat_cmp n e.0) as
      (λ t. is_some (row_in (held places (cond t (Some e.1) (at shelf n))) q) ≡ true
      → (is_one_of (births_with_rows (places e.1)) q || is_one_of (listed shelf) q) ≡ true) [
        | true ↦ λ h. or_left _ _ (to_filter (λ birth. is_some (row_in (places e.1) birth)) (keys_of (places e.1)) q
            (sym (is_some-at (places e.1) q) ∙ some_flat (at (places e.1) q) h) h)
        | false ↦ λ h. or_right (is_one_of (births_with_rows (places e.1)) q) (is_one_of (listed shelf) q)
            (to_listed shelf n q h)
      ]) h

  later : (x y a b : ℕ) → page_of x ≡ a → page_of y ≡ b → a < b → x < y
  later x y a b p q h = omega arith

  listed-rises : (shelf : List (ℕ × P)) → IsStrictlySortedBy nat_cmp (keys_of shelf) → EachRising shelf
      → AreInPages places shelf
      → IsStrictlySortedBy nat_cmp (listed shelf)
  listed-rises [] s each placed = rises_nil
  listed-rises (e ∷ shelf) s each placed =
      let tail = sorted_tail nat_cmp e.0 (keys_of shelf) s in
      let after = placed-later e shelf s placed in
      rises_append (births_with_rows (places e.1)) (listed shelf)
      (IsStrictlySortedBy-filter nat_cmp (λ birth. is_some (row_in (places e.1) birth)) (keys_of (places e.1)) each.0)
      (listed-rises shelf tail each.1 after)
      (λ x y h k.
      let first = from_filter (λ birth. is_some (row_in (places e.1) birth)) (keys_of (places e.1)) x h in
      let found = from_listed shelf y tail k in
      let there = some_flat (at (held places (at shelf found.0)) y) found.1 in
      later x y e.0 found.0 (placed-first e shelf placed x (is_some-at (places e.1) x ∙ first.0))
      (after found.0 y there)
      (at-later e shelf found.0 y s there).0)

  listed-row : (shelf : List (ℕ × P)) → IsStrictlySortedBy nat_cmp (keys_of shelf) → AreInPages places shelf → (q : ℕ)
      → is_one_of (listed shelf) q ≡ true → is_some (row_at places shelf q) ≡ true
  listed-row shelf s placed q h =
      let found = from_listed shelf q s h in
      let page = placed found.0 q (some_flat (at (held places (at shelf found.0)) q) found.1) in
      ap (λ (n : ℕ). is_some (row_in (held places (at shelf n)) q)) page ∙ found.1

  pub listed-births : (shelf : List (ℕ × P)) → IsStrictlySortedBy nat_cmp (keys_of shelf) → EachRising shelf
      → AreInPages places shelf
      → listed shelf ≡ births_of (rows_in places shelf)
  listed-births shelf s each placed =
      let f = row_at places shelf in
      let entries = filled f (listed shelf) in
      let keys : keys_of entries ≡ listed shelf = keys-filled f (listed shelf) (listed-row shelf s placed) in
      let sorted : T (is_sorted nat_cmp entries) =
      sorted_entries entries (subst (IsStrictlySortedBy nat_cmp) (sym keys) (listed-rises shelf s each placed)) in
      let same : map.from_sorted {R = nat_cmp} entries ≡ rows_in places shelf =
      same_map nat_cmp_total nat_cmp-IsAntisymmetric _ _ (λ q.
      get-from_sorted nat_cmp entries q sorted ∙ find-filled f (listed shelf) q
      ∙ covered (is_one_of (listed shelf) q) (f q) (λ h. to_listed shelf (page_of q) q h)
      ∙ sym (get-rows places shelf q)) in
      sym keys ∙ ap keys_of (sym (entries-from_sorted nat_cmp entries sorted)) ∙ ap births_of same
