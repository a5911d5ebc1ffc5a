-- Pages that are shared one after another.
use Rattle.std.proofs.Common.{◌≡◌, ◌||◌, ◌+◌, ◌<◌, ℕ, zero, suc, Bool, true, false, cond, List, [], ◌∷◌, ◌++◌, ◌≤◌, length, take, drop, get_or, Option, None, Some, is_some, refl, sym, ap, subst, ◌∙◌}
use native.Mathlib.Omega.{arith}
use Rattle.std.proofs.lemmas.List.Folds.{list_any_more}
use Rattle.std.proofs.lemmas.List.{take_more, take-append-drop}
use Rattle.std.proofs.lemmas.Map.Keys.{Less-from_sorted, sorted_tail}
use Rattle.std.specs.BTreeMap.{BTreeMap}
use Rattle.std.specs.List.Sorted.{IsStrictlySortedBy}
use Rattle.std.specs.Map.{keys_of}
use Rattle.std.specs.Ordering.{nat_cmp, eq_by_cmp, is_eq}
use Rattle.std.specs.declared.sync.Arc.{Arc}
use Rattle.ecr_pages.specs.Rows.{page_of}
use Rattle.ecr_pages.specs.Places.{at, row_in, has_place, places_of, owns_place, owned_at, held, row_at, shelved, is_one_of, has_row, rowed, AreInPages, KeepsRows, SharesPage, HasShared}
use Rattle.ecr_pages.specs.declared.page.Page.{Page}
use Rattle.ecr_pages.proofs.Views.{none_row}
use Rattle.ecr_pages.proofs.Numbers.{no_way, tied_same, tied_back, is_some-at}

pub none_left : (a b : Bool) → (a || b) ≡ false → a ≡ false
none_left true b h = no_way h
none_left false b h = refl

pub none_right : (a b : Bool) → (a || b) ≡ false → b ≡ false
none_right true b h = no_way h
none_right false b h = h

pub or_false : (a : Bool) → (a || false) ≡ a
or_false true = refl
or_false false = refl

both_false : (a b : Bool) → a ≡ false → b ≡ false → (a || b) ≡ false
both_false a b e f = ap (λ x. x || b) e ∙ f

-- numbers that rise are new one after another
pub fresh : (xs : List ℕ) (i d : ℕ) → IsStrictlySortedBy nat_cmp xs → i < length xs
    → is_one_of (take i xs) (get_or xs i d) ≡ false
fresh [] i d s h = absurd (omega arith)
fresh (x ∷ xs) zero d s h = refl
fresh (x ∷ xs) (suc i) d s h =
    both_false (eq_by_cmp nat_cmp (get_or xs i d) x) (is_one_of (take i xs) (get_or xs i d))
    (tied_back (get_or xs i d) x ∙ ap is_eq (Less-from_sorted nat_cmp (x ∷ xs) 0 (suc i) d s (omega arith) h))
    (fresh xs i d (sorted_tail nat_cmp x xs s) (omega arith))

module _ {R : Type 0} where
  pub keeps_itself : (book : List (ℕ × Page R)) → KeepsRows book book
  keeps_itself book = record { rows = λ n q. refl; places = λ n q h. h }

  pub keeps_more : (old book new : List (ℕ × Page R)) → KeepsRows old book → KeepsRows book new → KeepsRows old new
  keeps_more old book new k l =
      record { rows = λ n q. l.rows n q ∙ k.rows n q; places = λ n q h. k.places n q (l.places n q h) }

  pub keeps_placed : (old new : List (ℕ × Page R)) → KeepsRows old new → AreInPages places_of old → AreInPages places_of new
  keeps_placed old new k placed n q h = placed n q (k.places n q h)

  pub rowed-append : (book : List (ℕ × Page R)) (xs ys : List ℕ) → rowed book (xs ++ ys) ≡ rowed book xs + rowed book ys
  rowed-append book [] ys = omega arith
  rowed-append book (x ∷ xs) ys =
      let rest = rowed-append book xs ys in
      let one = cond (has_row (held places_of (at book x))) 1 0 in
      ap (λ (n : ℕ). one + n) rest ∙ (omega arith)

  pub rowed-least : (old : List (ℕ × Page R)) (numbers : List ℕ) (i : ℕ)
      → rowed old (take i numbers) ≤ rowed old numbers
  rowed-least old numbers i =
      let parts : rowed old (take i numbers) + rowed old (drop i numbers) ≡ rowed old numbers =
      sym (rowed-append old (take i numbers) (drop i numbers)) ∙ ap (rowed old) (take-append-drop i numbers) in
      (omega arith)

-- what is at none of the keys
none_there : {X : Type 0} (entries : List (ℕ × X)) (n : ℕ) → is_one_of (keys_of entries) n ≡ false → at entries n ≡ None
none_there entries n h = none (at entries n) (is_some-at entries n ∙ h)
  where
    none : {X : Type 0} (o : Option X) → is_some o ≡ false → o ≡ None
    none None h = refl
    none (Some x) h = no_way h

-- shared pages by their numbers
abbrev Shelf : Type 0 → Type 0 → Type 0
Shelf R Z = List (ℕ × Arc (BTreeMap ℕ (Option R)) Z)

module _ {R Z : Type 0} where
  pub shared_none : (old : List (ℕ × Page R)) (shelf : Shelf R Z) → shelf ≡ [] → HasShared old old shelf []
  shared_none old shelf e = record {
    others = λ n h. refl;
    shared = λ n q h. no_way (sym h);
    bare = λ n h. ap (λ (s : Shelf R Z). at s n) e;
    rows = λ n q h. no_way (sym h);
    places = λ n q h. no_way (sym h ∙ ap (λ (s : Shelf R Z). has_place (held shelved (at s n)) q) e);
  }

  pub shared_more : (old book new : List (ℕ × Page R)) (shelf filled : Shelf R Z) (done more : List ℕ) (number : ℕ)
      → is_one_of done number ≡ false
      → ((n : ℕ) → is_one_of more n ≡ (is_one_of done n || eq_by_cmp nat_cmp n number))
      → HasShared old book shelf done → SharesPage book new shelf filled number → HasShared old new filled more
  shared_more old book new shelf filled done more number new_one splits h s =
      let apart : (n : ℕ) → is_one_of more n ≡ false → eq_by_cmp nat_cmp number n ≡ false =
      λ n e. tied_back number n ∙ none_right (is_one_of done n) (eq_by_cmp nat_cmp n number) (sym (splits n) ∙ e) in
      let before : (n : ℕ) → is_one_of more n ≡ false → is_one_of done n ≡ false =
      λ n e. none_left (is_one_of done n) (eq_by_cmp nat_cmp n number) (sym (splits n) ∙ e) in
      record {
        others = λ n e. s.others n (apart n e) ∙ h.others n (before n e);
        shared = λ n q e.
            (elim (eq_by_cmp nat_cmp n number) as (λ t. eq_by_cmp nat_cmp n number ≡ t → (is_one_of done n || t) ≡ true
            → owns_place (at new n) q ≡ false) [
              | true ↦ λ t _. ap (λ (m : ℕ). owns_place (at new m) q) (tied_same n number t) ∙ s.shared q
              | false ↦ λ t e. ap (λ (o : Option (Page R)). owns_place o q) (s.others n (tied_back number n ∙ t))
                  ∙ h.shared n q (sym (or_false _) ∙ e)
            ]) refl (sym (splits n) ∙ e);
        bare = λ n e. s.shelf_others n (apart n e) ∙ h.bare n (before n e);
        rows = λ n q e.
            (elim (eq_by_cmp nat_cmp n number) as (λ t. eq_by_cmp nat_cmp n number ≡ t → (is_one_of done n || t) ≡ true
            → row_in (held shelved (at filled n)) q ≡ row_in (held places_of (at old n)) q) [
              | true ↦ λ t _. subst
                  (λ (m : ℕ). row_in (held shelved (at filled m)) q ≡ row_in (held places_of (at old m)) q)
                  (sym (tied_same n number t))
                  (s.rows (h.bare number new_one) q
                  ∙ ap (λ (o : Option (Page R)). row_in (held places_of o) q) (h.others number new_one))
              | false ↦ λ t e. ap (λ (o : Option (Arc (BTreeMap ℕ (Option R)) Z)). row_in (held shelved o) q)
                  (s.shelf_others n (tied_back number n ∙ t))
                  ∙ h.rows n q (sym (or_false _) ∙ e)
            ]) refl (sym (splits n) ∙ e);
        places = λ n q p.
            (elim (eq_by_cmp nat_cmp n number) as (λ t. eq_by_cmp nat_cmp n number ≡ t
            → has_place (held places_of (at old n)) q ≡ true) [
              | true ↦ λ t. subst (λ (m : ℕ). has_place (held shelved (at filled m)) q ≡ true
                  → has_place (held places_of (at old m)) q ≡ true) (sym (tied_same n number t))
                  (λ there. ap (λ (o : Option (Page R)). has_place (held places_of o) q) (sym (h.others number new_one))
                  ∙ s.places (h.bare number new_one) q there) p
              | false ↦ λ t. h.places n q
                  (ap (λ (o : Option (Arc (BTreeMap ℕ (Option R)) Z)). has_place (held shelved o) q)
                  (sym (s.shelf_others n (tied_back number n ∙ t))) ∙ p)
            ]) refl;
      }

  -- a page without a row is given back
  pub drops_page : (old new : List (ℕ × Page R)) (shelf : Shelf R Z) (number : ℕ)
      → has_row (held places_of (at old number)) ≡ false
      → at new number ≡ None → ((n : ℕ) → eq_by_cmp nat_cmp number n ≡ false → at new n ≡ at old n)
      → SharesPage old new shelf shelf number
  drops_page old new shelf number bare gone others = record {
    others = others;
    shared = λ q. ap (λ (o : Option (Page R)). owns_place o q) gone;
    shelf_others = λ n h. refl;
    rows = λ none q. ap (λ (o : Option (Arc (BTreeMap ℕ (Option R)) Z)). row_in (held shelved o) q) none
        ∙ sym (none_row (held places_of (at old number)) bare q);
    places = λ none q h. no_way (sym h
        ∙ ap (λ (o : Option (Arc (BTreeMap ℕ (Option R)) Z)). has_place (held shelved o) q) none);
  }

  -- the page of the next number is shared
  pub shares_more : (old book new : List (ℕ × Page R)) (shelf filled : Shelf R Z) (numbers : List ℕ) (i number : ℕ)
      → IsStrictlySortedBy nat_cmp numbers
      → i < length numbers → get_or numbers i 0 ≡ number
      → HasShared old book shelf (take i numbers) → SharesPage book new shelf filled number
      → HasShared old new filled (take (i + 1) numbers)
  shares_more old book new shelf filled numbers i number s less is h page =
      shared_more old book new shelf filled (take i numbers) (take (i + 1) numbers) number
      (ap (is_one_of (take i numbers)) (sym is) ∙ fresh numbers i 0 s less)
      (λ n. list_any_more (eq_by_cmp nat_cmp n) numbers i 0 less
      ∙ ap (λ (k : ℕ). is_one_of (take i numbers) n || eq_by_cmp nat_cmp n k) is)
      h page

  pub rowed-more : (old book : List (ℕ × Page R)) (shelf : Shelf R Z) (numbers : List ℕ) (i number : ℕ)
      → IsStrictlySortedBy nat_cmp numbers
      → i < length numbers → get_or numbers i 0 ≡ number
      → HasShared old book shelf (take i numbers)
      → rowed old (take (i + 1) numbers) ≡ rowed old (take i numbers) + rowed book (number ∷ [])
  rowed-more old book shelf numbers i number s less is h =
      ap (rowed old) (take_more numbers i 0 less) ∙ rowed-append old (take i numbers) (get_or numbers i 0 ∷ [])
      ∙ ap (λ (k : ℕ). rowed old (take i numbers) + rowed old (k ∷ [])) is
      ∙ ap (λ (o : Option (Page R)). rowed old (take i numbers) + (cond (has_row (held places_of o)) 1 0 + 0))
      (sym (h.others number (ap (is_one_of (take i numbers)) (sym is) ∙ fresh numbers i 0 s less)))

  -- ---- where all pages are shared

  pub shelf_rows : (old new : List (ℕ × Page R)) (shelf : Shelf R Z) → HasShared old new shelf (keys_of old) → (q : ℕ)
      → row_at shelved shelf q ≡ row_at places_of old q
  shelf_rows old new shelf h q =
      let n = page_of q in
      (elim (is_one_of (keys_of old) n) as (λ t. is_one_of (keys_of old) n ≡ t
      → row_in (held shelved (at shelf n)) q ≡ row_in (held places_of (at old n)) q) [
        | true ↦ λ t. h.rows n q t
        | false ↦ λ t. ap (λ (o : Option (Arc (BTreeMap ℕ (Option R)) Z)). row_in (held shelved o) q) (h.bare n t)
            ∙ sym (ap (λ (o : Option (Page R)). row_in (held places_of o) q) (none_there old n t))
      ]) refl

  pub all_shared : (old new : List (ℕ × Page R)) (shelf : Shelf R Z) → HasShared old new shelf (keys_of old) → (q : ℕ)
      → owned_at new q ≡ false
  all_shared old new shelf h q =
      let n = page_of q in
      (elim (is_one_of (keys_of old) n) as (λ t. is_one_of (keys_of old) n ≡ t → owns_place (at new n) q ≡ false) [
        | true ↦ λ t. h.shared n q t
        | false ↦ λ t. ap (λ (o : Option (Page R)). owns_place o q) (h.others n t ∙ none_there old n t)
      ]) refl

  pub shelf_placed : (old new : List (ℕ × Page R)) (shelf : Shelf R Z) → HasShared old new shelf (keys_of old)
      → AreInPages places_of old → AreInPages shelved shelf
  shelf_placed old new shelf h placed n q p = placed n q (h.places n q p)
