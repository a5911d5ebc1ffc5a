-- The rows of a page, copied one after another.
use Rattle.std.proofs.Common.{◌≡◌, ◌||◌, ◌&&◌, ℕ, Bool, true, false, cond, List, [], ◌∷◌, Option, None, Some, is_some, refl, sym, ap, subst, ◌∙◌}
use Rattle.std.specs.Map.{keys_of}
use Rattle.std.specs.Option.{option_flatten}
use Rattle.std.specs.Ordering.{nat_cmp, eq_by_cmp}
use Rattle.ecr_pages.specs.Places.{Places, at, row_in, has_place, is_one_of, IsCopy, CopiesRow, IsCopying}
use Rattle.ecr_pages.proofs.Numbers.{no_way, tied_same, tied_back, some_flat, is_some-at}

no_some : {A : Type 0} (o : Option A) → is_some o ≡ false → o ≡ None
no_some None h = refl
no_some (Some x) h = no_way h

both_true : (a b : Bool) → a ≡ true → b ≡ true → (a && b) ≡ true
both_true a b e f = ap (λ x. x && b) e ∙ f

left_true : (a b : Bool) → (a && b) ≡ true → a ≡ true
left_true true b h = refl
left_true false b h = h

right_true : (a b : Bool) → (a && b) ≡ true → b ≡ true
right_true true b h = h
right_true false b h = no_way (sym h)

module _ {R : Type 0} where
  pub copying_none : (places copy : Places R) (left : List ℕ) → copy ≡ [] → left ≡ keys_of places
      → IsCopying places copy left
  copying_none places copy left e all =
      let bare : (q : ℕ) → has_place copy q ≡ true → true ≡ false = λ q h. sym h
      ∙ ap (λ (c : Places R). has_place c q) e in
      record {
        same = λ q h. no_way (bare q h);
        few = λ q h. no_way (bare q h);
        all = λ q out h. no_way (sym (sym (is_some-at places q) ∙ some_flat (at places q) h)
            ∙ ap (λ (ns : List ℕ). is_one_of ns q) (sym all) ∙ out);
      }

  pub copying_more : (places copy new : Places R) (left rest : List ℕ) (b : ℕ) → left ≡ b ∷ rest
      → CopiesRow places copy new b
      → IsCopying places copy left → IsCopying places new rest
  copying_more places copy new left rest b next copies c =
      let there = is_some (row_in places b) in
      record {
        same = λ q h.
            copies q
            ∙ (elim (there && eq_by_cmp nat_cmp b q) as (λ t. (there && eq_by_cmp nat_cmp b q) ≡ t
            → is_some (cond t (Some (row_in places b)) (at copy q)) ≡ true
            → cond t (Some (row_in places b)) (at copy q) ≡ Some (row_in places q)) [
              | true ↦ λ t _. ap (λ (k : ℕ). Some (row_in places k))
                  (tied_same b q (right_true there (eq_by_cmp nat_cmp b q) t))
              | false ↦ λ t h. c.same q h
            ]) refl (ap is_some (sym (copies q)) ∙ h);
        few = λ q h.
            (elim (there && eq_by_cmp nat_cmp b q) as (λ t. (there && eq_by_cmp nat_cmp b q) ≡ t
            → is_some (cond t (Some (row_in places b)) (at copy q)) ≡ true
            → is_some (row_in places q) ≡ true) [
              | true ↦ λ t _. ap (λ (k : ℕ). is_some (row_in places k))
                  (sym (tied_same b q (right_true there (eq_by_cmp nat_cmp b q) t)))
                  ∙ left_true there (eq_by_cmp nat_cmp b q) t
              | false ↦ λ t h. c.few q h
            ]) refl (ap is_some (sym (copies q)) ∙ h);
        all = λ q out h.
            copies q
            ∙ (elim (eq_by_cmp nat_cmp b q) as (λ t. eq_by_cmp nat_cmp b q ≡ t
            → cond (there && t) (Some (row_in places b)) (at copy q) ≡ Some (row_in places q)) [
              | true ↦ λ t.
                  let here : there ≡ true = ap (λ (k : ℕ). is_some (row_in places k)) (tied_same b q t) ∙ h in
                  ap (λ x. cond (x && true) (Some (row_in places b)) (at copy q)) here
                  ∙ ap (λ (k : ℕ). Some (row_in places k)) (tied_same b q t)
              | false ↦ λ t.
                  ap (λ x. cond x (Some (row_in places b)) (at copy q)) (none_false there)
                  ∙ c.all q (ap (λ (ns : List ℕ). is_one_of ns q) next
                  ∙ ap (λ x. x || is_one_of rest q) (tied_back q b ∙ t) ∙ out) h
            ]) refl;
      }
    where
      none_false : (a : Bool) → (a && false) ≡ false
      none_false true = refl
      none_false false = refl

  pub copying_all : (places copy : Places R) (left : List ℕ) → left ≡ [] → IsCopying places copy left
      → IsCopy places copy
  copying_all places copy left none c = record {
    rows = λ q.
        (elim (is_some (row_in places q)) as (λ t. is_some (row_in places q) ≡ t → row_in copy q ≡ row_in places q) [
          | true ↦ λ t. ap option_flatten (c.all q (ap (λ (ns : List ℕ). is_one_of ns q) none) t)
          | false ↦ λ t.
              (elim (has_place copy q) as (λ p. has_place copy q ≡ p → row_in copy q ≡ row_in places q) [
                | true ↦ λ p. ap option_flatten (c.same q p)
                | false ↦ λ p. ap option_flatten (no_some (at copy q) p) ∙ sym (no_some (row_in places q) t)
              ]) refl
        ]) refl;
    few = c.few;
  }
