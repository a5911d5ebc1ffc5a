-- Pages that are made owned one after another.
use Rattle.std.proofs.Common.{◌≡◌, ◌⊎◌, ⊎_elim, inl, inr, ◌||◌, ◌==◌, ◌<◌, ◌+◌, ℕ, Bool, true, false, List, [], ◌∷◌, length, slice_index, refl, ap, ◌∙◌}
use native.Mathlib.Omega.{arith}
use Rattle.std.proofs.lemmas.List.Folds.{list_any_at}
use Rattle.std.specs.Cmp.{ranks}
use Rattle.std.specs.declared.cmp.Ordering.{Ordering}
use Rattle.std.specs.declared.cmp.Ordering.TheVariants.{Less, Equal, Greater}
use Rattle.std.specs.Ordering.{nat_cmp, MatchOrdering}
use Rattle.ecr_pages.specs.Rows.{page_of, is_beside}
use Rattle.ecr_pages.specs.Places.{owned_at, OwnsFor}
use Rattle.ecr_pages.specs.declared.page.Page.{Page}

split_below : (i j : ℕ) → i < j + 1 → (i < j) ⊎ (i ≡ j)
split_below i j h = ranked i j h (nat_cmp i j) (ranks i j)
  where
    ranked : (i j : ℕ) → i < j + 1 → (r : Ordering) → MatchOrdering r (i < j) (i ≡ j) (j < i) → (i < j) ⊎ (i ≡ j)
    ranked i j h Less l = inl l
    ranked i j h Equal e = inr e
    ranked i j h Greater g = absurd (omega arith)

module _ {R : Type 0} where
  pub owns_itself : (book : List (ℕ × Page R)) (births : List ℕ) → OwnsFor book book births
  owns_itself book births = record { rows = λ q. refl; kept = λ q h. h; others = λ q h. inl h; placed = λ h. h }

  -- one birth of the list more
  pub owns_more : (old book new : List (ℕ × Page R)) (births : List ℕ) (j birth : ℕ) → j < length births
      → slice_index births j ≡ birth
      → OwnsFor old book births → OwnsFor book new (birth ∷ []) → OwnsFor old new births
  owns_more old book new births j birth less is a b = record {
    rows = λ q. b.rows q ∙ a.rows q;
    kept = λ q h. b.kept q (a.kept q h);
    others = λ q h. ⊎_elim (a.others q)
        (λ e. inr (beside births j birth less is q (only (page_of birth == page_of q) e))) (b.others q h);
    placed = λ h. b.placed (a.placed h);
  }
    where
      only : (t : Bool) → (t || false) ≡ true → t ≡ true
      only true h = refl
      only false h = h

      beside : (births : List ℕ) (j birth : ℕ) → j < length births → slice_index births j ≡ birth → (q : ℕ)
          → (page_of birth == page_of q) ≡ true → is_beside births q ≡ true
      beside births j birth less is q e =
          list_any_at (λ b. page_of b == page_of q) births j 0 less (ap (λ (b : ℕ). page_of b == page_of q) is ∙ e)

  -- the births so far, and one more
  pub owned_more : (book new : List (ℕ × Page R)) (births : List ℕ) (j birth : ℕ) → slice_index births j ≡ birth
      → OwnsFor book new (birth ∷ [])
      → owned_at new birth ≡ true → ((i : ℕ) → i < j → owned_at book (slice_index births i) ≡ true)
      → (i : ℕ) → i < j + 1 → owned_at new (slice_index births i) ≡ true
  owned_more book new births j birth is owns owned before i h =
      ⊎_elim (λ (l : i < j). owns.kept (slice_index births i) (before i l))
      (λ (e : i ≡ j). ap (λ (k : ℕ). owned_at new (slice_index births k)) e ∙ ap (owned_at new) is ∙ owned)
      (split_below i j h)
