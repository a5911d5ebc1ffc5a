-- Lists of texts, and their marks.
use Rattle.std.proofs.Common.{◌≡◌, ◌==◌, ◌&&◌, ℕ, List, [], ◌∷◌, map, refl, sym, ap, ◌∙◌, bytes_eq, eq-eqb}
use Rattle.std.specs.Cmp.Lexicographic.{pointwise}
use Rattle.std.proofs.lemmas.Bool.{eqb-true}
use Rattle.std.proofs.lemmas.Slice.Eq.{bytes_eq-Decides, slice_eq-Decides}
use denote.Ref.{Bor}
use Rattle.ecr_policy.specs.Marks.{mark_of}
use Rattle.ecr_policy.proofs.SetLemmas.{same_answer}

-- lists of which the marks differ aren't the same
pub pointwise-mark_of : (a b : List (List ℕ)) (m n : ℕ) → m ≡ mark_of a → n ≡ mark_of b → (m ≡ n → ⊥)
    → (m == n) ≡ pointwise bytes_eq a b
pointwise-mark_of a b m n p q differ =
    same_answer (m == n) (pointwise bytes_eq a b)
    (λ e. absurd (differ (eqb-true m n e)))
    (λ e. eq-eqb m n (p ∙ ap mark_of ((slice_eq-Decides bytes_eq-Decides a b (pointwise bytes_eq a b) refl).0 e)
    ∙ sym q))

-- texts are compared by their bytes
pub pointwise-now : (a b : List (Bor (List ℕ)))
    → pointwise (λ x y. bytes_eq x.now y.now) a b ≡ pointwise bytes_eq (map (λ t. t.now) a) (map (λ t. t.now) b)
pointwise-now [] [] = refl
pointwise-now [] (y ∷ b) = refl
pointwise-now (x ∷ a) [] = refl
pointwise-now (x ∷ a) (y ∷ b) = ap (λ e. bytes_eq x.now y.now && e) (pointwise-now a b)
