-- Spaces at the ends of a text.
use Rattle.std.proofs.Common.{◌≡◌, ℕ, suc, ◌+◌, ◌<◌, ◌==◌, false, List, [], ◌∷◌, ◌++◌, length, take, get_or, refl, ap, ◌∙◌, arith}
use Rattle.std.proofs.lemmas.Bool.{ne_eqb}
use Rattle.std.proofs.lemmas.List.{take_more, length-take-le}
use Rattle.ecr_model.specs.documents.Manifests.{through_last}

-- one byte more at the end, a space
through_last-push_space : (t : List ℕ) → through_last (t ++ 32 ∷ []) ≡ through_last t
through_last-push_space [] = refl
through_last-push_space (b ∷ rest) = rw (through_last-push_space rest) refl

-- and another byte
through_last-push_other : (t : List ℕ) (x : ℕ) → (x ≡ 32 → ⊥) → through_last (t ++ x ∷ []) ≡ suc (length t)
through_last-push_other [] x n = rw (ne_eqb x 32 n) refl
through_last-push_other (b ∷ rest) x n =
    let e = through_last-push_other rest x n in
    let some : (through_last (rest ++ x ∷ []) == 0) ≡ false =
    ne_eqb (through_last (rest ++ x ∷ [])) 0 (λ z. absurd (omega (arith, e, z))) in
    rw some (ap suc e)

-- a space at the end leaves the last byte that isn't a space where it is
pub through_last-space : (t : List ℕ) (i : ℕ) → i < length t → get_or t i 0 ≡ 32
    → through_last (take (i + 1) t) ≡ through_last (take i t)
through_last-space t i h e =
    ap through_last (take_more t i 0 h) ∙ ap (λ (x : ℕ). through_last (take i t ++ x ∷ [])) e
    ∙ through_last-push_space (take i t)

-- a byte that isn't a space is the last one that isn't
pub through_last-other : (t : List ℕ) (i : ℕ) → i < length t → (get_or t i 0 ≡ 32 → ⊥)
    → through_last (take (i + 1) t) ≡ i + 1
through_last-other t i h n =
    let len : length (take i t) ≡ i = length-take-le i t (omega arith) in
    let e : suc (length (take i t)) ≡ i + 1 = omega arith in
    ap through_last (take_more t i 0 h) ∙ through_last-push_other (take i t) (get_or t i 0) n ∙ e
