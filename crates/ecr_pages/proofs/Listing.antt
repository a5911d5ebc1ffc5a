-- The births of rows, told one page after another.
use Rattle.std.proofs.Common.{◌≡◌, ℕ, Bool, true, cond, filter, List, [], ◌∷◌, ◌++◌, refl, sym, ap, ◌∙◌, append_assoc, append-nil}
use Rattle.std.specs.List.{flat_map, AllByRecursion}
use Rattle.std.specs.Map.{values_of}

-- what is made of each entry's value
pub flat_values : {P : Type 0} (f : P → List ℕ) (entries : List (ℕ × P))
    → flat_map f (values_of entries) ≡ flat_map (λ e. f e.1) entries
flat_values f [] = refl
flat_values f (e ∷ entries) = ap (λ (xs : List ℕ). f e.1 ++ xs) (flat_values f entries)

pub all_values : {P : Type 0} (Q : P → Type 0) (entries : List (ℕ × P)) → AllByRecursion Q (values_of entries)
    → AllByRecursion (λ e. Q e.1) entries
all_values Q [] h = tt
all_values Q (e ∷ entries) h = (h.0, all_values Q entries h.1)

-- one item more is told
pub told_more : {P : Type 0} (f : P → List ℕ) (told now all : List ℕ) (left rest : List P) (item : P)
    → now ≡ told ++ f item → left ≡ item ∷ rest → told ++ flat_map f left ≡ all → now ++ flat_map f rest ≡ all
told_more {P} f told now all left rest item said next before =
    ap (λ (xs : List ℕ). xs ++ flat_map f rest) said ∙ append_assoc told (f item) (flat_map f rest)
    ∙ ap (λ (xs : List P). told ++ flat_map f xs) (sym next) ∙ before

pub told_all : {P : Type 0} (f : P → List ℕ) (told all : List ℕ) (left : List P) → left ≡ []
    → told ++ flat_map f left ≡ all → told ≡ all
told_all {P} f told all left none before =
    sym (append-nil told) ∙ ap (λ (xs : List P). told ++ flat_map f xs) (sym none) ∙ before

-- one number more that passes
pub filtered_more : (p : ℕ → Bool) (told now all left rest : List ℕ) (b : ℕ)
    → now ≡ told ++ b ∷ [] → left ≡ b ∷ rest → p b ≡ true → told ++ filter p left ≡ all → now ++ filter p rest ≡ all
filtered_more p told now all left rest b pushed next pass before =
    ap (λ (xs : List ℕ). xs ++ filter p rest) pushed ∙ append_assoc told (b ∷ []) (filter p rest)
    ∙ ap (λ t. told ++ cond t (b ∷ filter p rest) (filter p rest)) (sym pass)
    ∙ ap (λ (xs : List ℕ). told ++ filter p xs) (sym next) ∙ before
