-- Journals that are longer than others. Of this registry: docs/DECISIONS.md, "Turns".
use Rattle.std.specs.Prelude.{◌≡◌, ◌⊎◌, ℕ, ◌==◌, List, [], ◌∷◌, ◌++◌, filter}
use Rattle.ecr_model.specs.declared.registry.journal.Line.{Line}
use Rattle.ecr_model.specs.registry.Growth.{Each}

-- the later journal begins with the earlier one
abbrev pub IsBeginning : List Line → List Line → Type 0
IsBeginning before after = (news : List Line) × (after ≡ before ++ news)

-- the later journal is the earlier one and news, of which each line has the property
abbrev pub IsLonger : (Line → Type 0) → List Line → List Line → Type 0
IsLonger P before after = (news : List Line) × (after ≡ before ++ news) × Each P news

-- the second journal is the first one, or longer by one entry of this ticket and caller
abbrev pub MayFollow : ℕ → ℕ → List Line → List Line → Type 0
MayFollow ticket caller before after = (after ≡ before)
    ⊎ ((l : Line) × (after ≡ before ++ l ∷ []) × (l.ticket ≡ ticket) × (l.caller ≡ caller))

-- the longer of two journals of which one is a beginning of the other
abbrev pub longer_of : List Line → List Line → List Line
longer_of [] ys = ys
longer_of (x ∷ xs) [] = x ∷ xs
longer_of (x ∷ xs) (y ∷ ys) = x ∷ longer_of xs ys

-- the lines of this caller
abbrev pub of_caller : ℕ → List Line → List Line
of_caller caller = filter (λ l. l.caller == caller)
