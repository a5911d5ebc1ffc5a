-- How prefixes and patterns match tags (Amazon ECR User Guide, lifecycle policies, `tagPrefixList` and
-- `tagPatternList`). A text is the list of its bytes.
use Rattle.std.specs.Prelude.{ℕ, Bool, true, false, ◌&&◌, ◌||◌, ◌==◌, List, [], ◌∷◌, if◌then◌else◌}
use Rattle.std.specs.List.{list_all, list_any}

-- the prefix begins the tag
abbrev pub starts : List ℕ → List ℕ → Bool
starts [] tag = true
starts (p ∷ ps) [] = false
starts (p ∷ ps) (t ∷ ts) = p == t && starts ps ts

-- the pattern matches the tag: `*` (byte 42) matches any run of bytes, also none, and each other byte itself
abbrev pub wild : List ℕ → List ℕ → Bool
wild [] [] = true
wild [] (t ∷ ts) = false
wild (p ∷ ps) [] = p == 42 && wild ps []
wild (p ∷ ps) (t ∷ ts) = if p == 42 then wild ps (t ∷ ts) || wild (p ∷ ps) ts else p == t && wild ps ts

-- the prefix begins some tag
abbrev pub starts_some : List ℕ → List (List ℕ) → Bool
starts_some prefix tags = list_any (λ tag. starts prefix tag) tags

-- each prefix begins some tag
abbrev pub all_start : List (List ℕ) → List (List ℕ) → Bool
all_start prefixes tags = list_all (λ prefix. starts_some prefix tags) prefixes

-- the pattern matches some tag
abbrev pub matches_some : List ℕ → List (List ℕ) → Bool
matches_some pattern tags = list_any (λ tag. wild pattern tag) tags

-- each pattern matches some tag
abbrev pub all_wild : List (List ℕ) → List (List ℕ) → Bool
all_wild patterns tags = list_all (λ pattern. matches_some pattern tags) patterns
