-- The prefixes of a rule as a set. A text is the list of its bytes.
use Rattle.std.specs.Prelude.{◌≡◌, ℕ, Bool, List, [], bytes_eq}
use Rattle.std.specs.Cmp.Lexicographic.{slice_cmp}
use Rattle.std.specs.List.{list_any}
use Rattle.std.specs.List.Sorted.{IsStrictlySortedBy}
use Rattle.std.specs.Ordering.{nat_cmp}
use Rattle.ecr_model.specs.declared.registry.lifecycle.Choose.{Choose}
use Rattle.ecr_model.specs.declared.registry.lifecycle.Choose.TheVariants.{Untagged, Any, Prefixes}

-- the prefixes that the choice lists
abbrev pub prefixes_of : Choose → List (List ℕ)
prefixes_of Untagged = []
prefixes_of Any = []
prefixes_of (Prefixes texts) = texts

-- the text is one of these
abbrev pub is_among : List (List ℕ) → List ℕ → Bool
is_among texts text = list_any (λ t. bytes_eq t text) texts

-- the texts, each once, in the order of their bytes
pub record InOrder (sorted texts : List (List ℕ)) : Type 0 where
  pub ascending : IsStrictlySortedBy (slice_cmp nat_cmp) sorted
  pub same : (text : List ℕ) → is_among sorted text ≡ is_among texts text
