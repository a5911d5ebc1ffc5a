-- JSON values that are read thinly: of an object the members of given names alone, each without what is nested in it
-- (of this registry: docs/DECISIONS.md, "Thin reading"). A name is the list of its bytes.
use Rattle.std.specs.Prelude.{◌≡◌, ◌&&◌, ℕ, zero, suc, Bool, true, List, Option, None, Some, is_some, if◌then◌else◌, option_map, bytes_eq}
use Rattle.std.specs.List.{list_any}
use Rattle.serde_json.specs.Data.{Data, null, boolean, number, string, array, object, Items, no_items, item, no_members}
use Rattle.serde_json.specs.Find.{get, as_object, as_str}

-- whether each item is a text
abbrev pub are_texts : Items → Bool
are_texts no_items = true
are_texts (item d ds) = is_some (as_str d) && are_texts ds

-- the first n of the items
abbrev pub first_items : ℕ → Items → Items
first_items n no_items = no_items
first_items zero (item d ds) = no_items
first_items (suc n) (item d ds) = item d (first_items n ds)

-- how many texts of a list are kept
unfoldable pub max_texts : ℕ
max_texts = 101

-- a value without what is nested in it: a list of texts has the first of them, any other list and an object are `{}`
abbrev pub thin : Data → Data
thin null = null
thin (boolean b) = boolean b
thin (number n) = number n
thin (string s) = string s
thin (array ds) = if are_texts ds then array (first_items max_texts ds) else object no_members
thin (object ms) = object no_members

-- whether the name is one of these
abbrev pub is_named : List ℕ → List (List ℕ) → Bool
is_named name names = list_any (bytes_eq name) names

-- the kept value is an object where the whole is, and has its members of these names, each thinly
pub record IsThin (names : List (List ℕ)) (kept all : Data) : Type 0 where
  pub objects : is_some (as_object kept) ≡ is_some (as_object all)
  pub members : (name : List ℕ) → is_named name names ≡ true → get name kept ≡ option_map thin (get name all)

-- the same of values that may not be there
abbrev pub IsThinOf : List (List ℕ) → Option Data → Option Data → Type 0
IsThinOf names None None = Unit {0}
IsThinOf names (Some kept) (Some all) = IsThin names kept all
IsThinOf names None (Some all) = ⊥
IsThinOf names (Some kept) None = ⊥
