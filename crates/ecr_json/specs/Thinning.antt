-- Values as they are read thinly, in the tokens of `json` (RFC 8259). Only the crate's private clauses cite it.
use Rattle.std.specs.Prelude.{◌≡◌, ◌≤◌, ℕ, List, [], ◌∷◌, length, take, true, Option, None, Some, option_map, option_and_then}
use Rattle.json.specs.Token.{Token}
use Rattle.json.specs.Json.{items, members, value, parse_map}
use Rattle.serde_json.specs.Data.{Data, string, array, object, Items, no_items, item, Members, no_members, put}
use Rattle.serde_json.specs.Find.{get_member}
use Rattle.serde_json.specs.Read.{of_json, of_items, of_members, converted}
use Rattle.serde_json.specs.View.{items_view}
use Rattle.serde_json.specs.declared.value.Value.{Value}
use Rattle.ecr_json.specs.Passing.{passed, passed_items}
use Rattle.ecr_json.specs.Thin.{is_named, max_texts, thin}

-- a value that nests no deeper than the number, thinly, and the tokens behind it
abbrev pub thin_value : ℕ → List Token → Option (Data × List Token)
thin_value depth ts = parse_map thin (converted of_json (value depth ts))

-- a list by its items, thinly, and the tokens behind it
abbrev pub thin_list : ℕ → List Token → Option (Data × List Token)
thin_list depth ts = parse_map (λ ds. thin (array ds)) (converted of_items (items (value depth) (length ts) ts))

-- `{}` and the tokens behind a list, by an item of it and those after it
abbrev pub emptied_list : ℕ → List Token → Option (Data × List Token)
emptied_list depth ts = option_map (λ rest. (object no_members, rest))
    (option_and_then (passed_items depth) (passed depth ts))

-- the members of an object, and the tokens behind its brace
abbrev pub read_members : ℕ → List Token → Option (Members × List Token)
read_members depth ts = converted (λ ms. of_members ms no_members) (members (value depth) (length ts) ts)

-- the texts as items, before others
abbrev pub texts_before : List (List ℕ) → Items → Items
texts_before [] rest = rest
texts_before (s ∷ ss) rest = item (string s) (texts_before ss rest)

-- the values are the first of the texts
pub record AreFirst (vs : List Value) (texts : List (List ℕ)) : Type 0 where
  pub items : items_view vs ≡ texts_before (take max_texts texts) no_items
  pub size : length vs ≡ length (take max_texts texts)

-- the items that began at `first` were texts up to `left`
pub record ReadsTexts (depth : ℕ) (first left : List Token) (vs : List Value) : Type 0 where
  pub turns : ℕ
  pub texts : List (List ℕ)
  pub enough : length left ≤ turns
  pub same : converted of_items (items (value depth) (length first) first) ≡ parse_map (texts_before texts)
      (converted of_items (items (value depth) turns left))
  pub kept : AreFirst vs texts

-- the kept members have those of these names, each thinly
pub record HasThin (names : List (List ℕ)) (kept all : Members) : Type 0 where
  pub members : (name : List ℕ) → is_named name names ≡ true
      → get_member name kept ≡ option_map thin (get_member name all)

-- the member was read, and is kept where it is named
abbrev pub Keeps : List (List ℕ) → List ℕ → Option (Data × List Token) → Members → Members → List Token → Type 0
Keeps names name read old new rest = (d : Data) × (read ≡ Some (d, rest))
    × ((all : Members) → HasThin names old all → HasThin names new (put name d all))

-- the members that began at `first` were read up to `left`
pub record ReadsMembers (names : List (List ℕ)) (depth : ℕ) (first left : List Token) (kept : Members) : Type 0 where
  pub turns : ℕ
  pub found : Members
  pub enough : length left ≤ turns
  pub same : read_members depth first ≡ converted (λ ms. of_members ms found) (members (value depth) turns left)
  pub thinly : HasThin names kept found

-- the kept part of a value that was read, with the same tokens behind it; nothing where nothing was read
abbrev pub KeepsOf : {A : Type 0} → (A → A → Type 0) → Option (A × List Token) → Option A → List Token → Type 0
KeepsOf agree None None rest = Unit {0}
KeepsOf agree (Some p) (Some kept) rest = agree kept p.0 × (p.1 ≡ rest)
KeepsOf agree None (Some kept) rest = ⊥
KeepsOf agree (Some p) None rest = ⊥

-- the value, where no token is left
abbrev pub only_last : List Token → Data → Option Data
only_last [] kept = Some kept
only_last (t ∷ ts) kept = None
