-- The rest of a text behind a value that is passed over, in the tokens of `json` (RFC 8259). Only the crate's private
-- clauses cite it.
use Rattle.std.specs.Prelude.{◌≡◌, ◌≤◌, ℕ, List, length, Option, option_map}
use Rattle.json.specs.Token.{Token}
use Rattle.json.specs.Json.{items, members, value}
use Rattle.serde_json.specs.Data.{Members, no_members}
use Rattle.serde_json.specs.Read.{of_json, of_items, of_members, converted}

-- the tokens behind what was read
abbrev pub behind : {A : Type 0} → Option (A × List Token) → Option (List Token)
behind read = option_map (λ p. p.1) read

-- the tokens behind a value that nests no deeper than the number, if one comes first
abbrev pub passed : ℕ → List Token → Option (List Token)
passed depth ts = behind (converted of_json (value depth ts))

-- the tokens behind the items of a list, and its bracket
abbrev pub passed_items : ℕ → List Token → Option (List Token)
passed_items depth ts = behind (converted of_items (items (value depth) (length ts) ts))

-- the tokens behind the members of an object, and its brace
abbrev pub passed_members : ℕ → List Token → Option (List Token)
passed_members depth ts = behind (converted (λ ms. of_members ms no_members) (members (value depth) (length ts) ts))

-- the same tokens are behind the items that began at `first` and behind those that are left
pub record PassesItems (depth : ℕ) (first left : List Token) : Type 0 where
  pub turns : ℕ
  pub enough : length left ≤ turns
  pub same : passed_items depth first ≡ behind (converted of_items (items (value depth) turns left))

-- the same tokens are behind the members that began at `first` and behind those that are left
pub record PassesMembers (depth : ℕ) (first left : List Token) : Type 0 where
  pub turns : ℕ
  pub found : Members
  pub enough : length left ≤ turns
  pub same : passed_members depth first ≡ behind
      (converted (λ ms. of_members ms found) (members (value depth) turns left))
