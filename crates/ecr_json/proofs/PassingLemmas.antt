-- Values that are passed over.
use Rattle.std.proofs.Common.{◌≡◌, ℕ, zero, suc, ◌-◌, ◌<◌, ◌≤◌, List, [], ◌∷◌, length, Option, Some, None, is_some, option_map, nat_lt, refl, ap, ◌∙◌, arith}
use Rattle.std.specs.Bool.{MatchBool}
use Rattle.json.specs.Token.{Token}
use Rattle.json.specs.Json.{after_end_array, read_key, items, members, value}
use Rattle.json.proofs.Grammar.{value_is, value-begin_array, value-begin_object, left-parse_map, left_some, left_none, skip_value-shorter, read_key-shorter}
use Rattle.serde_json.specs.Data.{array, object, item, no_members, put}
use Rattle.serde_json.specs.Read.{of_json, of_items, of_members, converted, number_of}
use Rattle.serde_json.specs.View.{number_view}
use Rattle.serde_json.specs.declared.number.Number.{Number}
use Rattle.ecr_json.specs.Passing.{behind, passed, passed_items, passed_members, PassesItems, PassesMembers}
use Rattle.ecr_json.proofs.ReadingLemmas.{converted-Some, converted-array, converted-object, items-more, items-refused, items-over, members-more, members-refused, members-no_key, members-over}

-- an array is passed by its items
pub passed-begin_array : (depth : ℕ) (ts : List Token) → 0 < depth
    → passed depth (Token.begin_array ∷ ts) ≡ passed_items (depth - 1) ts
passed-begin_array depth ts some =
    let all = items (value (depth - 1)) (length ts) ts in
    ap (λ o. behind (converted of_json o)) (value-begin_array depth ts some) ∙ ap behind (converted-array all)
    ∙ left-parse_map array (converted of_items all)

-- an object is passed by its members
pub passed-begin_object : (depth : ℕ) (ts : List Token) → 0 < depth
    → passed depth (Token.begin_object ∷ ts) ≡ passed_members (depth - 1) ts
passed-begin_object depth ts some =
    let all = members (value (depth - 1)) (length ts) ts in
    ap (λ o. behind (converted of_json o)) (value-begin_object depth ts some) ∙ ap behind (converted-object all)
    ∙ left-parse_map object (converted (λ ms. of_members ms no_members) all)

-- no array stands where nothing may nest
pub passed-deep_array : (depth : ℕ) (ts rest : List Token) → depth ≤ 0 → let opened =
    Token.begin_array ∷ ts in MatchBool (nat_lt 0 depth) (passed depth opened ≡ Some rest) (passed depth opened ≡ None)
unfolding value
passed-deep_array zero ts rest h = refl
passed-deep_array (suc depth) ts rest h = let never : ⊥ = omega arith in absurd never

-- no object stands where nothing may nest
pub passed-deep_object : (depth : ℕ) (ts rest : List Token) → depth ≤ 0 → let opened =
    Token.begin_object ∷ ts in MatchBool (nat_lt 0 depth) (passed depth opened ≡ Some rest)
    (passed depth opened ≡ None)
unfolding value
passed-deep_object zero ts rest h = refl
passed-deep_object (suc depth) ts rest h = let never : ⊥ = omega arith in absurd never

-- a number is passed where it is in range
pub passed-number : (depth : ℕ) (s : List ℕ) (ts : List Token) (o : Option Number)
    → option_map number_view o ≡ number_of s
    → let first = Token.number s ∷ ts in MatchBool (is_some o) (passed depth first ≡ Some ts)
    (passed depth first ≡ None)
passed-number depth s ts None e =
    ap (λ r. behind (converted of_json r)) (value_is depth (Token.number s ∷ ts)) ∙ rw (← e)
passed-number depth s ts (Some x) e =
    ap (λ r. behind (converted of_json r)) (value_is depth (Token.number s ∷ ts)) ∙ rw (← e)

-- no value is in an empty text
pub passed-empty : (depth : ℕ) → passed depth [] ≡ None
unfolding value
passed-empty zero = refl
passed-empty (suc depth) = refl

-- a value has at least one token
pub passed-shorter : (depth : ℕ) (ts r : List Token) → passed depth ts ≡ Some r → length r < length ts
passed-shorter depth ts r e =
    let d = left_some (converted of_json (value depth ts)) r e in
    let j = converted-Some of_json (value depth ts) d.0 r d.1 in
    skip_value-shorter depth ts r (ap behind j.1)

module _ (depth : ℕ) (first left : List Token) where
  -- one item more is passed
  pub PassesItems-more : (r : List Token) → PassesItems depth first left → after_end_array left ≡ None
      → passed depth left ≡ Some r → PassesItems depth first r
  PassesItems-more r h going e =
      let p = value depth in
      let d = left_some (converted of_json (p left)) r e in
      let less = passed-shorter depth left r e in
      let some : 0 < h.turns = omega (arith, h.enough) in
      record {
        turns = h.turns - 1;
        enough = omega (arith, h.enough);
        same = h.same ∙ ap behind (items-more p h.turns left r d.0 some going d.1)
            ∙ left-parse_map (item d.0) (converted of_items (items p (h.turns - 1) r));
      }

  -- an item is wrong
  pub PassesItems-refused : PassesItems depth first left → after_end_array left ≡ None → passed depth left ≡ None
      → passed_items depth first ≡ None
  PassesItems-refused h going e =
      h.same ∙ ap behind (items-refused (value depth) h.turns left going
      (left_none (converted of_json (value depth left)) e))

  -- no item is left
  pub PassesItems-over : (r : List Token) → PassesItems depth first left → after_end_array left ≡ Some r
      → passed_items depth first ≡ Some r
  PassesItems-over r h e = h.same ∙ ap behind (items-over (value depth) h.turns left r h.enough e)

  -- one member more is passed
  pub PassesMembers-more : (k : List ℕ) (s r : List Token) → PassesMembers depth first left
      → read_key left ≡ Some (Some k, s) → passed depth s ≡ Some r → PassesMembers depth first r
  PassesMembers-more k s r h key e =
      let p = value depth in
      let d = left_some (converted of_json (p s)) r e in
      let less = passed-shorter depth s r e in
      let named = read_key-shorter left (Some k) s key in
      let some : 0 < h.turns = omega (arith, h.enough) in
      record {
        turns = h.turns - 1;
        found = put k d.0 h.found;
        enough = omega (arith, h.enough);
        same = h.same ∙ ap behind (members-more p h.found h.turns k left s r d.0 some key d.1);
      }

  -- a member has a wrong value
  pub PassesMembers-refused : (k : List ℕ) (s : List Token) → PassesMembers depth first left
      → read_key left ≡ Some (Some k, s) → passed depth s ≡ None → passed_members depth first ≡ None
  PassesMembers-refused k s h key e =
      h.same ∙ ap behind (members-refused (value depth) h.found h.turns k left s key
      (left_none (converted of_json (value depth s)) e))

  -- a member has no name
  pub PassesMembers-no_key : PassesMembers depth first left → read_key left ≡ None → passed_members depth first ≡ None
  PassesMembers-no_key h key = h.same ∙ ap behind (members-no_key (value depth) h.found h.turns left key)

  -- no member is left
  pub PassesMembers-over : (r : List Token) → PassesMembers depth first left → read_key left ≡ Some (None, r)
      → passed_members depth first ≡ Some r
  PassesMembers-over r h key = h.same ∙ ap behind (members-over (value depth) h.found h.turns left r h.enough key)
