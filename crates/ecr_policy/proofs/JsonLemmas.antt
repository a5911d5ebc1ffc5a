-- JSON values, and the lists that they have.
use Rattle.std.proofs.Common.{◌≡◌, ◌&&◌, ℕ, suc, List, [], ◌∷◌, length, map, refl, ap, String, string_bytes, bytes_eq}
use Rattle.std.specs.List.{list_all, list_any}
use Rattle.std.specs.declared.alloc.Global.{Global}
use Rattle.serde_json.specs.View.{view, items_view, members_view}
use Rattle.serde_json.specs.declared.value.Value.{Value}
use Rattle.ecr_model.specs.documents.Policies.{are_among, is_prefix, are_prefixes, number_of, rules_of}

-- the names of an object's members are the keys of its entries
pub are_among-members_view : (names : List (List ℕ)) (es : List (String Global × Value))
    → are_among names (members_view es) ≡ list_all (λ k. list_any (λ name. bytes_eq (string_bytes k) name) names)
    (map (λ e. e.0) es)
are_among-members_view names [] = refl
are_among-members_view names (e ∷ es) =
    ap (λ b. list_any (λ name. bytes_eq (string_bytes e.0) name) names && b) (are_among-members_view names es)

pub ruleset members = (are_among-members_view)

-- the number of a list's values
pub number_of-items_view : (vs : List Value) → number_of (items_view vs) ≡ length vs
number_of-items_view [] = refl
number_of-items_view (v ∷ vs) = ap suc (number_of-items_view vs)

-- the values of a list are prefixes where each is one
pub are_prefixes-items_view : (vs : List Value) → are_prefixes (items_view vs) ≡ list_all (λ v. is_prefix (view v)) vs
are_prefixes-items_view [] = refl
are_prefixes-items_view (v ∷ vs) = ap (λ b. is_prefix (view v) && b) (are_prefixes-items_view vs)

-- a list of rules has a rule for each of its values
pub length-rules_of : (vs : List Value) → length (rules_of (items_view vs)) ≡ length vs
length-rules_of [] = refl
length-rules_of (v ∷ vs) = ap suc (length-rules_of vs)

pub ruleset items = (number_of-items_view, are_prefixes-items_view, length-rules_of)
