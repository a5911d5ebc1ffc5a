-- What a refusal is as JSON: no number of it is a float, and it is one level deep.
use Rattle.std.proofs.Common.{◌≡◌, ◌≤◌, ℕ, Bool, true, false, cond, Option, Some, codes, nat_lt, ◌-◌, refl, arith}
use Rattle.serde_json.specs.Data.{Members, member, number, unsigned, depth, members_depth}
use Rattle.serde_json.specs.Read.{max_depth}
use Rattle.serde_json.specs.Written.{has_float, members_have_float}
use Rattle.ecr_model.specs.declared.names.RepoKey.{RepoKey}
use Rattle.ecr_model.specs.declared.requests.refusal.Refusal.{Refusal}
use Rattle.ecr_model.specs.declared.requests.refusal.Refusal.TheVariants.{InvalidLayerPart}
use Rattle.ecr_model.specs.requests.Refusals.{with_last_byte, part_data, refusal_data}

-- ---- the member that isn't always there

members_have_float-with_last_byte : (received : ℕ) (members : Members)
    → members_have_float (with_last_byte received members) ≡ members_have_float members
members_have_float-with_last_byte received members = go (nat_lt 0 received)
  where
    go : (some : Bool) → members_have_float
        (cond some (member (codes "lastValidByteReceived") (number (unsigned (received - 1))) members) members)
        ≡ members_have_float members
    go true = refl
    go false = refl

members_depth-with_last_byte : (received : ℕ) (members : Members)
    → members_depth (with_last_byte received members) ≡ members_depth members
members_depth-with_last_byte received members = go (nat_lt 0 received)
  where
    go : (some : Bool) → members_depth
        (cond some (member (codes "lastValidByteReceived") (number (unsigned (received - 1))) members) members)
        ≡ members_depth members
    go true = omega arith
    go false = refl

-- ---- a refused part

has_float-part_data : (refusal : Refusal) (received : ℕ) (key : RepoKey) (upload : ℕ)
    → has_float (part_data refusal received key upload) ≡ false
has_float-part_data refusal received key upload = members_have_float-with_last_byte received _

depth-part_data : (refusal : Refusal) (received : ℕ) (key : RepoKey) (upload : ℕ)
    → depth (part_data refusal received key upload) ≤ max_depth
depth-part_data refusal received key upload = omega (arith, members_depth-with_last_byte)

-- ---- any refusal

-- a refusal's JSON has no number with a fraction
pub has_float-refusal_data : (refusal : Refusal) (key : Option RepoKey) (upload : Option ℕ)
    → has_float (refusal_data refusal key upload) ≡ false
unfolding refusal_data
has_float-refusal_data (InvalidLayerPart received) (Some key) (Some upload) =
    has_float-part_data (InvalidLayerPart received) received key upload
has_float-refusal_data refusal key upload = refl

-- a refusal's JSON isn't too deep to be written
pub depth-refusal_data : (refusal : Refusal) (key : Option RepoKey) (upload : Option ℕ)
    → depth (refusal_data refusal key upload) ≤ max_depth
unfolding refusal_data
depth-refusal_data (InvalidLayerPart received) (Some key) (Some upload) =
    depth-part_data (InvalidLayerPart received) received key upload
depth-refusal_data refusal key upload = omega arith
