-- Tokens that are written one after another.
use Rattle.std.proofs.Common.{◌≡◌, ◌∙◌, ℕ, List, [], ◌∷◌, ◌++◌, Option, None, Some, codes, decimal, refl, sym, ap, append_assoc}
use Rattle.json.specs.Token.{Token}
use Rattle.json.specs.Token as token
use Rattle.serde_json.specs.Data.{Members}
use Rattle.ecr_model.specs.declared.requests.refusal.Refusal.{Refusal}
use Rattle.ecr_model.specs.declared.requests.refusal.Refusal.TheVariants.{InvalidLayerPart}
use Rattle.ecr_model.specs.declared.names.RepoKey.{RepoKey}
use Rattle.ecr_model.specs.requests.Refusals.{refusal_data}
use Rattle.ecr_model.specs.requests.Rendered.{with_token}
use Rattle.ecr_api.specs.Writings.{member_tokens}

-- what was appended in two steps
pub joined : (a b c xs ys : List Token) → b ≡ a ++ xs → c ≡ b ++ ys → c ≡ a ++ (xs ++ ys)
joined a b c xs ys first second = second ∙ ap (λ l. l ++ ys) first ∙ append_assoc a xs ys

-- a member whose text is known
pub text_member : (old now : List Token) (name text known : List ℕ)
    → now ≡ old ++ token.key name ∷ token.string text ∷ [] → text ≡ known
    → now ≡ old ++ token.key name ∷ token.string known ∷ []
text_member old now name text known written same = written ∙ ap (λ t. old ++ token.key name ∷ token.string t ∷ []) same

-- `nextToken` is written before the other members
pub with_token-Some : (old mid now : List Token) (place : ℕ) (next : Option ℕ) → next ≡ Some place
    → mid ≡ old ++ token.key (codes "nextToken") ∷ [] → now ≡ mid ++ token.string (decimal place) ∷ []
    → (members : Members) → old ++ member_tokens (with_token next members) ≡ now ++ member_tokens members
with_token-Some old mid now place next is first second members =
    let whole = joined old mid now (token.key (codes "nextToken") ∷ [])
    (token.string (decimal place) ∷ []) first second in
    ap (λ o. old ++ member_tokens (with_token o members)) is
    ∙ sym (ap (λ l. l ++ member_tokens members) whole
    ∙ append_assoc old (token.key (codes "nextToken") ∷ token.string (decimal place) ∷ []) (member_tokens members))

-- without an upload a refusal's JSON doesn't name the repository
pub refusal_data-no_upload : (refusal : Refusal) (key : Option RepoKey)
    → refusal_data refusal key None ≡ refusal_data refusal None None
unfolding refusal_data
refusal_data-no_upload (InvalidLayerPart received) None = refl
refusal_data-no_upload (InvalidLayerPart received) (Some key) = refl
refusal_data-no_upload refusal key = refl
