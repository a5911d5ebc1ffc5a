use Rattle.std.proofs.Common.{◌≡◌, ◌∙◌, ℕ, List, [], ◌∷◌, ◌++◌, codes, ap, ap₂}
use Rattle.json.specs.Token as token
use Rattle.serde_json.specs.Data.{Data, object, member, no_members}
use Rattle.ecr_model.specs.declared.names.RepoKey.{RepoKey}
use Rattle.ecr_model.specs.declared.names.SiteId.{SiteId}
use Rattle.ecr_model.specs.requests.Rendered.{key_asked, repository_data}
use Rattle.ecr_api.specs.Readings.{meaning}
use Rattle.ecr_api.specs.Writings.{data_tokens}
use Rattle.ecr_api.proofs.TokenLemmas.{joined}
use Rattle.ecr_api.proofs.bodies.repository_body.Goals as goal

pub returns : goal.returns
returns c =
    let old = c.in_ok-out.out.tokens in
    let t0 = c.begin_object.new.self.tokens in
    let t1 = c.key.new.self.tokens in
    let t2 = c.write_repository.new.out.tokens in
    let t3 = c.end_object.new.self.tokens in
    let key = key_asked (meaning c.args.asked.now) in
    let repository : Data = repository_data key c.args.created c.args.mutability in
    let pair : SiteId → List ℕ → RepoKey = λ s n. record { site = s; name = record { text = n } } in
    let same : pair c.site_asked.result.now c.name_asked.result.now ≡ key =
    ap₂ pair c.site_asked.ensures.of_key c.name_asked.ensures in
    let e0 : t0 ≡ old ++ token.begin_object ∷ [] = c.in_ok-begin_object.ensures.ok in
    let e1 : t1 ≡ t0 ++ token.key (codes "repository") ∷ [] = c.in_ok-key.ensures.ok in
    let e2 : t2 ≡ t1 ++ data_tokens repository =
    c.in_ok-write_repository.ensures.ok
    ∙ ap (λ k. t1 ++ data_tokens (repository_data k c.args.created c.args.mutability)) same in
    let e3 : t3 ≡ t2 ++ token.end_object ∷ [] = c.in_ok-end_object.ensures.ok in
    let j1 = joined old t0 t1 _ _ e0 e1 in
    let j2 = joined old t1 t2 _ _ j1 e2 in
    let j3 = joined old t2 t3 _ _ j2 e3 in
    let whole : Data = object (member (codes "repository") repository no_members) in
    c.finish.ensures whole (j3 ∙ ap (λ l. l ++ data_tokens whole) c.in_ok-out.ensures.tokens)
