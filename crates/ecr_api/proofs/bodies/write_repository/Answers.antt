use Rattle.std.proofs.Common.{◌≡◌, ◌∙◌, [], ◌∷◌, ◌++◌, codes, decimal, ap}
use Rattle.std.proofs.lemmas.Result.{on_ok_weaker}
use Rattle.json.specs.Token as token
use Rattle.ecr_model.specs.declared.names.RepoKey.{RepoKey}
use Rattle.ecr_model.specs.requests.Rendered.{repository_data, mutability_text}
use Rattle.ecr_model.specs.names.Sites.{arn_of, uri_of, utf8_or_empty}
use Rattle.ecr_api.proofs.TokenLemmas.{joined, text_member}
use Rattle.ecr_api.proofs.bodies.write_repository.Goals as goal

pub returns-clause-ok : goal.returns-clause-ok
unfolding repository_data
returns-clause-ok c =
    let old = c.args.out.now.tokens in
    let site = c.args.site.now in
    let name = c.args.name.now in
    let key : RepoKey = record { site = site; name = record { text = name } } in
    let t0 = c.begin_object.new.self.tokens in
    let t1 = c.write_whole.new.out.tokens in
    let t2 = c.write_text.new.out.tokens in
    let t3 = c.write_text-2.new.out.tokens in
    let t4 = c.write_text-3.new.out.tokens in
    let t5 = c.write_text-4.new.out.tokens in
    let t6 = c.write_text-5.new.out.tokens in
    let e0 : t0 ≡ old ++ token.begin_object ∷ [] = c.in_ok-begin_object.ensures.ok in
    let e1 : t1 ≡ t0 ++ token.key (codes "createdAt") ∷ token.number (decimal c.args.created) ∷ [] =
    c.in_ok-write_whole.ensures.ok in
    let e2 : t2 ≡ t1 ++ token.key (codes "imageTagMutability") ∷ token.string
    (mutability_text c.args.mutability) ∷ [] =
    text_member t1 t2 _ _ _ c.in_ok-write_text.ensures.ok c.mutability_text.ensures in
    let e3 : t3 ≡ t2 ++ token.key (codes "registryId") ∷ token.string (utf8_or_empty site.account) ∷ [] =
    text_member t2 t3 _ _ _ c.in_ok-write_text-2.ensures.ok
    (c.utf8_or_empty.ensures.text ∙ ap utf8_or_empty c.as_bytes.ensures.text) in
    let e4 : t4 ≡ t3 ++ token.key (codes "repositoryArn") ∷ token.string (arn_of key) ∷ [] =
    text_member t3 t4 _ _ _ c.in_ok-write_text-3.ensures.ok (c.as_str.ensures.value ∙ c.in_ok-arn.ensures.written) in
    let e5 : t5 ≡ t4 ++ token.key (codes "repositoryName") ∷ token.string (utf8_or_empty name) ∷ [] =
    text_member t4 t5 _ _ _ c.in_ok-write_text-4.ensures.ok c.utf8_or_empty-2.ensures.text in
    let e6 : t6 ≡ t5 ++ token.key (codes "repositoryUri") ∷ token.string (uri_of key) ∷ [] =
    text_member t5 t6 _ _ _ c.in_ok-write_text-5.ensures.ok (c.as_str-2.ensures.value ∙ c.in_ok-uri.ensures.written) in
    let j1 = joined old t0 t1 _ _ e0 e1 in
    let j2 = joined old t1 t2 _ _ j1 e2 in
    let j3 = joined old t2 t3 _ _ j2 e3 in
    let j4 = joined old t3 t4 _ _ j3 e4 in
    let j5 = joined old t4 t5 _ _ j4 e5 in
    let j6 = joined old t5 t6 _ _ j5 e6 in
    on_ok_weaker c.end_object.result
    (λ e. joined old t6 c.end_object.new.self.tokens _ (token.end_object ∷ []) j6 e) c.end_object.ensures.ok
