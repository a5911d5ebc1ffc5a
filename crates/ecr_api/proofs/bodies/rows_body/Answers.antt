use Rattle.std.proofs.Common.{◌≡◌, ◌∙◌, [], ◌∷◌, ◌++◌, codes, ap, sym, append_assoc}
use Rattle.json.specs.Token as token
use Rattle.serde_json.specs.Data.{Data, Items, Members, array, object, member, no_members}
use Rattle.ecr_model.specs.requests.Rendered.{rows_data, site_asked, with_token}
use Rattle.ecr_api.specs.Readings.{meaning}
use Rattle.ecr_api.specs.Writings.{data_tokens, member_tokens, rest_tokens}
use Rattle.ecr_api.proofs.TokenLemmas.{joined}
use Rattle.ecr_api.proofs.bodies.rows_body.Goals as goal

pub returns : goal.returns
returns c =
    let old = c.in_ok-out.out.tokens in
    let t0 = c.begin_object.new.self.tokens in
    let t1 = c.write_token.new.out.tokens in
    let t2 = c.key.new.self.tokens in
    let t3 = c.begin_array.new.self.tokens in
    let t4 = c.write_rows.new.out.tokens in
    let t5 = c.end_object.new.self.tokens in
    let rows : Items = rows_data (site_asked (meaning c.args.asked.now)) c.args.rows.now in
    let members : Members = member (codes "repositories") (array rows) no_members in
    let e0 : t0 ≡ old ++ token.begin_object ∷ [] = c.in_ok-begin_object.ensures.ok in
    let e1 : t0 ++ member_tokens (with_token c.args.next members) ≡ t1 ++ member_tokens members =
    c.in_ok-write_token.ensures.ok members in
    let e2 : t2 ≡ t1 ++ token.key (codes "repositories") ∷ [] = c.in_ok-key.ensures.ok in
    let e3 : t3 ≡ t2 ++ token.begin_array ∷ [] = c.in_ok-begin_array.ensures.ok in
    let e4 : t4 ≡ t3 ++ rest_tokens rows =
    c.in_ok-write_rows.ensures.ok ∙ ap
    (λ s. t3 ++ rest_tokens (rows_data s c.args.rows.now)) c.site_asked.ensures.site in
    let e5 : t5 ≡ t4 ++ token.end_object ∷ [] = c.in_ok-end_object.ensures.ok in
    let j3 = joined t1 t2 t3 _ _ e2 e3 in
    let j4 = joined t1 t3 t4 _ _ j3 e4 in
    let j5 : t5 ≡ t1 ++ member_tokens members = joined t1 t4 t5 _ _ j4 e5 in
    let first : t0 ++ member_tokens (with_token c.args.next members) ≡ old ++ token.begin_object ∷ member_tokens
    (with_token c.args.next members) = ap (λ l. l ++ member_tokens (with_token c.args.next members)) e0
    ∙ append_assoc old (token.begin_object ∷ []) _ in
    let whole : Data = object (with_token c.args.next members) in
    c.finish.ensures whole (j5 ∙ sym e1 ∙ first ∙ ap (λ l. l ++ data_tokens whole) c.in_ok-out.ensures.tokens)
