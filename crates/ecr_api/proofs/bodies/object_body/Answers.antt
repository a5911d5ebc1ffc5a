use Rattle.std.proofs.Common.{◌≡◌, ◌∙◌, [], ◌∷◌, ◌++◌, ap}
use Rattle.json.specs.Token as token
use Rattle.serde_json.specs.Data.{Data, object}
use Rattle.ecr_api.specs.Writings.{data_tokens, member_tokens, written_data}
use Rattle.ecr_api.proofs.TokenLemmas.{joined}
use Rattle.ecr_api.proofs.bodies.object_body.Goals as goal

pub returns : goal.returns
returns c =
    let old = c.in_ok-out.out.tokens in
    let t0 = c.begin_object.new.self.tokens in
    let t1 = c.write_members.new.out.tokens in
    let whole : Data = object (written_data c.args.members.now) in
    let opened : t0 ≡ old ++ token.begin_object ∷ [] = c.in_ok-begin_object.ensures.ok in
    let filled : t1 ≡ t0 ++ member_tokens (written_data c.args.members.now) = c.in_ok-write_members.ensures.ok in
    c.finish.ensures whole (joined old t0 t1 _ _ opened filled
    ∙ ap (λ l. l ++ data_tokens whole) c.in_ok-out.ensures.tokens)
