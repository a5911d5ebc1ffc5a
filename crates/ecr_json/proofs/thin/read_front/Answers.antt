use Rattle.std.proofs.Common.{◌≡◌, ◌∷◌, [], map, ap, ◌∙◌, arith}
use Rattle.json.specs.Token.{Token}
use Rattle.json.specs.Reads.{token_of}
use Rattle.ecr_json.proofs.ThinningLemmas.{opens-other}
use Rattle.ecr_json.proofs.MemberLemmas.{KeepsOf-other, KeepsOf-empty}
use Rattle.ecr_json.proofs.thin.read_front.Goals as goal

pub returns-in_default : goal.returns-in_default
returns-in_default c =
    let names = map (λ n. n.now) c.args.names.now in
    let empty : c.args.reader.now ≡ [] = grind arith in
    KeepsOf-empty names c.args.reader.now c.next.new.self empty

pub returns-in-BeginObject : goal.returns-in-BeginObject
returns-in-BeginObject c =
    let first : c.args.reader.now ≡ token_of c.in-Some.token ∷ c.next.new.self = grind arith in
    let opened : c.args.reader.now ≡ Token.begin_object ∷ c.next.new.self =
    first ∙ ap (λ k. token_of k ∷ c.next.new.self) c.in-BeginObject.is in
    rw opened c.read_object.ensures

pub returns-in_default-token : goal.returns-in_default-token
returns-in_default-token c =
    let names = map (λ n. n.now) c.args.names.now in
    let first : c.args.reader.now ≡ token_of c.in-Some.token ∷ c.next.new.self = grind arith in
    let other = opens-other c.in-Some.token c.in_default-token.not-BeginObject in
    rw first (KeepsOf-other names (token_of c.in-Some.token) c.next.new.self c.pass.new.reader c.pass.result _ other
    c.pass.ensures c.null_if.ensures)
