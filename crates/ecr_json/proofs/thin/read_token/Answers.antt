use Rattle.std.proofs.Common.{◌≡◌, ◌∷◌, Some, option_map, List, sym, ap, ◌∙◌, arith, rules}
use Rattle.json.specs.Reads.{token_of}
use Rattle.json.specs.Token as token
use Rattle.json.proofs.Grammar.{value_is}
use Rattle.serde_json.specs.Data.{Data, null, boolean}
use Rattle.serde_json.specs.View.{view}
use Rattle.serde_json.specs.declared.value.Value.{Bool, Null, the_lemmas}
use Rattle.ecr_json.specs.Thinning.{thin_value}
use Rattle.ecr_json.proofs.ThinningLemmas.{paired, emptied_list-if, thin_value-string, thin_value-number, thin_value-boolean, thin_value-null, thin_value-array, thin_value-object, thin_value-deep}
use Rattle.ecr_json.proofs.thin.read_token.Goals as goal

pub returns-in_ok-try_from_str-in-String : goal.returns-in_ok-try_from_str-in-String
returns-in_ok-try_from_str-in-String c =
    let is = ap (λ k. thin_value c.args.depth (token_of k ∷ c.args.reader.now)) c.in-String.is in
    is ∙ thin_value-string c.args.depth c.args.reader.now c.in-String.text.now
    ∙ ap (λ d. Some (d, c.args.reader.now)) (sym c.in_ok-try_from_str-in-String.ensures)

pub returns-in-Number : goal.returns-in-Number
returns-in-Number c =
    let is = ap (λ k. thin_value c.args.depth (token_of k ∷ c.args.reader.now)) c.in-Number.is in
    is ∙ thin_value-number c.args.depth c.args.reader.now c.in-Number.text.now
    ∙ ap (option_map {U = Data × List token.Token} (λ d. (d, c.args.reader.now))) (sym c.number_value.ensures)
    ∙ sym (paired c.args.reader.now c.number_value.result)

pub returns-in-Bool : goal.returns-in-Bool
returns-in-Bool c =
    let is = ap (λ k. thin_value c.args.depth (token_of k ∷ c.args.reader.now)) c.in-Bool.is in
    let seen : view (Bool c.in-Bool.b) ≡ boolean c.in-Bool.b = search (rules, the_lemmas) in
    is ∙ thin_value-boolean c.args.depth c.args.reader.now c.in-Bool.b
    ∙ ap (λ d. Some (d, c.args.reader.now)) (sym seen)

pub returns-in-Null : goal.returns-in-Null
returns-in-Null c =
    let is = ap (λ k. thin_value c.args.depth (token_of k ∷ c.args.reader.now)) c.in-Null.is in
    let seen : view Null ≡ null = search (rules, the_lemmas) in
    is ∙ thin_value-null c.args.depth c.args.reader.now ∙ ap (λ d. Some (d, c.args.reader.now)) (sym seen)

pub returns-then-depth-gt0 : goal.returns-then-depth-gt0
returns-then-depth-gt0 c =
    let is = ap (λ k. thin_value c.args.depth (token_of k ∷ c.args.reader.now)) c.in-BeginArray.is in
    rw (is, thin_value-array c.args.depth c.args.reader.now (omega arith)) c.read_list.ensures

pub returns-else-depth-gt0 : goal.returns-else-depth-gt0
returns-else-depth-gt0 c =
    let is = ap (λ k. thin_value c.args.depth (token_of k ∷ c.args.reader.now)) c.in-BeginArray.is in
    is ∙ (thin_value-deep c.args.depth c.args.reader.now c.if-depth-gt0.false).0

pub returns-then-depth-gt0-2 : goal.returns-then-depth-gt0-2
returns-then-depth-gt0-2 c =
    let is = ap (λ k. thin_value c.args.depth (token_of k ∷ c.args.reader.now)) c.in-BeginObject.is in
    is ∙ thin_value-object c.args.depth c.args.reader.now (omega arith)
    ∙ emptied_list-if c.skip_members.result _ c.skip_members.new.reader c.empty_if.result c.skip_members.ensures
    c.empty_if.ensures

pub returns-else-depth-gt0-2 : goal.returns-else-depth-gt0-2
returns-else-depth-gt0-2 c =
    let is = ap (λ k. thin_value c.args.depth (token_of k ∷ c.args.reader.now)) c.in-BeginObject.is in
    is ∙ (thin_value-deep c.args.depth c.args.reader.now c.if-depth-gt0-2.false).1

pub returns-in-EndObject : goal.returns-in-EndObject
returns-in-EndObject c = rw (value_is c.args.depth (token_of c.args.token ∷ c.args.reader.now)) (grind arith)
