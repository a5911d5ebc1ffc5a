use Rattle.std.proofs.Common.{◌≡◌, ◌∷◌, [], None, Some, sym, ap, ◌∙◌, arith}
use Rattle.json.specs.Json.{after_end_array}
use Rattle.json.specs.Token.{Token}
use Rattle.json.specs.Reads.{token_of}
use Rattle.serde_json.proofs.Views.{view-Array}
use Rattle.ecr_json.proofs.ThinningLemmas.{ReadsTexts-more, ReadsTexts-over, ReadsTexts-empty, ReadsTexts-others, text_of-other}
use Rattle.ecr_json.proofs.thin.read_list.Goals as goal

pub returns-in_default : goal.returns-in_default
returns-in_default c =
    let going : (after_end_array c.items.reader ≡ None) × (c.take_end_array.new.self ≡ c.items.reader) = grind arith in
    let empty : c.take_end_array.new.self ≡ [] = grind arith in
    ReadsTexts-empty c.args.depth c.args.reader.now c.items.reader c.items.texts.items c.items.invariant
    (sym going.1 ∙ empty)

pub items-preserved : goal.items-preserved
items-preserved c =
    let going : (after_end_array c.items.reader ≡ None) × (c.take_end_array.new.self ≡ c.items.reader) = grind arith in
    let first : c.take_end_array.new.self ≡ token_of c.in-Some.token ∷ c.next.new.self = grind arith in
    let text : c.items.reader ≡ Token.string c.in-String.text.now ∷ c.next.new.self =
    sym going.1 ∙ first ∙ ap (λ k. token_of k ∷ c.next.new.self) c.in-String.is in
    let h = c.items.invariant in
    ReadsTexts-more c.args.depth c.args.reader.now c.items.reader c.items.texts.items h c.in-String.text.now
    c.next.new.self c.keep.new.texts.items text
    (c.in_ok-keep.ensures h.texts h.kept)

pub returns-in_default-token : goal.returns-in_default-token
returns-in_default-token c =
    let going : (after_end_array c.items.reader ≡ None) × (c.take_end_array.new.self ≡ c.items.reader) = grind arith in
    let first : c.take_end_array.new.self ≡ token_of c.in-Some.token ∷ c.next.new.self = grind arith in
    ReadsTexts-others c.args.depth c.args.reader.now c.items.reader c.items.texts.items c.items.invariant
    (token_of c.in-Some.token) c.next.new.self (sym going.1 ∙ first)
    (text_of-other c.in-Some.token c.in_default-token.not-String) going.0 ∙ c.pass_list.ensures

pub returns : goal.returns
returns c =
    let over : after_end_array c.items.reader ≡ Some c.take_end_array.new.self = grind arith in
    ReadsTexts-over c.args.depth c.args.reader.now c.items.reader c.items.texts.items c.take_end_array.new.self
    c.items.invariant over
    ∙ ap (λ d. Some (d, c.take_end_array.new.self)) (sym (view-Array c.items.texts))
