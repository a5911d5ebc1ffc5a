use Rattle.std.proofs.Common.{◌≡◌, ◌≢◌, ◌<◌, ◌^◌, false, true, sym, ◌∙◌, rules}
use Rattle.std.specs.Prelude.{decimal}
use Rattle.ecr_serve.proofs.WordsLemmas.{no_number-Err, no_number-above, no_number-other}
use Rattle.ecr_serve.proofs.words.read_number.Goals as goal

pub returns-in_default : goal.returns-in_default
returns-in_default c =
    no_number-Err c.args.most c.args.word.now c.parse.result c.in_default.field-0 (search rules) c.parse.ensures.value.0
    c.in_default.is

pub returns : goal.returns
returns c =
    let written : c.as_str.result.now ≡ decimal c.in-Ok.number =
    cc (c.in_ok-written.ensures.ok, c.as_str.ensures.value) in
    let other : c.args.word.now ≢ decimal c.in-Ok.number =
    λ e. let same : false ≡ true = c.if-is_same.ensures.1 (written ∙ sym e) in cc in
    no_number-other c.args.most c.args.word.now c.parse.result c.in-Ok.number
    (search rules) c.parse.ensures.value.0 c.in-Ok.is other

pub returns-then-number-most : goal.returns-then-number-most
returns-then-number-most c = no_number-above c.args.most c.args.word.now c.parse.result c.in-Ok.number (search rules)
    c.parse.ensures.value.0 c.in-Ok.is c.if-number-most.true
