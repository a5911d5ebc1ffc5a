use Rattle.std.proofs.Common.{◌∙◌, sym}
use Rattle.ecr_api.proofs.PlaceLemmas.{token_place-other, token_place-Ok, token_place-Err}
use Rattle.ecr_api.proofs.domains.place_of.Goals as goal

pub returns-then-not-is_decimal : goal.returns-then-not-is_decimal
returns-then-not-is_decimal c = sym (token_place-other c.args.text.now cc)

pub returns-in-Ok : goal.returns-in-Ok
returns-in-Ok c = c.below_places.ensures
    ∙ sym (token_place-Ok c.args.text.now c.parse.result c.in-Ok.place c.parse.ensures.value.0 c.in-Ok.is cc)

pub returns-in-Err : goal.returns-in-Err
returns-in-Err c = sym (token_place-Err c.args.text.now c.parse.result c.in-Err.field-0 c.parse.ensures.value.0
    c.in-Err.is cc)
