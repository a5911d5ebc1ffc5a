use Rattle.std.proofs.Common.{◌∙◌, take, sym, ap, arith}
use Rattle.std.proofs.lemmas.List.{take_all}
use Rattle.std.proofs.lemmas.List.Sums.{position_or_len_is}
use Rattle.ecr_model.specs.http.Fields.{is_comma}
use Rattle.ecr_http.proofs.fields.before_comma.Goals as goal

-- the first comma is here
pub returns-then-is_comma : goal.returns-then-is_comma
returns-then-is_comma c =
    let t = c.args.text.now in
    ap (λ n. take n t) (sym (position_or_len_is is_comma t c.loop-at.at 0 (omega arith) c.loop-at.invariant
    (λ _. sym c.is_comma.ensures ∙ c.if-is_comma.true)))

-- there is none
pub returns : goal.returns
returns c =
    let t = c.args.text.now in
    sym (ap (λ n. take n t) (position_or_len_is is_comma t c.loop-at.at 0 (omega arith) c.loop-at.invariant
    (λ h. absurd (omega arith)))
    ∙ take_all c.loop-at.at t c.loop-at-test.false)
