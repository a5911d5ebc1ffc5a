use Rattle.std.proofs.Common.{◌∙◌, take, sym, ap, eqb, arith}
use Rattle.std.proofs.lemmas.Bool.{eq-eqb}
use Rattle.std.proofs.lemmas.List.{take_all}
use Rattle.std.proofs.lemmas.List.Sums.{position_or_len_is}
use Rattle.ecr_manifest.proofs.given.before_parameters.Goals as goal

-- the first `;` is here
pub returns-then-byte-eq59 : goal.returns-then-byte-eq59
returns-then-byte-eq59 c =
    let t = c.args.text.now in
    ap (λ n. take n t) (sym (position_or_len_is (λ b. eqb b 59) t c.loop-at.at 0 (omega arith) c.loop-at.invariant
    (λ _. eq-eqb _ 59 c.if-byte-eq59.true)))

-- there is none
pub returns : goal.returns
returns c =
    let t = c.args.text.now in
    sym (ap (λ n. take n t) (position_or_len_is (λ b. eqb b 59) t c.loop-at.at 0 (omega arith) c.loop-at.invariant
    (λ h. absurd (omega arith)))
    ∙ take_all c.loop-at.at t c.loop-at-test.false)
