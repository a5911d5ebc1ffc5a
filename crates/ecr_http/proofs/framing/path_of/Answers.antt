use Rattle.std.proofs.Common.{◌∙◌, take, sym, ap, eqb, arith}
use Rattle.std.proofs.lemmas.Bool.{eq-eqb}
use Rattle.std.proofs.lemmas.List.{take_all}
use Rattle.std.proofs.lemmas.List.Sums.{position_or_len_is}
use Rattle.ecr_http.proofs.framing.path_of.Goals as goal

-- the first `?` is here
pub returns-then-byte-eq63 : goal.returns-then-byte-eq63
returns-then-byte-eq63 c = record {
  path = let t = c.args.target.now in
      ap (λ n. take n t) (sym (position_or_len_is (λ b. eqb b 63) t c.loop-at.at 0 (omega arith) c.loop-at.invariant
      (λ _. eq-eqb _ 63 c.if-byte-eq63.true)));
}

-- there is none
pub returns : goal.returns
returns c = record {
  path = let t = c.args.target.now in
      sym (ap (λ n. take n t) (position_or_len_is (λ b. eqb b 63) t c.loop-at.at 0 (omega arith) c.loop-at.invariant
      (λ h. absurd (omega arith)))
      ∙ take_all c.loop-at.at t c.loop-at-test.false);
}
