use Rattle.std.proofs.Common.{sym, ◌-◌, ◌∙◌, arith}
use Rattle.ecr_http.proofs.LineLemmas.{HasNoEnd-no_line, HasNoEnd-next}
use Rattle.ecr_http.proofs.head.find_end_within.Goals as goal

pub returns-in_default : goal.returns-in_default
returns-in_default c = record {
  end = λ k within.
      HasNoEnd-no_line c.args.bytes.now c.loop-looked.looked c.min-last.result c.loop-looked.invariant.1
      c.in_default.ensures k
      (omega (arith, c.min-last.ensures));
}

pub returns-then-ends_empty : goal.returns-then-ends_empty
returns-then-ends_empty c = record {
  end = let none = HasNoEnd-no_line c.args.bytes.now c.loop-looked.looked
      (c.in-Some.n - 1) c.loop-looked.invariant.1 c.in-Some.ensures.2 in
      let within = c.in-Some.ensures.1 in
      record {
        within = omega (arith, c.min-last.ensures);
        not_long = omega (arith, c.min-last.ensures);
        ends = sym c.ends_empty.ensures ∙ c.if-ends_empty.true;
        first = λ k less. none k (omega arith);
      };
}

pub loop-looked-preserved : goal.loop-looked-preserved
loop-looked-preserved c =
    let none = HasNoEnd-no_line c.args.bytes.now c.loop-looked.looked
    (c.in-Some.n - 1) c.loop-looked.invariant.1 c.in-Some.ensures.2 in
    let within = c.in-Some.ensures.1 in (
      omega (arith, c.min-last.ensures),
      HasNoEnd-next c.args.bytes.now c.in-Some.n none (sym c.ends_empty.ensures ∙ c.if-ends_empty.false),
    )

pub returns : goal.returns
returns c = record { end = λ k within. c.loop-looked.invariant.1 k (omega (arith, c.min-last.ensures)) }
