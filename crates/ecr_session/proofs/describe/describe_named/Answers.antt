use Rattle.ecr_session.proofs.TurnLemmas.{Contains-described, IsDescribed-same, LeadsTo-named_on, OnErr-always, RanWith-named_refused, RanWith-named_rows, StoppedWith-named}
use Rattle.ecr_session.proofs.describe.describe_named.Goals as goal

pub returns-in_err-refusal-clause-stopped : goal.returns-in_err-refusal-clause-stopped
returns-in_err-refusal-clause-stopped g c =
    OnErr-always _ _ (StoppedWith-named _ _ _ _ _ _ _ _ c.loop-name.name-index c.name-item.result _ _ _
    c.loop-name-test.true c.name-item.is c.loop-name.invariant.to c.in_err-refusal.ensures.stopped)

pub returns-in-Some-clause-ran : goal.returns-in-Some-clause-ran
returns-in-Some-clause-ran g c =
    RanWith-named_refused _ _ _ _ _ _ _ _ _ c.loop-name.name-index c.name-item.result c.in-Some.refusal _ _ _
    c.loop-name-test.true c.name-item.is c.loop-name.invariant.to
    (IsDescribed-same _ _ _ _ _ _ _ _ _ _ _ c.in-Some.is c.in_ok-refusal.ensures.described)

pub loop-name-preserved : goal.loop-name-preserved
loop-name-preserved g c = record {
  served = Contains-described _ _ _ _ _ _ _ _ _ _ c.in_ok-refusal.ensures.described c.loop-name.invariant.served;
  to = LeadsTo-named_on _ _ _ _ _ _ _ _ _ c.loop-name.name-index c.name-item.result _ _ _ c.loop-name-test.true
      c.name-item.is c.loop-name.invariant.to
      (IsDescribed-same _ _ _ _ _ _ _ _ _ _ _ c.in_default.is c.in_ok-refusal.ensures.described);
}

pub returns-clause-ran : goal.returns-clause-ran
returns-clause-ran g c = RanWith-named_rows _ _ _ _ _ _ _ _ c.loop-name.name-index _ _ c.from_vec.ensures.items
    c.loop-name-test.false c.loop-name.invariant.to
