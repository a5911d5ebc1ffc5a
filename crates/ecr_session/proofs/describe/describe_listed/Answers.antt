use Rattle.ecr_session.proofs.TurnLemmas.{Contains-described, LeadsTo-listed, OnErr-always, RanWith-listed_rows, StoppedWith-listed}
use Rattle.ecr_session.proofs.describe.describe_listed.Goals as goal

pub returns-in_err-describe_next-clause-stopped : goal.returns-in_err-describe_next-clause-stopped
returns-in_err-describe_next-clause-stopped g c =
    OnErr-always _ _ (StoppedWith-listed _ _ _ _ _ _ _ _ _ c.loop-name.name-index c.name-item.result _ _ _
    c.loop-name-test.true c.name-item.is c.loop-name.invariant.to c.in_err-describe_next.ensures.stopped)

pub loop-name-preserved : goal.loop-name-preserved
loop-name-preserved g c = record {
  served = Contains-described _ _ _ _ _ _ _ _ _ _ c.in_ok-describe_next.ensures.described c.loop-name.invariant.served;
  to = LeadsTo-listed _ _ _ _ _ _ _ _ _ _ c.loop-name.name-index c.name-item.result _ _ _ _ c.loop-name-test.true
      c.name-item.is c.loop-name.invariant.to c.in_ok-describe_next.ensures.described;
}

pub returns-clause-ran : goal.returns-clause-ran
returns-clause-ran g c = RanWith-listed_rows _ _ _ _ _ _ _ _ _ c.loop-name.name-index _ _ c.from_vec.ensures.items
    c.loop-name-test.false c.loop-name.invariant.to
