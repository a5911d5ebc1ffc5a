use Rattle.std.proofs.Common.{refl}
use Rattle.ecr_session.proofs.TurnLemmas.{OnErr-always, StoppedWith-key, StoppedWith-nothing}
use Rattle.ecr_session.proofs.describe.describe_next.Goals as goal

pub returns-in_err-key-clause-stopped : goal.returns-in_err-key-clause-stopped
returns-in_err-key-clause-stopped g c = OnErr-always _ _ (StoppedWith-nothing _ _ _ _ refl)

pub returns-in_err-append-in-Described-clause-stopped :
    goal.returns-in_err-append-in-Described-clause-stopped
returns-in_err-append-in-Described-clause-stopped g c =
    OnErr-always _ _ (StoppedWith-key _ _ _ _ _ _ _ _ _ _ c.in_ok-key.ensures c.in_ok-decided.ensures.ran)
