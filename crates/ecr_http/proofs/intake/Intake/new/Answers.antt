use Rattle.std.proofs.Common.{refl}
use Rattle.ecr_http.proofs.NextHeadLemmas.{IsReady-fresh}
use Rattle.ecr_http.proofs.intake.Intake.new.Goals as goal

pub returns-clause-ready : goal.returns-clause-ready
returns-clause-ready c = IsReady-fresh _ c.new.ensures.empty refl refl refl
