use Rattle.std.proofs.Common.{refl}
use Rattle.ecr_session.specs.Accounts.{no_account}
use Rattle.ecr_session.proofs.StartLemmas.{HasEnded-nothing}
use Rattle.ecr_session.proofs.session.run_session.Goals as goal

pub returns-in_default : goal.returns-in_default
returns-in_default g c = record { serves = (no_account, c.requires.none, HasEnded-nothing _ _ refl) }
