use Rattle.ecr_model.proofs.lemmas.sessions.CallerLemmas.{output_is_decided}
use Rattle.ecr_model.proofs.laws.callers.output_is_decided.Goals as goal

pub returns : goal.returns
returns c = record { decided = output_is_decided }
