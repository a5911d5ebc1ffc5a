use Rattle.ecr_model.proofs.lemmas.sessions.AlikeLemmas.{output_is_still}
use Rattle.ecr_model.proofs.laws.callers.output_is_still.Goals as goal

pub returns : goal.returns
returns c = record { still = output_is_still }
