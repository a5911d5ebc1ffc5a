use Rattle.ecr_model.proofs.lemmas.sessions.EndLemmas.{output_is_determined}
use Rattle.ecr_model.proofs.laws.output_is_determined.Goals as goal

pub returns : goal.returns
returns c = record { determined = output_is_determined }
