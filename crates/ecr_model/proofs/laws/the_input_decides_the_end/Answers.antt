use Rattle.ecr_model.proofs.lemmas.sessions.EndLemmas.{the_input_decides_the_end}
use Rattle.ecr_model.proofs.laws.the_input_decides_the_end.Goals as goal

pub returns : goal.returns
returns c = record { decided = the_input_decides_the_end }
