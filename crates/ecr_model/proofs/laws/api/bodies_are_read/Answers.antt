use Rattle.ecr_model.proofs.lemmas.examples.ApiExampleLemmas.{bodies_are_read}
use Rattle.ecr_model.proofs.laws.api.bodies_are_read.Goals as goal

pub returns : goal.returns
returns c = record { read = bodies_are_read }
