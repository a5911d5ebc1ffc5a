use Rattle.ecr_model.proofs.lemmas.examples.ExampleLemmas.{a_first_request_is_read}
use Rattle.ecr_model.proofs.laws.a_first_request_is_read.Goals as goal

pub returns : goal.returns
returns c = record { read = a_first_request_is_read }
