use Rattle.ecr_model.proofs.lemmas.examples.ExampleLemmas.{a_first_session_is_written}
use Rattle.ecr_model.proofs.laws.a_first_session_is_written.Goals as goal

pub returns : goal.returns
returns c = record { written = a_first_session_is_written }
