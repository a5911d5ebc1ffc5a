use Rattle.ecr_model.proofs.lemmas.examples.ExampleLemmas.{a_first_creation_is_answered}
use Rattle.ecr_model.proofs.laws.a_first_creation_is_answered.Goals as goal

pub returns : goal.returns
returns c = record { answered = a_first_creation_is_answered }
