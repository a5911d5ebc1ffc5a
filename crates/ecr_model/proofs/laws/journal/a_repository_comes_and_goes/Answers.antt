use Rattle.ecr_model.proofs.lemmas.examples.JournalExampleLemmas.{a_repository_comes_and_goes}
use Rattle.ecr_model.proofs.laws.journal.a_repository_comes_and_goes.Goals as goal

pub returns : goal.returns
returns c = record { states = a_repository_comes_and_goes }
