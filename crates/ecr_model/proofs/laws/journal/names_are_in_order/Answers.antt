use Rattle.ecr_model.proofs.lemmas.examples.JournalExampleLemmas.{names_are_in_order}
use Rattle.ecr_model.proofs.laws.journal.names_are_in_order.Goals as goal

pub returns : goal.returns
returns c = record { in_order = names_are_in_order }
