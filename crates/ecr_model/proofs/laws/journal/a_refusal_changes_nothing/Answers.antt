use Rattle.ecr_model.proofs.lemmas.registry.StepLemmas.{a_refusal_changes_nothing}
use Rattle.ecr_model.proofs.laws.journal.a_refusal_changes_nothing.Goals as goal

pub returns : goal.returns
returns c = record { unchanged = a_refusal_changes_nothing }
