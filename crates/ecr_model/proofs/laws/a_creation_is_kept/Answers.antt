use Rattle.ecr_model.proofs.lemmas.registry.CreationLemmas.{a_creation_is_kept}
use Rattle.ecr_model.proofs.laws.a_creation_is_kept.Goals as goal

pub returns : goal.returns
returns c = record { kept = a_creation_is_kept }
