use Rattle.ecr_model.proofs.lemmas.registry.CauseLemmas.{not_found_has_its_cause}
use Rattle.ecr_model.proofs.laws.not_found_has_its_cause.Goals as goal

pub returns : goal.returns
returns c = record { cause = not_found_has_its_cause }
