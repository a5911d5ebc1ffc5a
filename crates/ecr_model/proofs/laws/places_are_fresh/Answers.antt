use Rattle.ecr_model.proofs.lemmas.registry.SoundnessLemmas.{places_are_fresh}
use Rattle.ecr_model.proofs.laws.places_are_fresh.Goals as goal

pub returns : goal.returns
returns c = record { fresh = places_are_fresh }
