use Rattle.ecr_model.proofs.lemmas.registry.ViewLemmas.{answers_stay}
use Rattle.ecr_model.proofs.laws.views.answers_stay.Goals as goal

pub returns : goal.returns
returns c = record { stay = answers_stay }
