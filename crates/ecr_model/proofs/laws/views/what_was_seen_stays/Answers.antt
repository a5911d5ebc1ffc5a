use Rattle.ecr_model.proofs.lemmas.registry.ViewLemmas.{what_was_seen_stays}
use Rattle.ecr_model.proofs.laws.views.what_was_seen_stays.Goals as goal

pub returns : goal.returns
returns c = record { stays = what_was_seen_stays }
