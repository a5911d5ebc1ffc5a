use Rattle.ecr_model.proofs.lemmas.http.StreamLemmas.{Reads-last}
use Rattle.ecr_model.proofs.laws.an_end_stays.Goals as goal

pub returns : goal.returns
returns c = record { stays = Reads-last }
