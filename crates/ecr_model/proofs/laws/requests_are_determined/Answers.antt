use Rattle.ecr_model.proofs.lemmas.http.StreamLemmas.{Reads-unique}
use Rattle.ecr_model.proofs.laws.requests_are_determined.Goals as goal

pub returns : goal.returns
returns c = record { determined = Reads-unique }
