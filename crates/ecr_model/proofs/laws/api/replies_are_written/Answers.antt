use Rattle.ecr_model.proofs.lemmas.examples.ApiExampleLemmas.{replies_are_written}
use Rattle.ecr_model.proofs.laws.api.replies_are_written.Goals as goal

pub returns : goal.returns
returns c = record { written = replies_are_written }
