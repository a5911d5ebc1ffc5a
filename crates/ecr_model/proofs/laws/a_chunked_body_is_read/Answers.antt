use Rattle.ecr_model.proofs.lemmas.examples.ChunkExampleLemmas.{a_chunked_body_is_read}
use Rattle.ecr_model.proofs.laws.a_chunked_body_is_read.Goals as goal

pub returns : goal.returns
returns c = record { read = a_chunked_body_is_read }
