use Rattle.ecr_model.proofs.lemmas.http.ReadingLemmas.{bytes_have_a_reading}
use Rattle.ecr_model.proofs.laws.bytes_have_a_reading.Goals as goal

pub returns : goal.returns
returns c = record { reading = bytes_have_a_reading }
