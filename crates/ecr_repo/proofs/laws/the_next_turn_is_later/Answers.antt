use Rattle.ecr_repo.proofs.StateLemmas.{the_next_turn_is_later}
use Rattle.ecr_repo.proofs.laws.the_next_turn_is_later.Goals as goal

pub returns : goal.returns
returns c = record { later = the_next_turn_is_later }
