use Rattle.ecr_turn.proofs.JournalLaws.{a_turn_adds_its_own}
use Rattle.ecr_turn.proofs.laws.a_turn_adds_its_own.Goals as goal

pub returns : goal.returns
returns c = record { own = a_turn_adds_its_own }
