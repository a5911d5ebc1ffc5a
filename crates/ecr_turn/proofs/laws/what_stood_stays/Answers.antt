use Rattle.ecr_turn.proofs.JournalLaws.{what_stood_stays}
use Rattle.ecr_turn.proofs.laws.what_stood_stays.Goals as goal

pub returns : goal.returns
returns c = record { stays = what_stood_stays }
