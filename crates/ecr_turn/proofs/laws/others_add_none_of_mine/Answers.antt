use Rattle.ecr_turn.proofs.JournalLaws.{others_add_none_of_mine}
use Rattle.ecr_turn.proofs.laws.others_add_none_of_mine.Goals as goal

pub returns : goal.returns
returns c = record { unchanged = others_add_none_of_mine }
