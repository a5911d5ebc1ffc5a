use Rattle.ecr_repo.proofs.StateLemmas.{an_answer_changes_nothing}
use Rattle.ecr_repo.proofs.laws.an_answer_changes_nothing.Goals as goal

pub returns : goal.returns
returns c = record { unchanged = an_answer_changes_nothing }
