use Rattle.ecr_model.proofs.lemmas.examples.JournalExampleLemmas.{lines_stand_between}
use Rattle.ecr_model.proofs.laws.journal.lines_stand_between.Goals as goal

pub returns : goal.returns
returns c = record { between = lines_stand_between }
