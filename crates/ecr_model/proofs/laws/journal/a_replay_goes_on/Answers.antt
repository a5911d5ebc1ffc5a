use Rattle.ecr_model.specs.registry.Directories as directories
use Rattle.ecr_model.specs.registry.Steps as steps
use Rattle.ecr_model.proofs.lemmas.registry.JournalLemmas.{replay_goes_on}
use Rattle.ecr_model.proofs.laws.journal.a_replay_goes_on.Goals as goal

pub returns-clause-repositories : goal.returns-clause-repositories
returns-clause-repositories c key limits = replay_goes_on (steps.after_line key limits) steps.first_state

pub returns-clause-directories : goal.returns-clause-directories
returns-clause-directories c limits = replay_goes_on (directories.directory_after_line limits)
    directories.first_directory
