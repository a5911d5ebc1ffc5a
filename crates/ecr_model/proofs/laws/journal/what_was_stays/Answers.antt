use Rattle.ecr_model.specs.registry.Directories as directories
use Rattle.ecr_model.specs.registry.Steps as steps
use Rattle.ecr_model.proofs.lemmas.registry.JournalLemmas.{what_was_stays}
use Rattle.ecr_model.proofs.laws.journal.what_was_stays.Goals as goal

pub returns-clause-repositories : goal.returns-clause-repositories
returns-clause-repositories c key limits = what_was_stays (steps.after_line key limits) steps.first_state

pub returns-clause-directories : goal.returns-clause-directories
returns-clause-directories c limits = what_was_stays (directories.directory_after_line limits)
    directories.first_directory
