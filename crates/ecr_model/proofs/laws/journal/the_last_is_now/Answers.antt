use Rattle.ecr_model.specs.registry.Directories as directories
use Rattle.ecr_model.specs.registry.Steps as steps
use Rattle.ecr_model.proofs.lemmas.registry.JournalLemmas.{the_last_is_now}
use Rattle.ecr_model.proofs.laws.journal.the_last_is_now.Goals as goal

pub returns-clause-repositories : goal.returns-clause-repositories
returns-clause-repositories c key limits = the_last_is_now (steps.after_line key limits) steps.first_state

pub returns-clause-directories : goal.returns-clause-directories
returns-clause-directories c limits = the_last_is_now (directories.directory_after_line limits)
    directories.first_directory
