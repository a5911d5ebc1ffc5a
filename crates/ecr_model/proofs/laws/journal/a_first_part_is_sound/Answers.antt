use Rattle.ecr_model.specs.registry.Directories as directories
use Rattle.ecr_model.specs.registry.Steps as steps
use Rattle.ecr_model.proofs.lemmas.registry.JournalLemmas.{a_first_part_is_sound}
use Rattle.ecr_model.proofs.laws.journal.a_first_part_is_sound.Goals as goal

pub returns-clause-repositories : goal.returns-clause-repositories
returns-clause-repositories c key limits = a_first_part_is_sound (steps.after_line key limits) steps.first_state

pub returns-clause-directories : goal.returns-clause-directories
returns-clause-directories c limits = a_first_part_is_sound (directories.directory_after_line limits)
    directories.first_directory
