use Rattle.ecr_model.specs.registry.Directories as directories
use Rattle.ecr_model.specs.registry.Steps as steps
use Rattle.ecr_model.proofs.lemmas.registry.JournalLemmas.{a_sound_journal_grows}
use Rattle.ecr_model.proofs.laws.journal.a_sound_journal_grows.Goals as goal

pub returns-clause-repositories : goal.returns-clause-repositories
returns-clause-repositories c key limits = a_sound_journal_grows (steps.after_line key limits) steps.first_state

pub returns-clause-directories : goal.returns-clause-directories
returns-clause-directories c limits = a_sound_journal_grows (directories.directory_after_line limits)
    directories.first_directory
