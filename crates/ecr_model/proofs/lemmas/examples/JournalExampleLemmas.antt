-- The example of journals, computed.
use Rattle.std.proofs.Common.{refl}
use Rattle.ecr_model.specs.registry.Directories as directories
use Rattle.ecr_model.specs.examples.JournalExample.{ARepositoryComesAndGoes, LinesStandBetween, NamesAreInOrder}
use Rattle.ecr_model.specs.registry.Journals.{replay}
use Rattle.ecr_model.specs.registry.Steps as steps

-- the example's history shows the repository at each of its tickets
pub a_repository_comes_and_goes : ARepositoryComesAndGoes
unfolding replay steps.step steps.first_state steps.after_line
a_repository_comes_and_goes =
    record {
      not_yet = refl;
      there = refl;
      twice = refl;
      set = refl;
      gone = refl;
      gone_twice = refl;
      unset = refl;
      again = refl;
    }

-- the lines between two tickets of the example's history are its two middle ones
pub lines_stand_between : LinesStandBetween
unfolding replay steps.first_state steps.after_line
lines_stand_between = record { are = refl; none = refl; all = refl; lead_on = refl }

-- the example's directory has its names in the order of their bytes
pub names_are_in_order : NamesAreInOrder
unfolding replay directories.directory_after_line directories.first_directory directories.registration
names_are_in_order = record {
  ordered = refl;
  first_page = refl;
  last_page = refl;
  full = refl;
  known = refl;
  before = refl;
}
