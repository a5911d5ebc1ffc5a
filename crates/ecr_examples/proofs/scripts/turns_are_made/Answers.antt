use Rattle.std.proofs.Common.{refl}
use Rattle.ecr_model.specs.registry.Scripts.{turn_at}
use Rattle.ecr_model.specs.registry.Directories.{first_directory, registration, directory_after_line}
use Rattle.ecr_model.specs.registry.Steps.{first_state, step, after_line}
use Rattle.ecr_model.specs.registry.Journals.{replay}
use Rattle.ecr_examples.proofs.scripts.turns_are_made.Goals as goal

pub returns : goal.returns
unfolding turn_at first_directory first_state step after_line replay registration directory_after_line
returns c = record {
  made = record {
    frame = refl;
    told = refl;
    new = refl;
    again = refl;
    full = refl;
    acting = refl;
    asking = refl;
    knowing = refl;
    no_call = refl;
    answer = refl;
    change = refl;
    no_name = refl;
    in_repository = refl;
    in_directory = refl;
    line = refl;
    no_line = refl;
    place = refl;
    place_unchanged = refl;
    one = refl;
    none = refl;
    changed = refl;
  };
}
