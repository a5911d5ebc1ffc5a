use Rattle.std.proofs.Common.{refl}
use Rattle.ecr_model.specs.registry.Scripts.{then_do, with_lines, fresh, parts_after, turn_at, entered, run, run_to}
use Rattle.ecr_model.specs.requests.Requests.{first_turn, then_cell, call_script}
use Rattle.ecr_model.specs.registry.Steps.{first_state, step, after_line}
use Rattle.ecr_model.specs.registry.Directories.{first_directory, registration, directory_after_line}
use Rattle.ecr_model.specs.registry.Journals.{replay}
use Rattle.ecr_examples.proofs.scripts.runs_are_counted.Goals as goal

pub returns : goal.returns
unfolding then_do with_lines fresh parts_after turn_at entered run run_to first_turn then_cell call_script first_state
    first_directory step after_line replay registration directory_after_line
returns c = record {
  counted = record {
    entries = refl;
    placed = refl;
    put_in_front = refl;
    lines = refl;
    up_to_none = refl;
    up_to_one = refl;
    up_to_all = refl;
  };
}
