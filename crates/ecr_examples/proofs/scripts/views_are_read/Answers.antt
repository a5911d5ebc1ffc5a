use Rattle.std.proofs.Common.{refl}
use Rattle.ecr_model.specs.registry.Views.{with_view, answer_at, entered_in}
use Rattle.ecr_model.specs.registry.Scripts.{then_do, with_lines, fresh, parts_after, turn_at, entered, run}
use Rattle.ecr_model.specs.requests.Requests.{first_turn, then_cell, call_script}
use Rattle.ecr_model.specs.registry.Steps.{first_state, step, after_line}
use Rattle.ecr_model.specs.registry.Directories.{first_directory, registration, directory_after_line}
use Rattle.ecr_model.specs.registry.Journals.{replay}
use Rattle.ecr_examples.proofs.scripts.views_are_read.Goals as goal

pub returns : goal.returns
unfolding with_view answer_at entered_in then_do with_lines fresh parts_after turn_at entered run first_turn then_cell
    call_script first_state first_directory step after_line replay registration directory_after_line
returns c = record {
  read = record {
    seen = refl;
    unseen = refl;
    past_is = refl;
    no_past = refl;
    caller = refl;
    no_caller = refl;
    own = refl;
    its = refl;
    other = refl;
    lines = refl;
    placed = refl;
    none_sealed = refl;
    result = refl;
    line = refl;
    no_line = refl;
    alone_is = refl;
    whole_is = refl;
    whole_views = refl;
    answered = refl;
    enters = refl;
    enters_none = refl;
  };
}
