use Rattle.std.proofs.Common.{refl}
use Rattle.ecr_model.specs.registry.Steps.{first_state, step, after_line}
use Rattle.ecr_model.specs.registry.Directories.{first_directory, registration, directory_after_line}
use Rattle.ecr_model.specs.registry.Journals.{replay}
use Rattle.ecr_model.specs.registry.Limits.{standard}
use Rattle.ecr_examples.proofs.kept.states_are_kept.Goals as goal

pub returns : goal.returns
unfolding first_state first_directory registration directory_after_line step after_line replay standard
returns c = record {
  kept = record {
    frame = refl;
    directory = refl;
    new = refl;
    known = refl;
    full = refl;
    page = refl;
    entered = refl;
    after_new = refl;
    after_known = refl;
    after_full = refl;
    after = refl;
    present = refl;
    now = refl;
    turn = refl;
    outcome = refl;
    reply = refl;
    changes = refl;
    unchanged = refl;
    entry = refl;
    after_call_is = refl;
    after_none = refl;
  };
}
