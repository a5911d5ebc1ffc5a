use Rattle.std.proofs.Common.{refl}
use Rattle.ecr_model.specs.registry.Steps.{first_state, step, after_line}
use Rattle.ecr_model.specs.registry.Journals.{replay}
use Rattle.ecr_examples.proofs.states.journals_are_read.Goals as goal

pub returns : goal.returns
unfolding first_state step after_line replay
returns c = record {
  read = record {
    turn_is = refl;
    entry = refl;
    line = refl;
    changed = refl;
    unchanged = refl;
    not_its = refl;
    moment = refl;
    replayed = refl;
    nothing = refl;
    last = refl;
    low = refl;
    earlier = refl;
    middle = refl;
  };
}
