use Rattle.std.proofs.Common.{refl}
use Rattle.ecr_model.specs.registry.Steps.{first_state, step}
use Rattle.ecr_examples.proofs.states.calls_are_decided.Goals as goal

pub returns : goal.returns
unfolding first_state step
returns c = record {
  decided = record {
    first = refl;
    answered = refl;
    refused = refl;
    became = refl;
    absent = refl;
    present = refl;
    images = refl;
    no_images = refl;
    dropped = refl;
    kept = refl;
    empty = refl;
    again = refl;
    anew = refl;
    not_empty = refl;
    forced = refl;
    unforced = refl;
    never_there = refl;
    shown = refl;
    not_shown = refl;
    alike = refl;
    alike_too = refl;
    unlike = refl;
    unlike_too = refl;
    set = refl;
    stands = refl;
    unset = refl;
    create = refl;
    delete = refl;
    describe = refl;
    setting = refl;
  };
}
