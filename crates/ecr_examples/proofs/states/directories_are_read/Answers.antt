use Rattle.std.proofs.Common.{refl}
use Rattle.ecr_model.specs.registry.Directories.{first_directory, registration, directory_after_line}
use Rattle.ecr_examples.proofs.states.directories_are_read.Goals as goal

pub returns : goal.returns
unfolding first_directory registration directory_after_line
returns c = record {
  read = record {
    less = refl;
    shorter = refl;
    same = refl;
    more = refl;
    first = refl;
    known = refl;
    unknown = refl;
    new = refl;
    again = refl;
    full = refl;
    in_order = refl;
    after_new = refl;
    after_known = refl;
    after_full = refl;
    act = refl;
    no_act = refl;
    line = refl;
    entry = refl;
    line_is = refl;
    page = refl;
    behind = refl;
    goes_on = refl;
    ends = refl;
    asked = refl;
  };
}
