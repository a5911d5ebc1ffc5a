use Rattle.std.proofs.Common.{refl, arith}
use Rattle.ecr_model.specs.registry.Journals.{replay, IsSoundFrom}
use Rattle.ecr_model.specs.registry.Steps.{first_state, step, after_line}
use Rattle.ecr_model.specs.registry.Directories.{first_directory, registration, directory_after_line}
use Rattle.ecr_model.specs.registry.Limits.{standard}
use Rattle.ecr_examples.proofs.facts.journals_are_sound.Goals as goal

pub returns : goal.returns
unfolding replay IsSoundFrom first_state first_directory registration directory_after_line step after_line standard
returns c = record {
  sound = record {
    at = refl;
    at_first = refl;
    sound = (omega arith, (_, refl, tt));
    named = (omega arith, (_, refl, tt));
    from = (omega arith, (_, refl, tt));
    in_cell = (omega arith, (_, refl, tt));
  };
}
