use Rattle.std.proofs.Common.{refl}
use Rattle.ecr_model.specs.registry.Scripts.{fresh, with_lines, parts_after, entered, turn_at}
use Rattle.ecr_model.specs.registry.Steps.{first_state, step, after_line}
use Rattle.ecr_model.specs.registry.Directories.{first_directory, registration, directory_after_line}
use Rattle.ecr_model.specs.registry.Journals.{replay}
use Rattle.ecr_examples.proofs.scripts.cells_are_apart.Goals as goal

pub returns : goal.returns
unfolding fresh with_lines parts_after entered turn_at first_state first_directory registration directory_after_line
    step after_line replay
returns c = record {
  apart = record {
    site_same = refl;
    accounts = refl;
    regions = refl;
    key_same = refl;
    names = refl;
    sites = refl;
    directories = refl;
    kinds = refl;
    kinds_too = refl;
    repositories = refl;
    nothing_yet = refl;
    no_parts = refl;
    its = refl;
    others = refl;
    uploading = refl;
    not_uploading = refl;
    left = refl;
    dropped = refl;
    kept = refl;
    ended = refl;
    of_other = refl;
    unsealed = refl;
    ticket = refl;
    first_ticket = refl;
    turned = refl;
    entered = refl;
    not_entered = refl;
  };
}
