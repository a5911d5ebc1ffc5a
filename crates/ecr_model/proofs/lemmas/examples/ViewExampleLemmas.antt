-- The example of views, computed.
use Rattle.std.proofs.Common.{[], ◌∷◌, ◌++◌, refl, arith}
use Rattle.ecr_model.specs.registry.Directories as directories
use Rattle.ecr_model.specs.registry.Journals.{replay}
use Rattle.ecr_model.specs.registry.Limits.{standard}
use Rattle.ecr_model.specs.requests.Requests.{call_script, first_turn, then_cell}
use Rattle.ecr_model.specs.registry.Scripts.{then_do, turn_at}
use Rattle.ecr_model.specs.registry.Steps as steps
use Rattle.ecr_model.specs.examples.ViewExample.{before, of_directory, of_repository, registered_lines, creation, ACallIsVisited}
use Rattle.ecr_model.specs.registry.Views.{with_view, Visits, answer_at, entered_in}

-- the example's call makes both of its turns, and its answer stays
pub a_call_is_visited : ACallIsVisited
unfolding standard replay steps.step steps.first_state steps.after_line directories.directory_after_line
    directories.first_directory directories.registration turn_at with_view then_do call_script first_turn then_cell
    Visits answer_at entered_in
a_call_is_visited = record {
  visited = (
    of_directory,
    record {
      cell_is = refl;
      changed_is = refl;
      sealed_is = refl;
      fresh = omega arith;
      within = omega arith;
      comes = record {
        others = registered_lines;
        longer = refl;
        foreign = (omega arith, tt);
        later = (omega arith, tt);
        same = tt;
        onward = omega arith;
      };
      rises = (omega arith, omega arith);
      shared = λ among. refl;
      alone = λ is. absurd (cc);
    },
    (
      of_repository (before ++ creation ∷ []),
      record {
        cell_is = refl;
        changed_is = refl;
        sealed_is = refl;
        fresh = omega arith;
        within = omega arith;
        comes = record {
          others = before;
          longer = refl;
          foreign = (omega arith, (omega arith, tt));
          later = (omega arith, (omega arith, tt));
          same = tt;
          onward = omega arith;
        };
        rises = (omega arith, (omega arith, (omega arith, omega arith)));
        shared = λ among. refl;
        alone = λ is. absurd (cc);
      },
      (refl, refl),
    ),
  );
  stays = refl;
  entered = refl;
  earlier = refl;
  too_few = refl;
}
