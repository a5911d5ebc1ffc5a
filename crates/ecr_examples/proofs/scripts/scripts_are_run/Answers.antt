use Rattle.std.proofs.Common.{refl}
use Rattle.ecr_model.specs.registry.Scripts.{then_do, with_lines, fresh, parts_after, turn_at, entered, run}
use Rattle.ecr_model.specs.requests.Requests.{first_turn, then_cell, call_script, site_script, named_script, listed_script, describe_script, asked_script}
use Rattle.ecr_model.specs.registry.Steps.{first_state, step, after_line}
use Rattle.ecr_model.specs.registry.Directories.{first_directory, registration, directory_after_line}
use Rattle.ecr_model.specs.registry.Journals.{replay}
use Rattle.ecr_examples.proofs.scripts.scripts_are_run.Goals as goal

pub returns : goal.returns
unfolding then_do with_lines fresh parts_after turn_at entered run first_turn then_cell call_script site_script
    named_script listed_script describe_script asked_script first_state first_directory step after_line replay
    registration directory_after_line
returns c = record {
  run = record {
    decided = refl;
    beside_is = refl;
    registering = refl;
    not_registering = refl;
    asks_new = refl;
    asks_known = refl;
    first = refl;
    told = refl;
    told_nothing = refl;
    in_cell = refl;
    unknown = refl;
    one_more = refl;
    there = refl;
    full = refl;
    unregistered = refl;
    composed = refl;
    listing = refl;
    no_listing = refl;
    names = refl;
    key_is = refl;
    rows = refl;
    no_rows = refl;
    refused = refl;
    not_refused = refl;
    one = refl;
    named = refl;
    stops = refl;
    stops_there = refl;
    left_out = refl;
    next = refl;
    no_next = refl;
    page = refl;
    no_page = refl;
    described = refl;
    described_named = refl;
    elsewhere = refl;
    of_names = refl;
    of_refusal = refl;
    asked_cell = refl;
    asked_site = refl;
    asked_many = refl;
    contents = refl;
  };
}
