use Rattle.std.proofs.Common.{refl}
use Rattle.ecr_model.specs.requests.Actions.{action_of, members_of}
use Rattle.ecr_examples.proofs.requests.actions_are_these.Goals as goal

pub returns : goal.returns
unfolding action_of members_of
returns c = record {
  these = record {
    prefix = refl;
    all = refl;
    named = refl;
    small = refl;
    bare = refl;
    optional = refl;
    required = refl;
    apart = refl;
    of_create = refl;
    of_delete = refl;
    of_describe = refl;
    of_put = refl;
  };
}
