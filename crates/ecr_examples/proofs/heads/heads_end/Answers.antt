use Rattle.std.proofs.Common.{refl}
use Rattle.ecr_model.specs.http.Framing.{ends_empty}
use Rattle.ecr_examples.proofs.heads.heads_end.Goals as goal

pub returns : goal.returns
unfolding ends_empty
returns c = record {
  end = record {
    two = refl;
    bare = refl;
    mixed = refl;
    earlier = refl;
    one = refl;
    returns = refl;
    alone = refl;
    path = refl;
    whole = refl;
  };
}
