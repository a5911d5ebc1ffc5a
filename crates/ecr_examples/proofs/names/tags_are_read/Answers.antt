use Rattle.std.proofs.Common.{refl}
use Rattle.ecr_model.specs.names.Tags.{is_tag, tag_of}
use Rattle.ecr_examples.proofs.names.tags_are_read.Goals as goal

pub returns : goal.returns
unfolding is_tag tag_of
returns c = record {
  read = record {
    first = refl;
    others = refl;
    one = refl;
    mixed = refl;
    none = refl;
    dot = refl;
    dash = refl;
    most = refl;
    long = refl;
    read = refl;
    unread = refl;
  };
}
