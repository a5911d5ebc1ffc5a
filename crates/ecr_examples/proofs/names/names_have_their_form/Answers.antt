use Rattle.std.proofs.Common.{refl}
use Rattle.ecr_model.specs.names.Names.{is_name, name_of}
use Rattle.ecr_examples.proofs.names.names_have_their_form.Goals as goal

pub returns : goal.returns
unfolding is_name name_of
returns c = record {
  form = record {
    bytes = refl;
    dot = refl;
    dots = refl;
    underscore = refl;
    underscores = refl;
    three = refl;
    dash = refl;
    dashes = refl;
    slash = refl;
    slashes = refl;
    mixed = refl;
    dotted = refl;
    capital = refl;
    starts = refl;
    stops = refl;
    behind_underscore = refl;
    behind_dash = refl;
    short = refl;
    least = refl;
    most = refl;
    long = refl;
    read = refl;
    unread = refl;
  };
}
