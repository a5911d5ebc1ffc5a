use Rattle.std.proofs.Common.{refl}
use Rattle.ecr_examples.proofs.policies.values_are_read.Goals as goal

pub returns : goal.returns
returns c = record {
  read = record {
    bytes = refl;
    ascii = refl;
    wide = refl;
    all_among = refl;
    not_among = refl;
    only = refl;
    not_only = refl;
    no_object = refl;
    there = refl;
    not_there = refl;
    text_is = refl;
    no_text = refl;
    is_text = refl;
    other_text = refl;
    range = refl;
    whole_is = refl;
    no_whole = refl;
    holds = refl;
    not = refl;
    prefixes = refl;
    prefixes_all = refl;
    number = refl;
    texts = refl;
    list_hundred = refl;
    list_long = refl;
    list_empty = refl;
    list_other = refl;
  };
}
