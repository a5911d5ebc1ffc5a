use Rattle.std.proofs.Common.{refl}
use Rattle.base64.proofs.OnLiterals.{base64_on_literals}
use Rattle.ecr_examples.proofs.json.members_are_found.Goals as goal

pub returns : goal.returns
unfolding base64_on_literals
returns c = record {
  found = record {
    no_null = refl;
    value = refl;
    is_there = refl;
    null_there = refl;
    none_there = refl;
    right = refl;
    wrong = refl;
    here = refl;
    absent = refl;
    of_other = refl;
    mapped = refl;
    mapped_absent = refl;
    mapped_wrong = refl;
    whole = refl;
    below = refl;
    no_whole = refl;
    itself = refl;
    no_object = refl;
    object_is = refl;
    members = refl;
    no_members_of = refl;
    more = refl;
    in_place = refl;
    unsigned_is = refl;
    blobs = refl;
  };
}
