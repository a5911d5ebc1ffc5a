use Rattle.std.proofs.Common.{refl}
use Rattle.ecr_examples.proofs.json.tags_are_matched.Goals as goal

pub returns : goal.returns
returns c = record {
  matched = record {
    prefix = refl;
    whole = refl;
    longer = refl;
    empty = refl;
    other = refl;
    same = refl;
    front = refl;
    star = refl;
    ends = refl;
    between = refl;
    none = refl;
    nothing = refl;
    nothing_more = refl;
    literal = refl;
    starts_one = refl;
    starts_none = refl;
    start_all = refl;
    start_not_all = refl;
    matches_one = refl;
    matches_none = refl;
    wild_all = refl;
    wild_not_all = refl;
  };
}
