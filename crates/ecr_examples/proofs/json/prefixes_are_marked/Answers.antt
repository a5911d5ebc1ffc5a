use Rattle.std.proofs.Common.{refl}
use Rattle.ecr_policy.specs.Marks.{byte_mark, text_mark, mark_of}
use Rattle.ecr_examples.proofs.json.prefixes_are_marked.Goals as goal

pub returns : goal.returns
unfolding byte_mark text_mark mark_of
returns c = record {
  marked = record {
    none = refl;
    letter = refl;
    text = refl;
    texts = refl;
    listed = refl;
    untagged = refl;
    any = refl;
    among = refl;
    not_among = refl;
  };
}
