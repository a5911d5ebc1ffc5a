use Rattle.std.proofs.Common.{refl}
use Rattle.ecr_model.specs.requests.Members.{typed_members}
use Rattle.ecr_model.specs.requests.Refusals.{parameter_text}
use Rattle.ecr_examples.proofs.requests.values_are_found.Goals as goal

pub returns : goal.returns
unfolding typed_members parameter_text
returns c = record {
  found = record {
    absent_member = refl;
    member_is = refl;
    mistyped = refl;
    with_name = refl;
    all_are = refl;
    one_not = refl;
    no_object = refl;
    an_object = refl;
    named = refl;
    unnamed = refl;
    at = refl;
    there = refl;
    text_is = refl;
    no_text = refl;
    whole_is = refl;
    no_whole = refl;
    truth_is = refl;
    no_truth = refl;
    texts_are = refl;
    no_texts = refl;
  };
}
