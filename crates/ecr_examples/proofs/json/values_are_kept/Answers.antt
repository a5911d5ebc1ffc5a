use Rattle.std.proofs.Common.{refl}
use Rattle.ecr_json.specs.Thin.{max_texts}
use Rattle.ecr_examples.proofs.json.values_are_kept.Goals as goal

pub returns : goal.returns
unfolding max_texts
returns c = record {
  kept = record {
    texts = refl;
    no_texts = refl;
    first = refl;
    first_all = refl;
    most = refl;
    plain = refl;
    list = refl;
    mixed = refl;
    nested = refl;
    named = refl;
    unnamed = refl;
  };
}
