use Rattle.std.proofs.Common.{refl}
use Rattle.ecr_model.specs.documents.Policies.{selection_fault, rule_fault, clash}
use Rattle.ecr_model.specs.documents.Documents.{document}
use Rattle.std.specs.Str.Lossy.{utf8_valid_len}
use Rattle.std.specs.Str.{is_utf8, chars}
use Rattle.serde_json.proofs.OnLiterals.{serde_json_on_literals}
use Rattle.ecr_examples.proofs.policies.rules_are_compared.Goals as goal

pub returns : goal.returns
unfolding selection_fault rule_fault clash document utf8_valid_len is_utf8 chars lib.Utf8.encode serde_json_on_literals
returns c = record {
  compared = record {
    later = refl;
    first = refl;
    second = refl;
    none = refl;
    all = refl;
    anys = refl;
    untaggeds = refl;
    subset = refl;
    no_subset = refl;
    same = refl;
    more_texts = refl;
    fewer_texts = refl;
    unlike = refl;
    unlike_too = refl;
    unlike_still = refl;
    number_again = refl;
    any_first = refl;
    any_last = refl;
    untagged_again = refl;
    texts_again = refl;
    any_again = refl;
    third = refl;
    no_clash = refl;
    placed = refl;
    ordered = refl;
  };
}
