use Rattle.std.proofs.Common.{refl}
use Rattle.ecr_model.specs.documents.Policies.{selection_fault, rule_fault}
use Rattle.ecr_model.specs.documents.Documents.{document}
use Rattle.std.specs.Str.Lossy.{utf8_valid_len}
use Rattle.std.specs.Str.{is_utf8, chars}
use Rattle.serde_json.proofs.OnLiterals.{serde_json_on_literals}
use Rattle.ecr_examples.proofs.policies.rules_are_read.Goals as goal

pub returns : goal.returns
unfolding selection_fault rule_fault document utf8_valid_len is_utf8 chars lib.Utf8.encode serde_json_on_literals
returns c = record {
  read = record {
    members = refl;
    selection = refl;
    no_selection = refl;
    number = refl;
    no_number = refl;
    descriptions = refl;
    expires = refl;
    keeps = refl;
    expires_more = refl;
    no_action = refl;
    sound = refl;
    other_member = refl;
    bad_number = refl;
    bad_text = refl;
    bad_selection = refl;
    bad_action = refl;
    read = refl;
  };
}
