use Rattle.std.proofs.Common.{refl}
use Rattle.ecr_model.specs.documents.Policies.{selection_fault}
use Rattle.ecr_model.specs.documents.Documents.{document}
use Rattle.std.specs.Str.Lossy.{utf8_valid_len}
use Rattle.std.specs.Str.{is_utf8, chars}
use Rattle.serde_json.proofs.OnLiterals.{serde_json_on_literals}
use Rattle.ecr_examples.proofs.policies.selections_are_read.Goals as goal

pub returns : goal.returns
unfolding selection_fault document utf8_valid_len is_utf8 chars lib.Utf8.encode serde_json_on_literals
returns c = record {
  read = record {
    members = refl;
    tagged_is = refl;
    untagged_is = refl;
    any_is = refl;
    list_is = refl;
    no_list = refl;
    prefixes = refl;
    days = refl;
    images = refl;
    units = refl;
    number = refl;
    no_number = refl;
    sound = refl;
    other_member = refl;
    no_object = refl;
    other_status = refl;
    no_prefixes = refl;
    other_count = refl;
    no_unit = refl;
    some_unit = refl;
    no_count = refl;
    chooses = refl;
    counts = refl;
  };
}
