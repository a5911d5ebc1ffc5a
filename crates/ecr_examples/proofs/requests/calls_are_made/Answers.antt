use Rattle.std.proofs.Common.{refl}
use Rattle.ecr_model.specs.requests.Members.{typed_members, first_bad, token_place, is_decimal, digits_value, site_of_account}
use Rattle.ecr_model.specs.names.Names.{is_name}
use Rattle.ecr_model.specs.requests.Refusals.{parameter_text}
use Rattle.ecr_model.specs.requests.Actions.{action_of, members_of, typed_reading, values_reading, made_by, made_in}
use Rattle.ecr_model.specs.documents.Documents.{document}
use Rattle.std.specs.Str.Lossy.{utf8_valid_len}
use Rattle.std.specs.Str.{is_utf8, chars}
use Rattle.serde_json.proofs.OnLiterals.{serde_json_on_literals}
use Rattle.ecr_examples.proofs.requests.calls_are_made.Goals as goal

pub returns : goal.returns
unfolding typed_members first_bad token_place is_decimal digits_value site_of_account is_name parameter_text action_of
    members_of typed_reading values_reading made_by made_in document utf8_valid_len is_utf8 chars lib.Utf8.encode
    serde_json_on_literals
returns c = record {
  made = record {
    text_is = refl;
    site = refl;
    own_site = refl;
    key = refl;
    mutability = refl;
    no_mutability = refl;
    force = refl;
    no_force = refl;
    names = refl;
    no_names = refl;
    page = refl;
    no_page = refl;
    create = refl;
    delete = refl;
    describe = refl;
    put = refl;
    asked = refl;
    asked_several = refl;
    made = refl;
    not_bad = refl;
    bad = refl;
    of_values = refl;
    of_bad = refl;
    of_type = refl;
    of_nothing = refl;
    of_object = refl;
    of_no_action = refl;
    of_action = refl;
  };
}
