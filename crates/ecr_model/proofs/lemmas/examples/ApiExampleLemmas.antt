-- The examples of bodies and replies, computed.
use Rattle.std.proofs.Common.{refl}
use Rattle.std.specs.Str.Lossy.{utf8_valid_len}
use Rattle.std.specs.Str.{is_utf8, chars}
use Rattle.std.specs.Fmt.{digits}
use Rattle.hex.specs.Hex.{encode_with}
use Rattle.serde_json.proofs.OnLiterals.{serde_json_on_literals}
use Rattle.ecr_model.specs.requests.Actions.{reading, action_of, members_of, typed_reading, values_reading, made_by, made_in}
use Rattle.ecr_model.specs.examples.ApiExample.{BodiesAreRead, RepliesAreWritten}
use Rattle.ecr_model.specs.documents.Documents.{document}
use Rattle.ecr_model.specs.requests.Members.{typed_members, first_bad, token_place, is_decimal, digits_value, site_of_account}
use Rattle.ecr_model.specs.names.Names.{is_name}
use Rattle.ecr_model.specs.requests.Refusals.{parameter_text, type_text, message_text, refusal_data, refusal_body}
use Rattle.ecr_model.specs.requests.Rendered.{json, reply_data, repository_data}
use Rattle.ecr_model.specs.http.Replies.{json_head, connection_line}
use Rattle.ecr_model.specs.names.Sites.{utf8_or_empty, arn_of, uri_of}
use Rattle.ecr_model.specs.names.Uploads.{upload_id}

-- the example bodies are read as their table says
pub bodies_are_read : BodiesAreRead
unfolding reading action_of members_of typed_reading values_reading made_by made_in document typed_members first_bad
    token_place is_decimal digits_value site_of_account is_name parameter_text utf8_valid_len is_utf8 chars
    serde_json_on_literals
bodies_are_read = record {
  created = refl;
  immutable = refl;
  forced = refl;
  all = refl;
  page = refl;
  named = refl;
  no_action = refl;
  no_object = refl;
  no_text = refl;
  type_first = refl;
  no_name = refl;
  in_order = refl;
  none_named = refl;
  beside = refl;
  too_many = refl;
  token = refl;
}

-- the example replies are written as their table says
pub replies_are_written : RepliesAreWritten
unfolding refusal_body refusal_data type_text message_text upload_id encode_with json reply_data repository_data
    json_head connection_line utf8_or_empty arn_of uri_of utf8_valid_len is_utf8 chars digits serde_json_on_literals
replies_are_written = record { part = refl; first_part = refl; limit = refl; rows = refl }
