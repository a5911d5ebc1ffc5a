use Rattle.std.proofs.Common.{refl}
use Rattle.ecr_model.specs.requests.Refusals.{refusal_body, refusal_data, type_text, message_text}
use Rattle.ecr_model.specs.names.Uploads.{upload_id}
use Rattle.hex.proofs.OnLiterals.{hex_on_literals}
use Rattle.hex.specs.Hex.{encode_with}
use Rattle.serde_json.proofs.OnLiterals.{serde_json_on_literals}
use Rattle.std.specs.Fmt.{digits}
use Rattle.ecr_model.specs.names.Sites.{utf8_or_empty}
use Rattle.std.specs.Str.Lossy.{utf8_valid_len}
use Rattle.std.specs.Str.{is_utf8, chars}
use Rattle.ecr_examples.proofs.refusals.refused_parts_are_said.Goals as goal

pub returns : goal.returns
unfolding refusal_body refusal_data type_text message_text upload_id hex_on_literals encode_with serde_json_on_literals
    digits utf8_or_empty utf8_valid_len is_utf8 chars lib.Utf8.encode
returns c = record {
  said = record {
    plain = refl;
    last = refl;
    no_last = refl;
    part = refl;
    no_upload = refl;
    other = refl;
    body = refl;
  };
}
