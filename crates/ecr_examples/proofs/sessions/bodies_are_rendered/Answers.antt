use Rattle.std.proofs.Common.{refl}
use Rattle.ecr_model.specs.requests.Rendered.{reply_data, repository_data, json, refused}
use Rattle.ecr_model.specs.requests.Refusals.{refusal_data, type_text, message_text}
use Rattle.ecr_model.specs.http.Replies.{json_head, connection_line, empty_reply}
use Rattle.ecr_model.specs.names.Sites.{utf8_or_empty, arn_of, uri_of}
use Rattle.std.specs.Str.Lossy.{utf8_valid_len}
use Rattle.std.specs.Str.{is_utf8, chars}
use Rattle.std.specs.Fmt.{digits}
use Rattle.serde_json.proofs.OnLiterals.{serde_json_on_literals}
use Rattle.ecr_examples.proofs.sessions.bodies_are_rendered.Goals as goal

pub returns : goal.returns
unfolding reply_data repository_data json refused refusal_data type_text message_text json_head connection_line
    empty_reply utf8_or_empty arn_of uri_of utf8_valid_len is_utf8 chars lib.Utf8.encode digits serde_json_on_literals
returns c = record {
  rendered = record {
    words = refl;
    repository = refl;
    site_is = refl;
    key_is = refl;
    no_key = refl;
    row_is = refl;
    rows = refl;
    no_rows = refl;
    token = refl;
    no_token = refl;
    created = refl;
    deleted = refl;
    described = refl;
    set = refl;
    good = refl;
    bad = refl;
    headed = refl;
    unread = refl;
  };
}
