use Rattle.std.proofs.Common.{refl}
use Rattle.ecr_model.specs.requests.Posed.{posed_of, posed_script, posed_bytes, is_json_call}
use Rattle.ecr_model.specs.http.Hosts.{site_for, named_site, without_port}
use Rattle.ecr_model.specs.requests.Actions.{reading, action_of}
use Rattle.ecr_model.specs.requests.Requests.{asked_script, call_script, first_turn, then_cell}
use Rattle.ecr_model.specs.registry.Scripts.{then_do, run, entered, turn_at, fresh, run_to}
use Rattle.ecr_model.specs.registry.Limits.{standard}
use Rattle.ecr_model.specs.registry.Journals.{replay}
use Rattle.ecr_model.specs.registry.Directories.{first_directory, registration, directory_after_line}
use Rattle.ecr_model.specs.registry.Steps.{first_state, step, after_line}
use Rattle.ecr_model.specs.requests.Rendered.{reply_data, repository_data, json, refused}
use Rattle.ecr_model.specs.requests.Refusals.{refusal_data, type_text, message_text}
use Rattle.ecr_model.specs.http.Replies.{json_head, connection_line, empty_reply, failed_reply, interim, continue_reply, bad_reply, long_reply}
use Rattle.ecr_model.specs.names.Sites.{utf8_or_empty, arn_of, uri_of}
use Rattle.std.specs.Str.Lossy.{utf8_valid_len}
use Rattle.std.specs.Str.{is_utf8, chars}
use Rattle.std.specs.Fmt.{digits}
use Rattle.serde_json.proofs.OnLiterals.{serde_json_on_literals}
use Rattle.ecr_model.specs.sessions.Sessions.{written, left_by}
use Rattle.ecr_model.specs.http.Framing.{says_close, waits, framing_of, max_body}
use Rattle.ecr_examples.proofs.sessions.sessions_are_written.Goals as goal

pub returns : goal.returns
unfolding posed_of posed_script posed_bytes is_json_call site_for named_site without_port reading action_of asked_script
    call_script first_turn then_cell then_do run entered turn_at fresh standard replay first_directory first_state
    registration directory_after_line step after_line reply_data repository_data json refused refusal_data type_text
    message_text json_head connection_line empty_reply utf8_or_empty arn_of uri_of utf8_valid_len is_utf8 chars
    lib.Utf8.encode digits serde_json_on_literals written left_by run_to failed_reply says_close interim
    continue_reply bad_reply long_reply waits framing_of max_body
returns c = record {
  written = record {
    outcome = refl;
    script = refl;
    whole = refl;
    no_memory = refl;
    names_none = refl;
    left = refl;
    requests = refl;
    waiting = refl;
    answered = refl;
    told = refl;
    sent = refl;
    ending = refl;
    bad = refl;
    long = refl;
    last = refl;
    account = refl;
    standing = refl;
  };
}
