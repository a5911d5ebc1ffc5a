use Rattle.std.proofs.Common.{refl}
use Rattle.ecr_model.specs.http.Replies.{connection_line, json_head, empty_reply, failed_reply, continue_reply, interim, bad_reply, long_reply}
use Rattle.std.specs.Fmt.{digits}
use Rattle.ecr_examples.proofs.replies.replies_are_these.Goals as goal

pub returns : goal.returns
unfolding connection_line json_head empty_reply failed_reply continue_reply interim bad_reply long_reply digits
returns c = record {
  these = record {
    closing = refl;
    open_ = refl;
    api = refl;
    empty = refl;
    head_is = refl;
    post = refl;
    small = refl;
    body = refl;
    failed = refl;
    bare = refl;
    goes_on = refl;
    due = refl;
    undue = refl;
    none = refl;
    statuses = refl;
    long = refl;
  };
}
