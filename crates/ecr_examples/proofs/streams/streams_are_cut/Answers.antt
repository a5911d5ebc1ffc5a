use Rattle.std.proofs.Common.{refl}
use Rattle.ecr_model.specs.http.Framing.{max_head, waits, framing_of, max_body, says_close}
use Rattle.ecr_model.specs.http.Fields.{begins_close, has_close}
use Rattle.ecr_examples.proofs.streams.streams_are_cut.Goals as goal

pub returns : goal.returns
unfolding max_head waits framing_of max_body says_close begins_close has_close
returns c = record {
  cut = record {
    blanks = refl;
    blank = refl;
    parts = refl;
    head_is = refl;
    sized = refl;
    sized_open = refl;
    sized_long = refl;
    nothing = refl;
    body = refl;
    with = refl;
    without = refl;
    without_due = refl;
    unframed = refl;
    no_head = refl;
    head_open = refl;
    no_parse = refl;
    starts = refl;
    grows = refl;
    skips = refl;
    goes = refl;
    stops = refl;
    close = refl;
    none = refl;
    end = refl;
    inside = refl;
    goes_on = refl;
    bad_there = refl;
    long_there = refl;
    tail = refl;
    no_tail = refl;
    closes_it = refl;
  };
}
