use Rattle.std.proofs.Common.{refl}
use Rattle.ecr_model.specs.http.Chunks.{max_chunk_line, max_trailers}
use Rattle.ecr_examples.proofs.streams.chunks_are_cut.Goals as goal

pub returns : goal.returns
unfolding max_chunk_line max_trailers
returns c = record {
  cut = record {
    ends = refl;
    size = refl;
    no_end = refl;
    place = refl;
    no_place = refl;
    longest = refl;
    long = refl;
    waits_longest = refl;
    waits_long = refl;
    next = refl;
    next_other = refl;
    next_open = refl;
    line = refl;
    half = refl;
    bare = refl;
    data_is = refl;
    data_longer = refl;
    data_open = refl;
    within = refl;
    past = refl;
    last = refl;
    trailers_open = refl;
    said = refl;
    said_past = refl;
    said_bad = refl;
    unsaid = refl;
    begins = refl;
    on = refl;
    none = refl;
    front = refl;
    front_lacks = refl;
    front_on = refl;
  };
}
