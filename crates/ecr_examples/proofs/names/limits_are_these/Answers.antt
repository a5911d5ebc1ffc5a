use Rattle.std.proofs.Common.{refl}
use Rattle.ecr_model.specs.registry.Limits.{standard}
use Rattle.ecr_model.specs.http.Framing.{max_head, max_body}
use Rattle.ecr_model.specs.http.Chunks.{max_chunk_line, max_trailers}
use Rattle.ecr_model.specs.sessions.Sessions.{max_read}
use Rattle.ecr_examples.proofs.names.limits_are_these.Goals as goal

pub returns : goal.returns
unfolding standard max_head max_body max_chunk_line max_trailers max_read
returns c = record {
  these = record {
    names = refl;
    images = refl;
    tags = refl;
    parts = refl;
    bytes = refl;
    head = refl;
    line = refl;
    trailers = refl;
    body = refl;
    below = refl;
    no_segment = refl;
    other = refl;
    read = refl;
    moment = refl;
    line_end = refl;
  };
}
