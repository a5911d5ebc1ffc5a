-- What the spans of a parsed head say.
use Rattle.std.specs.Prelude.{ℕ, List, map}
use Rattle.httparse.specs.declared.spans.HeaderSpan.{HeaderSpan}
use Rattle.httparse.specs.declared.spans.RequestSpans.{RequestSpans}
use Rattle.httparse.specs.Spans.{span_bytes}
use Rattle.ecr_model.specs.http.FieldLines.{field_at}
use Rattle.ecr_model.specs.declared.http.Head.{Head}

-- the head at those spans
abbrev pub head_at : List ℕ → RequestSpans → List HeaderSpan → Head
head_at bytes parts spans = record {
  method = span_bytes bytes parts.method;
  target = span_bytes bytes parts.path;
  minor = parts.version;
  fields = map (field_at bytes) spans;
}
