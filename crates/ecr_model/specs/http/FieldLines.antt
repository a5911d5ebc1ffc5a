-- The field lines of a head, and where they stand in it (RFC 9112, section 5). Places count bytes from 0.
use Rattle.std.specs.Prelude.{ℕ, List}
use Rattle.httparse.specs.declared.spans.HeaderSpan.{HeaderSpan}
use Rattle.httparse.specs.Spans.{span_bytes}

-- a field line: its name as it came, and its value without the spaces and tabs around it
pub record Field : Type 0 where
  pub name : List ℕ
  pub value : List ℕ

-- the field whose name and value stand there
abbrev pub field_at : List ℕ → HeaderSpan → Field
field_at head place = record { name = span_bytes head place.name; value = span_bytes head place.value }
