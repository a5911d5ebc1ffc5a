-- Bytes as JSON documents (RFC 8259, sections 2 and 8.1).
use Rattle.std.specs.Prelude.{ℕ, List, length, Option, None, if◌then◌else◌, ◌==◌}
use Rattle.std.specs.Str.Lossy.{utf8_valid_len}
use Rattle.serde_json.specs.Data.{Data}
use Rattle.serde_json.specs.Read.{read}

-- the JSON reading of bytes; bytes that aren't UTF-8 have none
unfoldable pub document : List ℕ → Option Data
document bytes = if utf8_valid_len bytes == length bytes then read bytes else None
