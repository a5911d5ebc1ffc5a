-- Bytes in base64 (RFC 4648, section 4).
use Rattle.std.specs.Prelude.{ℕ, List, Option}
use Rattle.std.specs.Result.{result_ok}
use Rattle.base64.specs.Engines.{standard}
use Rattle.base64.specs.GeneralPurpose.{decode_of}

-- the bytes that the text is the base64 of, where it is one, with its padding
abbrev pub blob_of : List ℕ → Option (List ℕ)
blob_of text = result_ok (decode_of standard text)
