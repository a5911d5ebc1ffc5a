-- The reading of JSON documents.
use Rattle.std.proofs.Common.{◌≡◌, ℕ, List, length, None}
use Rattle.std.specs.Str.{IsUtf8}
use Rattle.std.specs.Str.Lossy.{utf8_valid_len}
use Rattle.std.proofs.lemmas.Bool.{cond-true, eq-eqb}
use Rattle.std.proofs.lemmas.Str.{utf8_valid_len-IsUtf8}
use Rattle.serde_json.specs.Read.{read}
use Rattle.ecr_model.specs.documents.Documents.{document}

-- bytes that are UTF-8 have the reading of their text
pub document-IsUtf8 : (bytes : List ℕ) → IsUtf8 bytes → document bytes ≡ read bytes
unfolding document
document-IsUtf8 bytes h =
    cond-true _ (read bytes) None (eq-eqb (utf8_valid_len bytes) (length bytes) (utf8_valid_len-IsUtf8 bytes h))
