-- Digests as text (OCI Image 1.1, descriptor, "Digests"; FIPS 180-4).
use Rattle.std.specs.Prelude.{◌≡◌, ℕ, Bool, ◌&&◌, ◌||◌, ◌==◌, nat_le, List, ◌++◌, length, take, drop, codes, Option, Some, None, Result, Ok, Err, if◌then◌else◌, bytes_eq}
use Rattle.std.specs.List.{list_all}
use Rattle.hex.specs.Hex.{IsBytes, decode_sized, encode_lower}
use Rattle.hex.specs.declared.error.FromHexError.{FromHexError}
use Rattle.ecr_model.specs.declared.names.Digest.{Digest}

-- 32 bytes
pub record IsDigest (digest : Digest) : Type 0 where
  pub size : length digest.bytes ≡ 32
  pub bytes : IsBytes digest.bytes

-- `sha256:` and the 64 lower-case hexadecimal digits of its bytes
unfoldable pub digest_text : Digest → List ℕ
digest_text digest = codes "sha256:" ++ encode_lower digest.bytes

-- `[0-9a-f]`
abbrev pub is_hex_digit : ℕ → Bool
is_hex_digit c = (nat_le 48 c && nat_le c 57) || (nat_le 97 c && nat_le c 102)

-- the digest of the bytes that were decoded
abbrev pub decoded : Result (List ℕ) FromHexError → Option Digest
decoded (Ok bytes) = Some (record { bytes = bytes })
decoded (Err e) = None

-- the digest whose bytes are the digits, of which there are 64, all in lower case
abbrev pub of_digits : List ℕ → Option Digest
of_digits digits = if list_all is_hex_digit digits then decoded (decode_sized digits 32) else None

-- the digest as which the text reads: `sha256:` and 64 lower-case hexadecimal digits
unfoldable pub digest_of : List ℕ → Option Digest
digest_of text =
    if length text == 71 && bytes_eq (take 7 text) (codes "sha256:") then of_digits (drop 7 text) else None
