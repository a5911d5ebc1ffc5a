-- Laws of the definition in ecr_model/specs/registry/Content.antt.
use Rattle.std.proofs.Common.{ℕ, zero, suc, ◌<◌, List, [], ◌∷◌, ◌++◌, arith, slice_index}
use Rattle.std.specs.Int.{byte_at, bytes_high_first, to_be_bytes, w32}
use Rattle.hex.specs.Hex.{IsBytes}
use Rattle.sha2.specs.Sha256.{digest_bytes, sha256}
use Rattle.sha2.proofs.Facts256.{length-sha256}
use Rattle.ecr_model.specs.registry.Content.{content_digest}
use Rattle.ecr_model.specs.names.Digests.{IsDigest}

-- bytes and then bytes are bytes
IsBytes-append : (xs ys : List ℕ) → IsBytes xs → IsBytes ys → IsBytes (xs ++ ys)
IsBytes-append [] ys h k i = k i
IsBytes-append (x ∷ xs) ys h k zero = h zero
IsBytes-append (x ∷ xs) ys h k (suc i) = IsBytes-append xs ys (λ j. h (suc j)) k i

-- a byte of a number is below 256
byte_at-small : (k n : ℕ) → byte_at k n < 256
byte_at-small zero n = omega arith
byte_at-small (suc k) n = omega arith

-- the bytes of a number are bytes
IsBytes-bytes_high_first : (k n : ℕ) → IsBytes (bytes_high_first k n)
IsBytes-bytes_high_first zero n i = omega arith
IsBytes-bytes_high_first (suc k) n zero = byte_at-small k n
IsBytes-bytes_high_first (suc k) n (suc i) = IsBytes-bytes_high_first k n i

-- the bytes of a hash value's words are bytes
IsBytes-digest_bytes : (h : List ℕ) (n : ℕ) → IsBytes (digest_bytes h n)
unfolding digest_bytes
IsBytes-digest_bytes h zero = λ i. omega arith
IsBytes-digest_bytes h (suc n) =
    IsBytes-append (digest_bytes h n) (to_be_bytes w32 (slice_index h n))
    (IsBytes-digest_bytes h n) (IsBytes-bytes_high_first 4 (slice_index h n))

-- the digest of content is 32 bytes
pub IsDigest-content_digest : (content : List ℕ) → IsDigest (content_digest content)
unfolding content_digest sha256
IsDigest-content_digest content = record { size = length-sha256 content; bytes = IsBytes-digest_bytes _ 8 }
