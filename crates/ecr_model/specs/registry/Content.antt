-- What content is named by (OCI Image 1.1, descriptor, "Digests"; FIPS 180-4).
use Rattle.std.specs.Prelude.{ℕ, List}
use Rattle.sha2.specs.Sha256.{sha256}
use Rattle.ecr_model.specs.declared.names.Digest.{Digest}

-- the digest of content: the SHA-256 of its bytes (FIPS 180-4, section 6.2)
unfoldable pub content_digest : List ℕ → Digest
content_digest bytes = record { bytes = sha256 bytes }
