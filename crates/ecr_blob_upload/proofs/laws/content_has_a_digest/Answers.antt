use Rattle.ecr_blob_upload.proofs.ContentLemmas.{IsDigest-content_digest}
use Rattle.ecr_blob_upload.proofs.laws.content_has_a_digest.Goals as goal

pub returns : goal.returns
returns c = record { digest = IsDigest-content_digest }
