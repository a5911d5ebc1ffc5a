use Rattle.std.proofs.Common.{◌∙◌, refl, ap, sym}
use Rattle.std.specs.Result.{result_ok}
use Rattle.ecr_json.specs.Blobs.{blob_of}
use Rattle.ecr_json.proofs.BlobLemmas.{refused}
use Rattle.ecr_json.proofs.blob.decode_blob.Goals as goal

-- what was decoded is what the text decodes to
pub returns-in-Ok-clause-exact : goal.returns-in-Ok-clause-exact
returns-in-Ok-clause-exact c = sym (ap result_ok c.in-Ok.ensures.ok) ∙ ap blob_of c.as_bytes.ensures.value

-- the engine takes its own encoding alone
pub returns-in-Ok-clause-some : goal.returns-in-Ok-clause-some
returns-in-Ok-clause-some c = sym c.as_bytes.ensures.value ∙ c.in-Ok.ensures.exact (refl, refl)

-- a text that isn't decoded is the encoding of no bytes
pub returns-in-Err-DecodeError-clause-none : goal.returns-in-Err-DecodeError-clause-none
returns-in-Err-DecodeError-clause-none c = λ _ bytes are_bytes is.
    let refusal = c.in-Err-DecodeError in
    refused c.as_bytes.result.now bytes refusal.field-0 refusal.field-0-0 refusal.field-0-is refusal.ensures.err
    ((refusal.ensures.strict (refl, refl) bytes are_bytes).1 (c.as_bytes.ensures.value ∙ is))
