use Rattle.std.proofs.Common.{refl}
use Rattle.ecr_model.specs.requests.Refusals.{refusal_body, refusal_data, type_text, message_text}
use Rattle.ecr_model.specs.names.Digests.{digest_text}
use Rattle.hex.proofs.OnLiterals.{hex_on_literals}
use Rattle.hex.specs.Hex.{encode_with}
use Rattle.serde_json.proofs.OnLiterals.{serde_json_on_literals}
use Rattle.std.specs.Fmt.{digits}
use Rattle.ecr_examples.proofs.refusals.refusals_are_said.Goals as goal

pub returns : goal.returns
unfolding refusal_body refusal_data type_text message_text digest_text hex_on_literals encode_with
    serde_json_on_literals digits
returns c = record {
  said = record {
    faults_are = refl;
    no_digests = refl;
    two_digests = refl;
    types = refl;
    messages = refl;
    bodies = refl;
  };
}
