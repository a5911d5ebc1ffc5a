use Rattle.std.proofs.Common.{refl}
use Rattle.ecr_model.specs.requests.Refusals.{parameter_text, refusal_body, refusal_data, type_text, message_text}
use Rattle.serde_json.proofs.OnLiterals.{serde_json_on_literals}
use Rattle.std.specs.Fmt.{digits}
use Rattle.ecr_examples.proofs.refusals.parameters_are_said.Goals as goal

pub returns : goal.returns
unfolding parameter_text refusal_body refusal_data type_text message_text serde_json_on_literals digits
returns c = record { said = record { texts = refl; bodies = refl } }
