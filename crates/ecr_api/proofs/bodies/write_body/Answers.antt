use Rattle.std.proofs.Common.{◌≡◌, None, Some, IfOk, ap, sym, subst, List, ℕ}
use Rattle.serde_json.specs.Written.{compact_text}
use Rattle.ecr_model.specs.requests.Refusals.{refusal_body}
use Rattle.ecr_model.specs.requests.Rendered.{key_asked, reply_data}
use Rattle.ecr_api.specs.Readings.{meaning}
use Rattle.ecr_api.proofs.TokenLemmas.{refusal_data-no_upload}
use Rattle.ecr_api.proofs.bodies.write_body.Goals as goal

pub returns-in-Refused : goal.returns-in-Refused
unfolding reply_data refusal_body
returns-in-Refused c =
    let refusal = c.in-Refused.refusal in
    let same : refusal_body refusal None None ≡ compact_text (reply_data (meaning c.args.asked.now) c.args.reply.now) =
    rw c.in-Refused.is (ap compact_text
    (sym (refusal_data-no_upload refusal (Some (key_asked (meaning c.args.asked.now)))))) in
    subst (λ (t : List ℕ). IfOk c.refusal_body.result (λ b. b.items ≡ t)) same c.refusal_body.ensures.text
