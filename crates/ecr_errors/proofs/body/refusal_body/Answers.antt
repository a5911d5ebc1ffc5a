use Rattle.std.proofs.Common.{◌≤◌, ◌∙◌, Some, ap}
use Rattle.std.proofs.lemmas.Result.{IfOk-weaker}
use Rattle.serde_json.specs.Data.{depth}
use Rattle.serde_json.specs.Read.{max_depth}
use Rattle.serde_json.specs.View.{view}
use Rattle.serde_json.specs.Written.{compact_text, has_float}
use Rattle.ecr_model.specs.requests.Refusals.{refusal_body}
use Rattle.ecr_errors.proofs.RefusalsLemmas.{has_float-refusal_data, depth-refusal_data}
use Rattle.ecr_errors.proofs.body.refusal_body.Goals as goal

pub returns-clause-text : goal.returns-clause-text
unfolding refusal_body
returns-clause-text c =
    let e = c.in_ok-refusal_data.ensures in
    IfOk-weaker c.bytes-2.result _ _
    (λ b h. h (ap has_float e ∙ has_float-refusal_data _ _ _) ∙ ap compact_text e) c.bytes-2.ensures.text

pub returns-clause-reads_back : goal.returns-clause-reads_back
returns-clause-reads_back c =
    let e = c.in_ok-refusal_data.ensures in
    let shallow : depth (view c.in_ok-refusal_data.field-0) ≤ max_depth = rw e (depth-refusal_data _ _ _) in
    IfOk-weaker c.bytes-2.result _ _ (λ b h. h shallow ∙ ap Some e) c.bytes-2.ensures.reads_back
