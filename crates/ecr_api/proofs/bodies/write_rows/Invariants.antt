use Rattle.std.proofs.Common.{◌≡◌, ◌++◌, drop}
use Rattle.ecr_model.specs.requests.Rendered.{rows_data}
use Rattle.ecr_api.specs.Writings.{rest_tokens}
use Rattle.ecr_api.proofs.bodies.write_rows.Given as goal

abbrev pub invariant-loop-row : goal.invariant-loop-row
invariant-loop-row l =
    (l.out.before ≡ l.initial.out.before)
    × (l.initial.out.tokens ++ rest_tokens (rows_data l.site l.rows) ≡ l.out.tokens ++ rest_tokens
    (rows_data l.site (drop l.row-index l.rows)))
