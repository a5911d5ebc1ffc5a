use Rattle.std.proofs.Common.{◌≡◌, ◌<◌, ℕ, false, get_or}
use Rattle.ecr_model.specs.http.Fields.{is_comma}
use Rattle.ecr_http.proofs.fields.before_comma.Given as goal

abbrev pub invariant-loop-at : goal.invariant-loop-at
invariant-loop-at l = (k : ℕ) → k < l.at → is_comma (get_or l.text k 0) ≡ false
