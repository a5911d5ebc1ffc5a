use Rattle.std.proofs.Common.{◌≡◌, length}
use Rattle.ecr_model.specs.http.Fields.{has_later_close}
use Rattle.ecr_http.proofs.fields.has_later_close.Given as goal

abbrev pub invariant-loop-rest : goal.invariant-loop-rest
invariant-loop-rest l = has_later_close l.rest ≡ has_later_close l.text

abbrev pub decreases-loop-rest : goal.decreases-loop-rest
decreases-loop-rest l = length l.rest
