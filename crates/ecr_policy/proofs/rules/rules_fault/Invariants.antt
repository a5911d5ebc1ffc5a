use Rattle.std.proofs.Common.{◌≡◌, ◌+◌, drop}
use Rattle.serde_json.specs.View.{items_view}
use Rattle.ecr_model.specs.documents.Policies.{rules_fault}
use Rattle.ecr_policy.proofs.rules.rules_fault.Given as goal

abbrev pub invariant-loop-at : goal.invariant-loop-at
invariant-loop-at l = rules_fault 1 (items_view l.items) ≡ rules_fault (l.at + 1) (items_view (drop l.at l.items))
