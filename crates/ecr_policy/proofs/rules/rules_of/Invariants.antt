use Rattle.std.proofs.Common.{◌≡◌, ◌++◌}
use Rattle.serde_json.specs.View.{items_view}
use Rattle.ecr_model.specs.documents.Policies.{rules_of}
use Rattle.ecr_policy.proofs.rules.rules_of.Given as goal

abbrev pub invariant-loop-item : goal.invariant-loop-item
invariant-loop-item l = rules_of (items_view l.fn.items.items) ≡ l.rules.items ++ rules_of
    (items_view l.item-iterator.rest.items)
