use Rattle.std.proofs.Common.{◌≡◌, drop}
use Rattle.serde_json.specs.View.{items_view}
use Rattle.ecr_model.specs.documents.Policies.{are_prefixes}
use Rattle.ecr_policy.proofs.selection.are_prefixes.Given as goal

abbrev pub invariant-loop-item : goal.invariant-loop-item
invariant-loop-item l = are_prefixes (items_view l.items) ≡ are_prefixes (items_view (drop l.item-index l.items))
