use Rattle.std.proofs.Common.{◌≡◌, ◌++◌}
use Rattle.serde_json.specs.View.{items_view}
use Rattle.ecr_model.specs.documents.Policies.{texts_of}
use Rattle.ecr_policy.proofs.selection.texts_of.Given as goal

abbrev pub invariant-loop-item : goal.invariant-loop-item
invariant-loop-item l = texts_of (items_view l.fn.items.items) ≡ l.texts.items ++ texts_of
    (items_view l.item-iterator.rest.items)
