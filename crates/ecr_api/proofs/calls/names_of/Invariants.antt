use Rattle.std.proofs.Common.{◌≡◌, ◌++◌, drop, map}
use Rattle.ecr_api.specs.Values.{item_text}
use Rattle.ecr_api.proofs.calls.names_of.Given as goal

abbrev pub invariant-loop-item : goal.invariant-loop-item
invariant-loop-item l = map (λ text. record { text = text }) (map item_text l.items) ≡ l.names.items ++ map
    (λ text. record { text = text }) (map item_text (drop l.item-index l.items))
