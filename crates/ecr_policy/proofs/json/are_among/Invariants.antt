use Rattle.std.proofs.Common.{◌≡◌, map, bytes_eq, string_bytes}
use Rattle.std.specs.List.{list_any, list_all}
use Rattle.serde_json.specs.View.{members_view}
use Rattle.ecr_model.specs.documents.Policies.{are_among}
use Rattle.ecr_policy.proofs.json.are_among.Given as goal

abbrev pub invariant-loop-key : goal.invariant-loop-key
invariant-loop-key l =
    are_among (map (λ name. name.now) l.names) (members_view l.members.entries)
    ≡ list_all (λ k. list_any (λ name. bytes_eq (string_bytes k) name) (map (λ name. name.now) l.names)) l.key-iterator
