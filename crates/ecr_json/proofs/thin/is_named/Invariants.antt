use Rattle.std.proofs.Common.{◌≡◌, map, drop}
use Rattle.ecr_json.specs.Thin.{is_named}
use Rattle.ecr_json.proofs.thin.is_named.Given as goal

abbrev pub invariant-loop-known : goal.invariant-loop-known
invariant-loop-known l = is_named l.name (map (λ n. n.now) l.names) ≡ is_named l.name
    (map (λ n. n.now) (drop l.known-index l.names))
