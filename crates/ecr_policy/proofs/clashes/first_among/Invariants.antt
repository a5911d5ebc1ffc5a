use Rattle.std.proofs.Common.{◌≡◌, ◌+◌, [], take, drop}
use Rattle.ecr_model.specs.documents.Policies.{clashes_from}
use Rattle.ecr_policy.proofs.clashes.first_among.Given as goal

abbrev pub invariant-loop-at : goal.invariant-loop-at
invariant-loop-at l = clashes_from 1 l.rules [] l.rules ≡ clashes_from (l.at + 1) l.rules (take l.at l.rules)
    (drop l.at l.rules)
