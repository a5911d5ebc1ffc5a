use Rattle.std.proofs.Common.{◌≡◌, ◌++◌, ◌∷◌, drop, string_bytes}
use Rattle.ecr_model.specs.requests.Refusals.{digests_text}
use Rattle.ecr_errors.proofs.DigestsLemmas.{more_digests}
use Rattle.ecr_errors.proofs.digests.write_some.Given as goal

abbrev pub invariant-loop-digest : goal.invariant-loop-digest
invariant-loop-digest l =
    string_bytes l.text ++ more_digests (drop l.digest-index l.rest) ≡ digests_text (l.first ∷ l.rest)
