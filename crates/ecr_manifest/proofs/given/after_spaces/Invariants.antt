use Rattle.std.proofs.Common.{◌≡◌, drop}
use Rattle.ecr_model.specs.documents.Manifests.{after_spaces}
use Rattle.ecr_manifest.proofs.given.after_spaces.Given as goal

abbrev pub invariant-loop-at : goal.invariant-loop-at
invariant-loop-at l = after_spaces l.text ≡ after_spaces (drop l.at l.text)
