use Rattle.std.proofs.Common.{◌≡◌, ◌≤◌, ℕ, List, take}
use Rattle.ecr_model.specs.documents.Manifests.{through_last}
use Rattle.ecr_manifest.proofs.given.before_spaces.Given as goal

-- what was found in the first bytes
pub record Found (end : ℕ) (text : List ℕ) (i : ℕ) : Type 0 where
  pub within : end ≤ i
  pub last : end ≡ through_last (take i text)

abbrev pub invariant-loop-at : goal.invariant-loop-at
invariant-loop-at l = Found l.end l.text l.at
