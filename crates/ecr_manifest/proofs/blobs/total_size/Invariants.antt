use Rattle.std.proofs.Common.{◌≡◌, ◌^◌, ◌<◌, ℕ, List, take}
use Rattle.std.specs.List.{sum_by}
use Rattle.ecr_model.specs.declared.registry.manifest.Descriptor.{Descriptor}
use Rattle.ecr_manifest.proofs.blobs.total_size.Given as goal

-- the sum so far
pub record Sum (total : ℕ) (blobs : List Descriptor) (i : ℕ) : Type 0 where
  pub small : total < 2 ^ 63
  pub sum : total ≡ sum_by (λ x. x.size) (take i blobs)

abbrev pub invariant-loop-blob : goal.invariant-loop-blob
invariant-loop-blob l = Sum l.total l.blobs l.blob-index
