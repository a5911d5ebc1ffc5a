use Rattle.std.proofs.Common.{◌≡◌, ℕ, List, [], take}
use Rattle.std.specs.BTreeSet.{BTreeSet, contains}
use Rattle.std.specs.Cmp.Lexicographic.{slice_cmp}
use Rattle.std.specs.Ordering.{nat_cmp}
use Rattle.std.specs.List.{fold}
use Rattle.ecr_model.specs.declared.names.Digest.{Digest}
use Rattle.ecr_model.specs.documents.Manifests.{with_digest}
use Rattle.ecr_manifest.proofs.OnceLemmas.{is_kept}
use Rattle.ecr_manifest.proofs.once.each_once.Given as goal

-- what was kept of the first digests, and the set has these
pub record Kept (kept : List Digest) (seen : BTreeSet (List ℕ)) (digests : List Digest) (i : ℕ) : Type 0 where
  pub once : kept ≡ fold with_digest [] (take i digests)
  pub same : (q : List ℕ) → contains (slice_cmp nat_cmp) seen q ≡ is_kept q kept

abbrev pub invariant-loop-digest : goal.invariant-loop-digest
invariant-loop-digest l = Kept l.kept.items l.seen l.digests l.digest-index
