-- The moments that a clock gave, the first one first. Moments are in seconds.
use Rattle.std.specs.Prelude.{ℕ, List, [], ◌∷◌, ◌++◌, Option, None, Some}
use Rattle.std.specs.declared.snapshot.Snapshot.{Snapshot}
use Rattle.ecr_outside.specs.declared.told.Told.{Told}

-- none, or those before the last, and the last
abbrev pub with_last : Option (Snapshot Told) → ℕ → List ℕ
with_last None last = []
with_last (Some before) last = before.value ++ last ∷ []
