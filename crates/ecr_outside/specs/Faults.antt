-- How often something failed.
use Rattle.std.specs.Prelude.{ℕ, ◌+◌, Option, None, Some}
use Rattle.std.specs.declared.snapshot.Snapshot.{Snapshot}
use Rattle.ecr_outside.specs.declared.faults.Faults.{Faults}

-- none, or one more than before the last
abbrev pub one_more : Option (Snapshot Faults) → ℕ
one_more None = 0
one_more (Some before) = before.value + 1
