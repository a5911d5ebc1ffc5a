-- What a write adds to a sink, by what it answers. Sizes are in bytes, and `old` and `new` are the
-- bytes that it holds before and after it, where the sink tells them.
use Rattle.std.specs.Prelude.{◌≡◌, ℕ, ◌<◌, ◌≤◌, false, min, List, length, take, Option, ⊤}
use Rattle.std.specs.Io.KnownBytes.{Appends, Keeps}
use Rattle.ecr_outside.specs.Plan.{most_at, is_failing}
use Rattle.ecr_outside.specs.declared.sink.Took.{Took}
use Rattle.ecr_outside.specs.declared.sink.Took.TheVariants.{Bytes, Failed}

-- a write takes at least one byte, and no more than the piece has
abbrev pub IsWriteSize : Took → List ℕ → Type 0
IsWriteSize (Bytes n) piece = (1 ≤ n) × (n ≤ length piece)
IsWriteSize Failed piece = ⊤

-- the bytes taken are the piece's first, and stand at the end; a failure adds none
abbrev pub Takes : Option (List ℕ) → Option (List ℕ) → List ℕ → Took → Type 0
Takes old new piece (Bytes n) = Appends old new (take n piece)
Takes old new piece Failed = Keeps old new

-- a write that failed has its fault counted
abbrev pub CountsWriteFault : ℕ → ℕ → Took → Type 0
CountsWriteFault old new (Bytes n) = ⊤
CountsWriteFault old new Failed = old < new

-- a sink in memory: the bytes that it holds, how often it failed, the sizes of its writes, the
-- numbers of those that fail, and the number of the next write
pub record Store : Type 0 where
  pub held : List ℕ
  pub faults : ℕ
  pub sizes : List ℕ
  pub fails : List ℕ
  pub calls : ℕ

-- a write that took bytes isn't one that fails by its number, and took as many of the piece as its
-- size allows; a failure may be one for want of memory
abbrev pub IsPlanned : Store → List ℕ → Took → Type 0
IsPlanned s piece (Bytes n) = (is_failing s.fails s.calls ≡ false) × (n ≡ min (most_at s.sizes s.calls) (length piece))
IsPlanned s piece Failed = ⊤
