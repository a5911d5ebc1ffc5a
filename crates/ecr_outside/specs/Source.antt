-- What a read takes from a source, by what it answers. Sizes are in bytes, and `old` and `new` are the
-- bytes that are left before and after it, where the source tells them.
use Rattle.std.specs.Prelude.{ℕ, ◌<◌, ◌≤◌, ◌==◌, min, List, length, take, Option, ⊤, if◌then◌else◌}
use Rattle.std.specs.Io.KnownBytes.{Consumes, Keeps, IsAtEnd}
use Rattle.ecr_outside.specs.Plan.{most_at, is_failing}
use Rattle.ecr_outside.specs.declared.source.Got.{Got}
use Rattle.ecr_outside.specs.declared.source.Got.TheVariants.{Bytes, End, Failed}

-- a read gives at least one byte, and no more than the buffer has room for
abbrev pub IsReadSize : Got → List ℕ → Type 0
IsReadSize (Bytes n) buf = (1 ≤ n) × (n ≤ length buf)
IsReadSize End buf = ⊤
IsReadSize Failed buf = ⊤

-- the bytes given are the first that were left; at the end none is left; a failure takes none
abbrev pub Gives : Option (List ℕ) → Option (List ℕ) → List ℕ → Got → Type 0
Gives old new buf (Bytes n) = Consumes old new (take n buf)
Gives old new buf End = Keeps old new × IsAtEnd new
Gives old new buf Failed = Keeps old new

-- a read that failed has its fault counted
abbrev pub CountsReadFault : ℕ → ℕ → Got → Type 0
CountsReadFault old new (Bytes n) = ⊤
CountsReadFault old new End = ⊤
CountsReadFault old new Failed = old < new

-- a source in memory: the bytes that are left, how often it failed, the sizes of its reads, the
-- numbers of those that fail, and the number of the next read
pub record Stream : Type 0 where
  pub left : List ℕ
  pub faults : ℕ
  pub sizes : List ℕ
  pub fails : List ℕ
  pub calls : ℕ

-- a read of so many bytes; one of none is the end
abbrev pub got_of : ℕ → Got
got_of n = if n == 0 then End else Bytes n

-- the answer of the next read into so much room: a failure by its number, else as many bytes as its
-- size, those left and the room allow
abbrev pub next_got : Stream → ℕ → Got
next_got s room = if is_failing s.fails s.calls then Failed
    else got_of (min (min (most_at s.sizes s.calls) (length s.left)) room)
