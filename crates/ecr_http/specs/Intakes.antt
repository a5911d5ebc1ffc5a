-- What is taken from a source. Sizes are in bytes.
use Rattle.std.specs.Prelude.{◌≡◌, ℕ, ◌≤◌, List, ◌++◌, length, take, drop, Option, ⊤}
use Rattle.std.specs.Io.KnownBytes.{Consumes, Keeps, IsAtEnd}
use Rattle.ecr_outside.specs.declared.source.Got.{Got}
use Rattle.ecr_outside.specs.declared.source.Got.TheVariants.{Bytes, End, Failed}

-- the bytes from the place `start` up to the place `end`
abbrev pub range : ℕ → ℕ → List ℕ → List ℕ
range start end bytes = drop start (take end bytes)

-- both are places in the bytes, in this order
abbrev pub IsRange : ℕ → ℕ → List ℕ → Type 0
IsRange start end bytes = (start ≤ end) × (end ≤ length bytes)

-- at least one byte, and no more than there is room for
abbrev pub FitsRoom : Got → ℕ → Type 0
FitsRoom (Bytes n) room = (1 ≤ n) × (n ≤ room)
FitsRoom End room = ⊤
FitsRoom Failed room = ⊤

-- some bytes, at most so many, came from the source to the end of the buffer
pub record GainsPiece (most : ℕ) (before : Option (List ℕ)) (old : List ℕ) (after : Option (List ℕ)) (now : List ℕ)
    (n : ℕ) : Type 0 where
  pub piece : List ℕ
  pub consumed : Consumes before after piece
  pub count : length piece ≡ n
  pub some : 1 ≤ n
  pub at_most : n ≤ most
  pub appended : now ≡ old ++ piece

-- the buffer after one read
abbrev pub Fills : ℕ → Option (List ℕ) → List ℕ → Option (List ℕ) → List ℕ → Got → Type 0
Fills most before old after now (Bytes n) = GainsPiece most before old after now n
Fills most before old after now End = (now ≡ old) × Keeps before after × IsAtEnd after
Fills most before old after now Failed = (now ≡ old) × Keeps before after
