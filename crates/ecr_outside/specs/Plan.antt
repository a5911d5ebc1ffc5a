-- What the calls of a thing in memory are to do, by their numbers from 0. Sizes are in bytes.
use Rattle.std.specs.Prelude.{ℕ, ◌+◌, ◌-◌, ◌^◌, ◌==◌, Bool, min, max, List, length, slice_index_or}
use Rattle.std.specs.List.{list_any}

-- how many bytes the call of this number moves at most: its size in the list, past the end the last
-- one, without a list no limit; at least 1
abbrev pub most_at : List ℕ → ℕ → ℕ
most_at sizes call = max 1 (slice_index_or sizes (min call (length sizes - 1)) (2 ^ 64 - 1))

-- the call of this number is to fail
abbrev pub is_failing : List ℕ → ℕ → Bool
is_failing fails call = list_any (λ n. n == call) fails

-- the number of the call after that of this number, at most 2^64 - 1
abbrev pub next_call : ℕ → ℕ
next_call call = min (call + 1) (2 ^ 64 - 1)
