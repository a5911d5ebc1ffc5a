-- The lines of a head: each ends with LF (RFC 9112, section 2.2). Places are in bytes.
use Rattle.std.specs.Prelude.{◌≡◌, ℕ, ◌-◌, ◌<◌, ◌≤◌, ◌==◌, false, List, slice_index, count_by, Option, None, Some}

-- how many lines end in the bytes
abbrev pub line_count : List ℕ → ℕ
line_count bytes = count_by (λ b. b == 10) bytes

-- no line ends behind the first `from` bytes and within the first `to`
abbrev pub HasNoLine : List ℕ → ℕ → ℕ → Type 0
HasNoLine bytes from to = (k : ℕ) → from < k → k ≤ to → (slice_index bytes (k - 1) == 10) ≡ false

-- where the first line ends there, if one does
abbrev pub IsNextLine : List ℕ → ℕ → ℕ → Option ℕ → Type 0
IsNextLine bytes from to None = HasNoLine bytes from to
IsNextLine bytes from to (Some n) = (from < n) × (n ≤ to) × HasNoLine bytes from (n - 1)
