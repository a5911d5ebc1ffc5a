-- How far the bytes before a pattern's first `*` go with a tag's first bytes.
use Rattle.std.specs.Prelude.{ℕ, suc, Bool, ◌==◌, ◌&&◌, List, [], ◌∷◌, length, nat_lt, slice_index, if◌then◌else◌}

-- how many bytes before the pattern's first `*` (byte 42) the tag begins with
abbrev pub agreed : List ℕ → List ℕ → ℕ
agreed [] tag = 0
agreed (p ∷ ps) [] = 0
agreed (p ∷ ps) (t ∷ ts) = if p == 42 then 0 else (if p == t then suc (agreed ps ts) else 0)

-- a `*` stands there
abbrev pub is_star : List ℕ → ℕ → Bool
is_star pattern at = nat_lt at (length pattern) && slice_index pattern at == 42

-- that many bytes are the whole pattern and the whole tag
abbrev pub is_whole : List ℕ → List ℕ → ℕ → Bool
is_whole pattern tag n = n == length pattern && n == length tag
