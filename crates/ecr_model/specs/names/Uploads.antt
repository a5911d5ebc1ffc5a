-- The ids of uploads (of this registry): an upload's number in 32 lower-case hexadecimal digits, in groups of 8, 4, 4,
-- 4 and 12. Numbers count from 1 in each repository's name.
use Rattle.std.specs.Prelude.{ℕ, List, ◌++◌, take, drop, codes}
use Rattle.std.specs.Int.{bytes_high_first}
use Rattle.hex.specs.Hex.{encode_lower}

-- a number below 2^64 in 16 lower-case hexadecimal digits
abbrev pub hex_digits : ℕ → List ℕ
hex_digits number = encode_lower (bytes_high_first 8 number)

-- the text of an upload's number, which is below 2^64: the first 16 of its digits are 0
unfoldable pub upload_id : ℕ → List ℕ
upload_id number = codes "00000000-0000-0000-" ++ take 4 (hex_digits number) ++ codes "-" ++ drop 4 (hex_digits number)
