-- The mark of a list of texts, by which most lists are told apart at once: FNV-1a of 64 bits, over the bytes of each
-- text and a byte 255 behind it.
use Rattle.std.specs.Prelude.{ℕ, ◌*◌, ◌%◌, ◌^◌, List, fold, bit_xor}

-- the mark after a byte more
unfoldable pub byte_mark : ℕ → ℕ → ℕ
byte_mark mark byte = (bit_xor mark byte * 1099511628211) % 2 ^ 64

-- the mark after a text more
unfoldable pub text_mark : ℕ → List ℕ → ℕ
text_mark mark text = byte_mark (fold byte_mark mark text) 255

-- the mark of the texts
unfoldable pub mark_of : List (List ℕ) → ℕ
mark_of texts = fold text_mark 14695981039346656037 texts
