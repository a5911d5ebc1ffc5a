-- What holds of each stream of bytes.
use Rattle.std.specs.Prelude.{◌≡◌, ℕ, Bool, true, false, List, ◌++◌}
use Rattle.ecr_model.specs.declared.http.Request.{Request}
use Rattle.ecr_model.specs.http.Stream.{Ending, ended, closed, truncated, bad_at, long_at, more, Tail, Reads}

-- bytes have at most one reading: the same requests, and the same tail
abbrev pub RequestsAreDetermined : Type 0
RequestsAreDetermined =
    (bytes : List ℕ) (over : Bool) (requests others : List Request) (tail end : Tail)
    → Reads bytes over requests tail → Reads bytes over others end → (requests ≡ others) × (tail ≡ end)

-- bytes have at least one reading, whether more are to come or not
abbrev pub BytesHaveAReading : Type 0
BytesHaveAReading =
    (bytes : List ℕ) (over : Bool) → (requests : List Request) × (tail : Tail) × Reads bytes over requests tail

-- whether the bytes show that nothing behind them counts
abbrev pub is_last : Ending → Bool
is_last ended = false
is_last closed = true
is_last (truncated at) = false
is_last (bad_at at) = true
is_last (long_at at section limit) = true
is_last more = false

-- where the bytes show the last that counts, they show the same whatever follows
abbrev pub AnEndStays : Type 0
AnEndStays =
    (bytes others : List ℕ) (over late : Bool) (requests : List Request) (tail : Tail)
    → is_last tail.ending ≡ true → Reads bytes over requests tail → Reads (bytes ++ others) late requests tail

-- a part of the bytes has the first requests of all of them: where they are cut says nothing
abbrev pub ACutChangesNothing : Type 0
ACutChangesNothing =
    (bytes others : List ℕ) (over late : Bool) (requests all : List Request) (tail last : Tail)
    → Reads bytes over requests tail → Reads (bytes ++ others) late all last
    → (later : List Request) × (all ≡ requests ++ later)
