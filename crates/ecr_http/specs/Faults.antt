-- Why no request is taken of the bytes that come. Sizes are in bytes.
use Rattle.std.specs.Prelude.{◌≡◌, ℕ, ◌<◌, ◌≤◌, List, Option, ⊤}
use Rattle.std.specs.Io.KnownBytes.{IsAtEnd}
use Rattle.ecr_model.specs.http.Fronts.{Lack, bad, too_long, open_}
use Rattle.ecr_model.specs.sessions.Sessions.{max_read}
use Rattle.ecr_http.specs.declared.fault.Fault.{Fault}
use Rattle.ecr_http.specs.declared.fault.Fault.TheVariants as faults

-- the cause of a fault: the lack of the bytes, where P says which lacks they have, what is left of the source, and how
-- many bytes were read; a source is asked only where more may be read. Want of memory has no cause in the bytes
abbrev pub IsFault : (Lack → Type 0) → Option (List ℕ) → ℕ → Fault → Type 0
IsFault P left total faults.Ended = P open_ × IsAtEnd left × (total < max_read)
IsFault P left total faults.ReadFault = P open_ × (total < max_read)
IsFault P left total faults.WriteFault = ⊥
IsFault P left total faults.Spent = P open_ × (max_read ≤ total)
IsFault P left total faults.Mem = ⊤
IsFault P left total faults.Bad = P bad
IsFault P left total (faults.TooLong section limit) = P (too_long section limit)

-- more bytes are needed
abbrev pub IsOpen : Lack → Type 0
IsOpen lack = lack ≡ open_
