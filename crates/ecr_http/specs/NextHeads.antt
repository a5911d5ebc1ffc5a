-- How far a head was read, and what was found. Places and sizes are in bytes.
use Rattle.std.specs.Prelude.{◌≡◌, ℕ, ◌+◌, ◌≤◌, Bool, false, List, ◌++◌, length, drop, Option, Result, Ok, Err, ⊤}
use Rattle.std.specs.Io.KnownBytes.{Consumes}
use Rattle.ecr_model.specs.http.Framing.{max_head, IsEnd, HasNoEnd}
use Rattle.ecr_model.specs.sessions.Sessions.{max_read}
use Rattle.ecr_model.specs.http.Stream.{blank_length, short, IsFront}
use Rattle.ecr_http.specs.Faults.{IsFault}
use Rattle.ecr_http.specs.declared.intake.Intake.{Intake}
use Rattle.ecr_http.specs.declared.fault.Fault.{Fault}

-- the invariant between two requests
pub record IsReady (intake : Intake) : Type 0 where
  pub placed : intake.at + length intake.buffer ≡ intake.total
  pub spent : intake.total ≤ max_read
  pub within : intake.scanned ≤ length intake.buffer
  pub known : HasNoEnd intake.buffer intake.scanned

-- how far the reading has come: what was got of the source, and how many blank bytes were passed
pub record IsRead (before : Option (List ℕ)) (old : Intake) (after : Option (List ℕ)) (now : Intake) : Type 0 where
  pub got : List ℕ
  pub skipped : ℕ
  pub consumed : Consumes before after got
  pub blank : skipped ≤ blank_length (old.buffer ++ got)
  pub buffered : now.buffer ≡ drop skipped (old.buffer ++ got)
  pub placed : now.at ≡ old.at + skipped
  pub ready : IsReady now

-- the cause of a fault in the place of a request at the front of the bytes; the flag says whether a 100 is due
abbrev pub LacksRequest : ℕ → List ℕ → Bool → Option (List ℕ) → ℕ → Fault → Type 0
LacksRequest at bytes due left total fault = IsFault (λ lack. IsFront at bytes (short due lack)) left total fault

-- a head of so many bytes stands at the front of what comes, or there is a fault in its place
abbrev pub IsLead : Intake → Option (List ℕ) → Result ℕ Fault → Type 0
IsLead now left (Ok count) = IsEnd max_head now.buffer count
IsLead now left (Err fault) = LacksRequest now.at now.buffer false left now.total fault

-- the blank bytes were passed, and the end of the head was found, or there is a fault in its place
pub record FindsHead (before : Option (List ℕ)) (old : Intake) (after : Option (List ℕ)) (now : Intake)
    (lead : Result ℕ Fault) : Type 0 where
  pub read : IsRead before old after now
  pub none : blank_length now.buffer ≡ 0
  pub stands : IsLead now after lead

-- the reading goes on, or there is a fault in place of the head
abbrev pub LooksOn : Option (List ℕ) → Intake → Option (List ℕ) → Intake → Result ⊤ Fault → Type 0
LooksOn before old after now (Ok done) = IsRead before old after now
LooksOn before old after now (Err fault) = FindsHead before old after now (Err fault)

-- without the first bytes, so many
abbrev pub past_front : ℕ → Intake → Intake
past_front count intake =
    record intake { buffer = drop count intake.buffer; at = intake.at + count; scanned = 0 }
