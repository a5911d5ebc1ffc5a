-- What one read does to what a reader keeps. Sizes are in bytes.
use Rattle.std.specs.Prelude.{◌≡◌, ℕ, ◌+◌, ◌-◌, ◌<◌, ◌≤◌, List, ◌++◌, length, Option, Result, Ok, Err, ⊤}
use Rattle.std.specs.Io.KnownBytes.{Consumes, Keeps}
use Rattle.ecr_model.specs.sessions.Sessions.{max_read}
use Rattle.ecr_http.specs.declared.intake.Intake.{Intake}
use Rattle.ecr_http.specs.Faults.{IsFault, IsOpen}
use Rattle.ecr_http.specs.declared.fault.Fault.{Fault}

-- with bytes that were read
abbrev pub lengthened : Intake → List ℕ → Intake
lengthened intake piece = record intake { buffer = intake.buffer ++ piece; total = intake.total + length piece }

-- some bytes came
pub record Gains (before : Option (List ℕ)) (old : Intake) (after : Option (List ℕ)) (now : Intake) : Type 0 where
  pub piece : List ℕ
  pub consumed : Consumes before after piece
  pub some : 0 < length piece
  pub within : old.total + length piece ≤ max_read
  pub now_is : now ≡ lengthened old piece

-- some bytes came, or all is as before
abbrev pub ReadsOnce : Option (List ℕ) → Intake → Option (List ℕ) → Intake → Result ⊤ Fault → Type 0
ReadsOnce before old after now (Ok done) = Gains before old after now
ReadsOnce before old after now (Err fault) =
    (now ≡ old) × Keeps before after × IsFault IsOpen after old.total fault

-- how many bytes may still be read
unfoldable pub left_to_read : Intake → ℕ
left_to_read intake = max_read - intake.total
