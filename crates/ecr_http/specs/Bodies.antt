-- How far a body was read, and what was found. Sizes are in bytes.
use Rattle.std.specs.Prelude.{◌≡◌, ℕ, ◌+◌, ◌≤◌, List, ◌++◌, length, drop, Option, Result, Ok, Err, ⊤}
use Rattle.std.specs.Io.KnownBytes.{Consumes}
use Rattle.ecr_model.specs.declared.http.Framing.{Framing}
use Rattle.ecr_model.specs.declared.http.Framing.TheVariants.{Sized, Chunked}
use Rattle.ecr_model.specs.sessions.Sessions.{max_read}
use Rattle.ecr_model.specs.http.Stream.{complete, lacks, IsBody}
use Rattle.ecr_http.specs.Faults.{IsFault}
use Rattle.ecr_http.specs.declared.intake.Intake.{Intake}
use Rattle.ecr_http.specs.declared.fault.Fault.{Fault}
use Rattle.ecr_http.specs.declared.body.Taken.{Taken}

-- the bytes that came of the source while a body was read stand behind those that were there
pub record IsGot (before : Option (List ℕ)) (old : Intake) (after : Option (List ℕ)) (now : Intake) : Type 0 where
  pub got : List ℕ
  pub consumed : Consumes before after got
  pub counted : now.total ≡ old.total + length got
  pub spent : now.total ≤ max_read
  pub kept : now ≡ record old { buffer = now.buffer; total = now.total }

-- the body is within the limit, where its size is stated
abbrev pub FitsLimit : Framing → ℕ → Type 0
FitsLimit (Sized size) limit = size ≤ limit
FitsLimit Chunked limit = ⊤

-- the bytes of a body of that size are the first so far, and the others wait
pub record Gathers (size : ℕ) (before : Option (List ℕ)) (old : Intake) (after : Option (List ℕ)) (now : Intake)
    (body : List ℕ) : Type 0 where
  pub come : IsGot before old after now
  pub joined : body ++ now.buffer ≡ old.buffer ++ come.got
  pub at_most : length body ≤ size

-- the bytes that came while a body was read, and the fault in its place
pub record LacksBody (limit : ℕ) (framing : Framing) (before : Option (List ℕ)) (old : Intake)
    (after : Option (List ℕ)) (now : Intake) (fault : Fault) : Type 0 where
  pub come : IsGot before old after now
  pub cause : IsFault (λ lack. IsBody limit (old.buffer ++ come.got) framing (lacks lack)) after now.total fault

-- the bytes that came while a body was read, and the body at their front
pub record HasBody (limit : ℕ) (framing : Framing) (before : Option (List ℕ)) (old : Intake)
    (after : Option (List ℕ)) (now : Intake) (taken : Taken) : Type 0 where
  pub come : IsGot before old after now
  pub stands : IsBody limit (old.buffer ++ come.got) framing (complete taken.body.items taken.size)
  pub rest : now.buffer ≡ drop taken.size (old.buffer ++ come.got)

-- a body was read, or there is a fault in its place
abbrev pub Bodies : ℕ → Framing → Option (List ℕ) → Intake → Option (List ℕ) → Intake → Result Taken Fault → Type 0
Bodies limit framing before old after now (Ok taken) = HasBody limit framing before old after now taken
Bodies limit framing before old after now (Err fault) = LacksBody limit framing before old after now fault
