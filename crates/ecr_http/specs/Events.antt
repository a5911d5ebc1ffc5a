-- What is given at the front of the bytes that come. Places and sizes are in bytes.
use Rattle.std.specs.Prelude.{◌≡◌, ℕ, ◌+◌, ◌≤◌, ◌==◌, Bool, true, false, if◌then◌else◌, List, ◌++◌, length, take, drop, Option, Some, Result, Ok, Err}
use Rattle.std.specs.Io.KnownBytes.{Consumes}
use Rattle.ecr_model.specs.declared.http.Head.{Head}
use Rattle.ecr_model.specs.declared.http.Framing.{Framing}
use Rattle.ecr_model.specs.declared.http.Request.{Request}
use Rattle.ecr_model.specs.http.Framing.{max_head, max_body, IsEnd, Parses, framing_of}
use Rattle.ecr_model.specs.sessions.Sessions.{max_read, is_waiting}
use Rattle.ecr_model.specs.http.Stream.{Point, whole, IsFront, closes}
use Rattle.ecr_http.specs.NextHeads.{IsReady, LacksRequest}
use Rattle.ecr_http.specs.Reading.{Nexts}
use Rattle.ecr_http.specs.declared.intake.Intake.{Intake}
use Rattle.ecr_http.specs.declared.fault.Fault.{Fault}
use Rattle.ecr_http.specs.declared.fault.Fault.TheVariants as faults
use Rattle.ecr_http.specs.declared.events.Event.{Event}
use Rattle.ecr_http.specs.declared.events.Event.TheVariants as events

-- the reader isn't used again after that event
abbrev pub closes_after : Event → Bool
closes_after (events.Request request) = closes request
closes_after events.End = true
closes_after (events.Truncated at) = true
closes_after (events.Bad at) = true
closes_after (events.TooLong at section limit) = true
closes_after events.ReadFault = true
closes_after events.WriteFault = true
closes_after events.Spent = true
closes_after events.Mem = true

-- where a reader stands
abbrev pub point_of : Intake → Bool → Point
point_of intake closed = record { at = intake.at; ahead = intake.buffer; closed = closed }

-- the event for a request, or for the fault in its place
abbrev pub event_of : Intake → Result Request Fault → Event
event_of now (Ok request) = events.Request request
event_of now (Err faults.Ended) = if now.at == now.total then events.End else events.Truncated now.at
event_of now (Err faults.ReadFault) = events.ReadFault
event_of now (Err faults.WriteFault) = events.WriteFault
event_of now (Err faults.Spent) = events.Spent
event_of now (Err faults.Mem) = events.Mem
event_of now (Err faults.Bad) = events.Bad now.at
event_of now (Err (faults.TooLong section limit)) = events.TooLong now.at section limit

-- the request that stands at the front was used, or there is a fault in its place; the flag says whether a 100 was due
abbrev pub Fronts : ℕ → List ℕ → Intake → Option (List ℕ) → Bool → Result Request Fault → Type 0
Fronts at bytes now left due (Ok request) =
    (count : ℕ) × IsFront at bytes (whole request count) × (now.at ≡ at + count) × (now.buffer ≡ drop count bytes)
    × IsReady now
    × (is_waiting request ≡ due)
Fronts at bytes now left due (Err fault) = LacksRequest at bytes due left now.total fault × (now.at ≡ at)

-- the head that stands there says that its body is delimited like that
pub record HasHead (bytes : List ℕ) (count : ℕ) (head : Head) (framing : Framing) (limit : ℕ) : Type 0 where
  pub ends : IsEnd max_head bytes count
  pub parses : Parses (take count bytes) (Some head)
  pub framed : framing_of head ≡ Some framing
  pub limit_is : limit ≡ max_body head.target

-- the bytes that came of the source behind a head, and the request that they complete, or the fault in its place
pub record Behind (before : Option (List ℕ)) (old : Intake) (after : Option (List ℕ)) (now : Intake) (due : Bool)
    (result : Result Request Fault) : Type 0 where
  pub got : List ℕ
  pub consumed : Consumes before after got
  pub counted : now.total ≡ old.total + length got
  pub spent : now.total ≤ max_read
  pub fronts : Fronts old.at (old.buffer ++ got) now after due result

-- what a call of a reader takes, tells and gives, by the request that comes next or the fault in its place
abbrev pub TakesRequest : Option (List ℕ) → Option (List ℕ) → Intake → Option (List ℕ) → Option (List ℕ) → Intake
    → Result Request Fault → Type 0
TakesRequest before held old after told now result =
    Nexts before held (point_of old false) after told (point_of now (closes_after (event_of now result)))
    (event_of now result)
