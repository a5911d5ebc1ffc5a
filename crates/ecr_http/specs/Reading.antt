-- What one call of a reader takes from the source, tells the client and gives. A reader is seen as a point of the
-- stream of all bytes of its source; where it is closed, it isn't used again.
use Rattle.std.specs.Prelude.{◌≡◌, ℕ, ◌+◌, ◌<◌, ◌≤◌, ◌⊎◌, Bool, true, false, List, [], length, Option, ⊤}
use Rattle.std.specs.Io.KnownBytes.{Consumes, Appends, IsAtEnd}
use Rattle.ecr_model.specs.http.Replies.{continue_reply, interim}
use Rattle.ecr_model.specs.sessions.Sessions.{max_read, is_waiting}
use Rattle.ecr_model.specs.http.Stream.{Point, grown, Meets, AwaitsBody, past_request, whole, Lacks, Ending, ended, truncated, bad_at, long_at, more}
use Rattle.ecr_http.specs.Sends.{Sends}
use Rattle.ecr_http.specs.declared.events.Event.{Event}
use Rattle.ecr_http.specs.declared.events.Event.TheVariants as events
use Rattle.ecr_http.specs.declared.write.Sent.TheVariants.{WriteFault}

-- no whole request comes, and the stream goes on like that; the client was told to go on where it waited
abbrev pub EndsAs : Bool → Point → Option (List ℕ) → Option (List ℕ) → Ending → Type 0
EndsAs over p held now ending = (due : Bool) × Lacks over p (record { due = due; ending = ending })
    × Appends held now (interim due)

-- nothing was told to the client, or to go on, since it waited
abbrev pub MayTell : Point → List ℕ → Type 0
MayTell p further = (further ≡ []) ⊎ (AwaitsBody p × (further ≡ continue_reply))

-- the event that is given where these bytes come, with the reader at that point afterwards
abbrev pub GivesEvent : Point → Point → Option (List ℕ) → Option (List ℕ) → Option (List ℕ) → Event → Type 0
GivesEvent p q left held now (events.Request request) =
    (n : ℕ) × Meets p (whole request n) × (q ≡ past_request p request n)
    × Appends held now (interim (is_waiting request))
GivesEvent p q left held now events.End = EndsAs true p held now ended × IsAtEnd left
GivesEvent p q left held now (events.Truncated at) = EndsAs true p held now (truncated at) × IsAtEnd left
GivesEvent p q left held now (events.Bad at) = EndsAs false p held now (bad_at at)
GivesEvent p q left held now (events.TooLong at section limit) = EndsAs false p held now (long_at at section limit)
GivesEvent p q left held now events.ReadFault = EndsAs false p held now more
GivesEvent p q left held now events.WriteFault = AwaitsBody p × Sends held now continue_reply WriteFault
GivesEvent p q left held now events.Spent = EndsAs false p held now more × (p.at + length p.ahead ≡ max_read)
GivesEvent p q left held now events.Mem = (further : List ℕ) × MayTell p further × Appends held now further

-- how many bytes were read up to that point: those that were used, and those that come
abbrev pub bytes_read : Point → ℕ
bytes_read p = p.at + length p.ahead

-- where the last read gave no bytes, it was made with fewer bytes read than may be
abbrev pub HasReadsLeft : ℕ → Event → Type 0
HasReadsLeft size (events.Request request) = ⊤
HasReadsLeft size events.End = size < max_read
HasReadsLeft size (events.Truncated at) = size < max_read
HasReadsLeft size (events.Bad at) = ⊤
HasReadsLeft size (events.TooLong at section limit) = ⊤
HasReadsLeft size events.ReadFault = size < max_read
HasReadsLeft size events.WriteFault = ⊤
HasReadsLeft size events.Spent = ⊤
HasReadsLeft size events.Mem = ⊤

-- the effect of a reader's call: `got` was taken from the source
pub record Nexts (before held : Option (List ℕ)) (p : Point) (after now : Option (List ℕ)) (q : Point)
    (event : Event) : Type 0 where
  pub got : List ℕ
  pub consumed : Consumes before after got
  pub gives : GivesEvent (grown p got) q after held now event
  pub within : bytes_read (grown p got) ≤ max_read
  pub unspent : HasReadsLeft (bytes_read (grown p got)) event
