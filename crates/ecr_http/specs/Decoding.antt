-- How far a chunked body was decoded, and what was found (RFC 9112, section 7.1). Places and sizes are in bytes.
use Rattle.std.specs.Prelude.{◌≡◌, ℕ, suc, ◌+◌, ◌*◌, ◌<◌, ◌≤◌, Bool, true, false, List, ◌++◌, length, take, drop, Option, Some, None, Result, Ok, Err, ⊤}
use Rattle.ecr_model.specs.declared.http.Framing.TheVariants.{Chunked}
use Rattle.ecr_model.specs.http.Framing.{HasNoEnd}
use Rattle.ecr_model.specs.http.Fronts.{bad, open_, complete, lacks}
use Rattle.ecr_model.specs.http.Chunks.{line_end, Says, Part, lacking, if_crlf, Progress, begun, Chunks, IsChunked}
use Rattle.ecr_http.specs.Takings.{left_to_read}
use Rattle.ecr_http.specs.Bodies.{IsGot, LacksBody}
use Rattle.ecr_http.specs.declared.intake.Intake.{Intake}
use Rattle.ecr_http.specs.declared.fault.Fault.{Fault}
use Rattle.ecr_http.specs.declared.fault.Fault.TheVariants as faults
use Rattle.ecr_http.specs.declared.chunks.Stage.{Stage}
use Rattle.ecr_http.specs.declared.chunks.Stage.TheVariants as stages

-- a part of a body by the bytes that stand where CR LF is due: CR LF, or less, or another byte
abbrev pub IsClosed : List ℕ → Result Bool Fault → Type 0
IsClosed bytes (Ok true) = (2 ≤ length bytes) × ((part : Part) → if_crlf part bytes ≡ part)
IsClosed bytes (Ok false) = (part : Part) → if_crlf part bytes ≡ lacking open_
IsClosed bytes (Err fault) = (fault ≡ faults.Bad) × ((part : Part) → if_crlf part bytes ≡ lacking bad)

-- a chunk's line comes next, with its LF at that place and that chunk-size
pub record HasLine (p : Progress) (place size : ℕ) : Type 0 where
  pub ends : line_end p.ahead ≡ Some place
  pub says : Says (take (suc place) p.ahead) (Some size)

-- a chunk's data is read: so many bytes of it are due, and those in the buffer come next
pub record IsInData (limit : ℕ) (p : Progress) (body buffer : List ℕ) (left : ℕ) : Type 0 where
  pub place : ℕ
  pub size : ℕ
  pub came : List ℕ
  pub line : HasLine p place size
  pub some : 0 < size
  pub within : length p.body + size ≤ limit
  pub body_is : body ≡ p.body ++ came
  pub behind : drop (suc place) p.ahead ≡ came ++ buffer
  pub due : length came + left ≡ size

-- the trailer section is read: the buffer begins with the LF of the last chunk's line, and in so many bytes ends no
-- empty line
pub record IsInTrailers (p : Progress) (body buffer : List ℕ) (scanned : ℕ) : Type 0 where
  pub place : ℕ
  pub line : HasLine p place 0
  pub body_is : body ≡ p.body
  pub buffered : buffer ≡ drop place p.ahead
  pub within : scanned ≤ length buffer
  pub known : HasNoEnd buffer scanned

-- the bytes that were read behind the chunks so far
abbrev pub StandsAt : ℕ → Progress → List ℕ → List ℕ → Stage → Type 0
StandsAt limit p body buffer stages.Line = (body ≡ p.body) × (buffer ≡ p.ahead)
StandsAt limit p body buffer (stages.Data left) = IsInData limit p body buffer left
StandsAt limit p body buffer (stages.Trailers scanned) = IsInTrailers p body buffer scanned

-- the data so far is the body, and the buffer has what comes next
pub record Decodes (limit : ℕ) (before : Option (List ℕ)) (old : Intake) (after : Option (List ℕ)) (now : Intake)
    (body : List ℕ) (stage : Stage) : Type 0 where
  pub come : IsGot before old after now
  pub chunks : List (List ℕ)
  pub progress : Progress
  pub begins : Chunks limit (begun (old.buffer ++ come.got)) chunks progress
  pub stands : StandsAt limit progress body now.buffer stage

-- the same, and more bytes are needed
pub record Awaits (limit : ℕ) (before : Option (List ℕ)) (old : Intake) (after : Option (List ℕ)) (now : Intake)
    (body : List ℕ) (stage : Stage) : Type 0 where
  pub decodes : Decodes limit before old after now body stage
  pub less : IsChunked limit (old.buffer ++ decodes.come.got) (lacks open_)

-- the whole of a chunked body stood at the front, and the buffer has what follows it
pub record Decoded (limit : ℕ) (before : Option (List ℕ)) (old : Intake) (after : Option (List ℕ)) (now : Intake)
    (body : List ℕ) : Type 0 where
  pub come : IsGot before old after now
  pub size : ℕ
  pub counted : size + length now.buffer ≡ length (old.buffer ++ come.got)
  pub whole : IsChunked limit (old.buffer ++ come.got) (complete body size)
  pub rest : now.buffer ≡ drop size (old.buffer ++ come.got)

-- the decoding goes on, or the body is whole, or there is a fault in its place
abbrev pub DecodesOn : ℕ → Option (List ℕ) → Intake → Option (List ℕ) → Intake → List ℕ → Result (Option Stage) Fault
    → Type 0
DecodesOn limit before old after now body (Ok (Some stage)) = Decodes limit before old after now body stage
DecodesOn limit before old after now body (Ok None) = Decoded limit before old after now body
DecodesOn limit before old after now body (Err fault) = LacksBody limit Chunked before old after now fault

-- the buffer at that stage
abbrev pub IsScanned : List ℕ → Stage → Type 0
IsScanned buffer stages.Line = ⊤
IsScanned buffer (stages.Data left) = ⊤
IsScanned buffer (stages.Trailers scanned) = (scanned ≤ length buffer) × HasNoEnd buffer scanned

-- one more before the trailer section, since the last chunk's line may leave the buffer as long as it was
abbrev pub rank : Stage → ℕ
rank stages.Line = 1
rank (stages.Data left) = 1
rank (stages.Trailers scanned) = 0

-- how much is left to do at most: each byte is read, and then used
unfoldable pub left_to_do : Stage → Intake → ℕ
left_to_do stage intake = 2 * left_to_read intake + length intake.buffer + rank stage

-- where it goes on, less is left to do
abbrev pub IsNearer : Result (Option Stage) Fault → Intake → ℕ → Type 0
IsNearer (Ok (Some stage)) now before = left_to_do stage now < before
IsNearer (Ok None) now before = ⊤
IsNearer (Err fault) now before = ⊤
