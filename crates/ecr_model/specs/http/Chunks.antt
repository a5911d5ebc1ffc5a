-- Chunked bodies (RFC 9112, section 7.1). Places and sizes are in bytes.
use Rattle.std.specs.Prelude.{◌≡◌, ℕ, zero, suc, ◌+◌, Bool, ◌&&◌, ◌==◌, nat_lt, nat_le, List, [], ◌∷◌, ◌++◌, length, take, drop, Option, Some, None, if◌then◌else◌}
use Rattle.std.specs.List.{position_or_len}
use Rattle.httparse.specs.Grammar.{ChunkLine, ReadsChunkLine, chunk_size}
use Rattle.ecr_model.specs.declared.http.Section.TheVariants as sections
use Rattle.ecr_model.specs.http.Fronts.{Lack, bad, too_long, open_, BodyFront, complete, lacks}
use Rattle.ecr_model.specs.http.Framing.{EndsAt}

-- of this registry: the greatest length of a chunk's line, with its line end
unfoldable pub max_chunk_line : ℕ
max_chunk_line = 1024

-- of this registry: the greatest length of a trailer section, with the empty line behind it
unfoldable pub max_trailers : ℕ
max_trailers = 65536

-- LF, with which a line ends
abbrev pub is_lf : ℕ → Bool
is_lf b = b == 10

-- how many bytes stand before the first LF
abbrev pub line_size : List ℕ → ℕ
line_size bytes = position_or_len is_lf bytes

-- the place of the first LF, if a chunk's line that ends there is within the limit
abbrev pub line_end : List ℕ → Option ℕ
line_end bytes =
    if nat_lt (line_size bytes) (length bytes) && nat_lt (line_size bytes) max_chunk_line then Some
    (line_size bytes) else None

-- the line is one of a chunk of that chunk-size, or of no chunk
abbrev pub Says : List ℕ → Option ℕ → Type 0
Says line None = (l : ChunkLine) → ReadsChunkLine line l [] → ⊥
Says line (Some size) = (l : ChunkLine) × ReadsChunkLine line l [] × (size ≡ chunk_size l)

-- the front of a chunked body's bytes
pub data Part : Type 0 where
  -- a chunk: its data, and how many bytes it takes, from its line through the CR LF behind the data
  chunk : List ℕ → ℕ → Part
  -- the last chunk and the trailer section, and how many bytes they take, through the empty line behind them
  last_chunk : ℕ → Part
  lacking : Lack → Part

-- the part, where that byte comes next
abbrev pub if_next : ℕ → Part → List ℕ → Part
if_next byte part [] = lacking open_
if_next byte part (b ∷ bytes) = if b == byte then part else lacking bad

-- the part, where CR LF comes next
abbrev pub if_crlf : Part → List ℕ → Part
if_crlf part bytes = if_next 13 (if_next 10 part (drop 1 bytes)) bytes

-- a chunk of that size behind a line of so many bytes
abbrev pub chunk_of : ℕ → List ℕ → ℕ → Part
chunk_of line bytes size = if_crlf (chunk (take size bytes) (line + size + 2)) (drop size bytes)

-- the part, where the data of the chunks before and of one of that size is within the limit
abbrev pub if_within : ℕ → ℕ → ℕ → Part → Part
if_within limit so_far size part = if nat_le (so_far + size) limit then part else lacking (too_long sections.Body limit)

-- the last chunk, whose line's LF stands at that place before the trailer section; that LF is the first of the bytes
abbrev pub last_of : ℕ → List ℕ → Option ℕ → Part
last_of n bytes None =
    lacking (if nat_le (length bytes) max_trailers then open_ else too_long sections.Trailers max_trailers)
last_of n bytes (Some end) = last_chunk (n + end)

-- that front, by a line with its LF at that place
abbrev pub IsSaid : ℕ → ℕ → List ℕ → ℕ → Option ℕ → Part → Type 0
IsSaid limit so_far bytes n None part = part ≡ lacking bad
IsSaid limit so_far bytes n (Some zero) part =
    (end : Option ℕ) × EndsAt (1 + max_trailers) (drop n bytes) end × (part ≡ last_of n (drop n bytes) end)
IsSaid limit so_far bytes n (Some (suc k)) part =
    part ≡ if_within limit so_far (suc k) (chunk_of (suc n) (drop (suc n) bytes) (suc k))

-- that front, by the place where the line ends
abbrev pub IsLined : ℕ → ℕ → List ℕ → Option ℕ → Option ℕ → Part → Type 0
IsLined limit so_far bytes None size part =
    part ≡ lacking (if nat_lt (length bytes) max_chunk_line then open_ else bad)
IsLined limit so_far bytes (Some n) size part = IsSaid limit so_far bytes n size part

-- the line that ends there says that
abbrev pub SaysAt : List ℕ → Option ℕ → Option ℕ → Type 0
SaysAt bytes None size = size ≡ None
SaysAt bytes (Some n) size = Says (take (suc n) bytes) size

-- the front of the bytes, within the limit of a body of which so much data came before
pub record IsPart (limit so_far : ℕ) (bytes : List ℕ) (part : Part) : Type 0 where
  pub size : Option ℕ
  pub says : SaysAt bytes (line_end bytes) size
  pub is : IsLined limit so_far bytes (line_end bytes) size part

-- how far a chunked body was read
pub record Progress : Type 0 where
  -- how many bytes were used
  pub at : ℕ
  -- the chunks' data, joined
  pub body : List ℕ
  -- the bytes that come
  pub ahead : List ℕ

-- the beginning of a chunked body
abbrev pub begun : List ℕ → Progress
begun bytes = record { at = 0; body = []; ahead = bytes }

-- the same with more bytes behind
abbrev pub with_more : Progress → List ℕ → Progress
with_more p others = record p { ahead = p.ahead ++ others }

-- past a chunk of that data, which takes so many bytes
abbrev pub past_chunk : Progress → List ℕ → ℕ → Progress
past_chunk p content n = record { at = p.at + n; body = p.body ++ content; ahead = drop n p.ahead }

-- the part of the body that comes next
abbrev pub Comes : ℕ → Progress → Part → Type 0
Comes limit p part = IsPart limit (length p.body) p.ahead part

-- chunks of these data stand between
abbrev pub Chunks : ℕ → Progress → List (List ℕ) → Progress → Type 0
Chunks limit p [] q = q ≡ p
Chunks limit p (c ∷ cs) q = (n : ℕ) × Comes limit p (chunk c n) × Chunks limit (past_chunk p c n) cs q

-- the whole body, by the bytes behind its chunks
abbrev pub front_of : Progress → Part → Option BodyFront
front_of p (chunk c n) = None
front_of p (last_chunk n) = Some (complete p.body (p.at + n))
front_of p (lacking lack) = Some (lacks lack)

-- the front of the bytes behind a head that says `chunked`, within the limit of a body
pub record IsChunked (limit : ℕ) (bytes : List ℕ) (front : BodyFront) : Type 0 where
  pub chunks : List (List ℕ)
  pub progress : Progress
  pub part : Part
  pub begins : Chunks limit (begun bytes) chunks progress
  pub comes : Comes limit progress part
  pub is : front_of progress part ≡ Some front
