-- The requests in a stream of bytes (RFC 9112, sections 2.2, 9.3 and 9.6). Places count the bytes before them.
use Rattle.std.specs.Prelude.{◌≡◌, ℕ, ◌+◌, Bool, true, false, ◌||◌, ◌==◌, nat_lt, nat_le, List, [], ◌∷◌, ◌++◌, length, take, drop, Option, Some, None, if◌then◌else◌}
use Rattle.std.specs.List.{prefix_len}
use Rattle.ecr_model.specs.declared.http.Head.{Head}
use Rattle.ecr_model.specs.declared.http.Framing.{Framing}
use Rattle.ecr_model.specs.declared.http.Framing.TheVariants.{Sized, Chunked}
use Rattle.ecr_model.specs.declared.http.Request.{Request}
use Rattle.ecr_model.specs.declared.http.Section.{Section}
use Rattle.ecr_model.specs.declared.http.Section.TheVariants as sections
pub use Rattle.ecr_model.specs.http.Fronts.{Lack, bad, too_long, open_, BodyFront, complete, lacks}
use Rattle.ecr_model.specs.http.Chunks.{IsChunked}
use Rattle.ecr_model.specs.http.Framing.{max_head, IsEnd, EndsAt, Parses, max_body, framing_of, waits, says_close}

-- CR and LF, which may stand before a request
abbrev pub is_blank : ℕ → Bool
is_blank b = b == 13 || b == 10

-- how many blank bytes stand at the front
abbrev pub blank_length : List ℕ → ℕ
blank_length bytes = prefix_len is_blank bytes

-- the front of the bytes
pub data Front : Type 0 where
  -- a request, and how long it is
  whole : Request → ℕ → Front
  -- less, and whether a 100 is due before that shows
  short : Bool → Lack → Front

-- a request by its head and its body
abbrev pub request_of : ℕ → Head → List ℕ → Request
request_of at head body = record {
  at = at;
  method = head.method;
  target = head.target;
  fields = head.fields;
  body = body;
  minor = head.minor;
}

-- the head of a request
abbrev pub head_part : Request → Head
head_part r = record { method = r.method; target = r.target; minor = r.minor; fields = r.fields }

-- a body of that length, within the limit
abbrev pub sized_front : ℕ → List ℕ → ℕ → BodyFront
sized_front limit bytes size = if nat_le size limit
    then (if nat_le size (length bytes) then complete (take size bytes) size else lacks open_) else lacks
    (too_long sections.Body limit)

-- the front of the bytes behind a head, within the limit of a body
abbrev pub IsBody : ℕ → List ℕ → Framing → BodyFront → Type 0
IsBody limit bytes (Sized size) body = body ≡ sized_front limit bytes size
IsBody limit bytes Chunked body = IsChunked limit bytes body

-- a head of n bytes, and what stands behind it
abbrev pub with_body : ℕ → ℕ → Head → BodyFront → Front
with_body at n head (complete body size) = whole (request_of at head body) (n + size)
with_body at n head (lacks lack) = short (waits head) lack

-- that front, by how the head says that its body is delimited
abbrev pub IsFramed : ℕ → List ℕ → ℕ → Head → Option Framing → Front → Type 0
IsFramed at bytes n head None front = front ≡ short false bad
IsFramed at bytes n head (Some framing) front =
    (body : BodyFront) × IsBody (max_body head.target) (drop n bytes) framing body × (front ≡ with_body at n head body)

-- that front, by the place where the head ends
abbrev pub IsHeaded : ℕ → List ℕ → Option ℕ → Option Head → Front → Type 0
IsHeaded at bytes None head front =
    front ≡ short false (if nat_lt (length bytes) max_head then open_ else too_long sections.Head max_head)
IsHeaded at bytes (Some n) None front = front ≡ short false bad
IsHeaded at bytes (Some n) (Some head) front = IsFramed at bytes n head (framing_of head) front

-- the head that ends there says that
abbrev pub ParsesTo : List ℕ → Option ℕ → Option Head → Type 0
ParsesTo bytes None head = head ≡ None
ParsesTo bytes (Some n) head = Parses (take n bytes) head

-- the front of bytes that don't begin with a blank one
pub record IsFront (at : ℕ) (bytes : List ℕ) (front : Front) : Type 0 where
  pub end : Option ℕ
  pub head : Option Head
  pub ends : EndsAt max_head bytes end
  pub parses : ParsesTo bytes end head
  pub is : IsHeaded at bytes end head front

-- how far a stream was read
pub record Point : Type 0 where
  -- how many bytes were used
  pub at : ℕ
  -- the bytes that come
  pub ahead : List ℕ
  -- whether the last request closes the session, so that nothing behind it counts
  pub closed : Bool

-- the beginning of a stream
abbrev pub start : List ℕ → Point
start bytes = record { at = 0; ahead = bytes; closed = false }

-- the point with more bytes behind it
abbrev pub grown : Point → List ℕ → Point
grown p others = record p { ahead = p.ahead ++ others }

-- the point past the blank bytes
abbrev pub past_blank : Point → Point
past_blank p =
    record p { at = p.at + blank_length p.ahead; ahead = drop (blank_length p.ahead) p.ahead }

-- the part of the stream that comes next, past the blank bytes
abbrev pub Meets : Point → Front → Type 0
Meets p front = IsFront (past_blank p).at (past_blank p).ahead front

-- a head comes next whose client waits for a 100
pub record AwaitsBody (p : Point) : Type 0 where
  pub end : ℕ
  pub head : Head
  pub ends : IsEnd max_head (past_blank p).ahead end
  pub parses : Parses (take end (past_blank p).ahead) (Some head)
  pub waiting : waits head ≡ true

-- the request closes the session
abbrev pub closes : Request → Bool
closes r = says_close (head_part r)

-- the point past a request of so many bytes
abbrev pub past_request : Point → Request → ℕ → Point
past_request p r n = record { at = (past_blank p).at + n; ahead = drop n (past_blank p).ahead; closed = closes r }

-- these requests stand between the points, and each of them but the last leaves the session open
abbrev pub Begins : Point → List Request → Point → Type 0
Begins p [] q = q ≡ p
Begins p (r ∷ rs) q = (p.closed ≡ false) × (n : ℕ) × Meets p (whole r n) × Begins (past_request p r n) rs q

-- how a stream goes on after its requests
pub data Ending : Type 0 where
  -- it ended between two requests
  ended : Ending
  -- its last request closes the session
  closed : Ending
  -- it ended inside a request, which begins at that place
  truncated : ℕ → Ending
  -- no request stands at that place
  bad_at : ℕ → Ending
  -- at that place stands a request of which the section has more bytes than that limit allows
  long_at : ℕ → Section → ℕ → Ending
  -- it goes on
  more : Ending

-- how a stream goes on, and whether a 100 is due before
pub record Tail : Type 0 where
  pub due : Bool
  pub ending : Ending

-- how it goes on where no whole request stands; whether the input has ended
abbrev pub ending_of : Bool → Point → Lack → Ending
ending_of over p bad = bad_at p.at
ending_of over p (too_long section limit) = long_at p.at section limit
ending_of over p open_ = if over then (if length p.ahead == 0 then ended else truncated p.at) else more

-- the same by what stands there
abbrev pub tail_of : Bool → Point → Front → Option Tail
tail_of over p (whole r n) = None
tail_of over p (short due lack) = Some (record { due = due; ending = ending_of over p lack })

-- no whole request comes next, and the stream goes on like that
pub record Lacks (over : Bool) (p : Point) (tail : Tail) : Type 0 where
  pub front : Front
  pub meets : Meets p front
  pub is : tail_of over (past_blank p) front ≡ Some tail

-- no request counts from here on
abbrev pub StopsBy : Bool → Bool → Point → Tail → Type 0
StopsBy true over p tail = tail ≡ record { due = false; ending = closed }
StopsBy false over p tail = Lacks over p tail

-- no request counts from here on, and the stream goes on like that
abbrev pub Stops : Bool → Point → Tail → Type 0
Stops over p tail = StopsBy p.closed over p tail

-- the requests in the bytes, and how the bytes go on after them
pub record Reads (bytes : List ℕ) (over : Bool) (requests : List Request) (tail : Tail) : Type 0 where
  pub point : Point
  pub begins : Begins (start bytes) requests point
  pub stops : Stops over point tail
