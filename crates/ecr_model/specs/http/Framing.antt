-- Where a request's head ends, how its body is delimited, and what it says of the session (RFC 9112, sections 2.2, 6.3
-- and 9.6; RFC 9110, section 10.1.1). Lengths are in bytes.
use Rattle.std.specs.Prelude.{◌≡◌, ℕ, ◌-◌, ◌<◌, ◌≤◌, Bool, false, not, ◌&&◌, ◌||◌, ◌==◌, nat_lt, nat_le, min, List, [], length, take, slice_index, Option, Some, None, option_map, codes, if◌then◌else◌, bytes_eq}
use Rattle.std.specs.List.{list_all, before_first}
use Rattle.std.specs.Option.{option_map_or}
use Rattle.std.specs.Char.{is_ascii_digit}
use Rattle.std.specs.Str.Parse.{digits_value}
use Rattle.httparse.specs.Grammar.{RequestHead, ReadsRequest}
use Rattle.ecr_model.specs.http.FieldLines.{Field}
use Rattle.ecr_model.specs.declared.http.Head.{Head}
use Rattle.ecr_model.specs.declared.http.Framing.{Framing}
use Rattle.ecr_model.specs.declared.http.Framing.TheVariants.{Sized, Chunked}
use Rattle.ecr_model.specs.http.Fields.{head_of, count_of, first_value, each_is, first_says, has_close}

-- of this registry: the greatest length of a head
unfoldable pub max_head : ℕ
max_head = 65536

-- the first n bytes end with an empty line: LF and then LF or CR LF
unfoldable pub ends_empty : List ℕ → ℕ → Bool
ends_empty bytes n =
    nat_lt 1 n && slice_index bytes (n - 1) == 10
    && (slice_index bytes (n - 2) == 10 ||
    (nat_lt 2 n && slice_index bytes (n - 2) == 13 && slice_index bytes (n - 3) == 10))

-- so many bytes reach through the first empty line, and are no more than the limit
pub record IsEnd (limit : ℕ) (bytes : List ℕ) (n : ℕ) : Type 0 where
  pub within : n ≤ length bytes
  pub not_long : n ≤ limit
  pub ends : ends_empty bytes n ≡ Bool.true
  pub first : (k : ℕ) → k < n → ends_empty bytes k ≡ false

-- no empty line ends in the first n bytes
abbrev pub HasNoEnd : List ℕ → ℕ → Type 0
HasNoEnd bytes n = (k : ℕ) → k ≤ n → ends_empty bytes k ≡ false

-- how many bytes reach through the first empty line, if it is there within the limit
abbrev pub EndsAt : ℕ → List ℕ → Option ℕ → Type 0
EndsAt limit bytes None = HasNoEnd bytes (min (length bytes) limit)
EndsAt limit bytes (Some n) = IsEnd limit bytes n

-- the bytes are that head, or no head
abbrev pub Parses : List ℕ → Option Head → Type 0
Parses bytes None = (grammar : RequestHead) → ReadsRequest bytes grammar [] → ⊥
Parses bytes (Some head) = (grammar : RequestHead) × ReadsRequest bytes grammar [] × (head ≡ head_of grammar)

-- the path of a target: what stands before the first `?`
abbrev pub path_of : List ℕ → List ℕ
path_of target = before_first (λ b. b == 63) target

-- of this registry: the greatest length of a body, which goes by the path
unfoldable pub max_body : List ℕ → ℕ
max_body target = if bytes_eq (take 4 (path_of target)) (codes "/v2/") then 536870912 else 33554432

-- 1 to 18 digits
abbrev pub is_length : List ℕ → Bool
is_length text = nat_lt 0 (length text) && nat_le (length text) 18 && list_all is_ascii_digit text

-- the body's length by Content-Length, which may be repeated unchanged; 0 without it
abbrev pub stated_by : List Field → Option (List ℕ) → Option ℕ
stated_by fields None = Some 0
stated_by fields (Some text) =
    if each_is (codes "content-length") text fields && is_length text then Some (digits_value 10 text) else None

-- a request of HTTP/1.1 has exactly one Host (RFC 9112, section 3.2)
abbrev pub has_its_host : Head → Bool
has_its_host head = not (head.minor == 1) || count_of (codes "host") head.fields == 1

-- there is one transfer coding, `chunked`, letter case aside, and no stated length (RFC 9112, section 6.1)
abbrev pub is_chunked : List Field → Bool
is_chunked fields =
    count_of (codes "transfer-encoding") fields == 1
    && first_says (codes "transfer-encoding") (codes "chunked") fields
    && count_of (codes "content-length") fields == 0

-- how the body is delimited, by Transfer-Encoding where it stands, else by Content-Length
abbrev pub delimited_by : List Field → Option Framing
delimited_by fields = if count_of (codes "transfer-encoding") fields == 0
    then option_map Sized (stated_by fields (first_value (codes "content-length") fields))
    else (if is_chunked fields then Some Chunked else None)

-- the same, where the head says it well
unfoldable pub framing_of : Head → Option Framing
framing_of head = if has_its_host head then delimited_by head.fields else None

-- there is a body, and none that is stated to pass the limit
abbrev pub is_sent : ℕ → Framing → Bool
is_sent limit (Sized size) = nat_lt 0 size && nat_le size limit
is_sent limit Chunked = Bool.true

-- the client waits for a 100 before it sends the body
unfoldable pub waits : Head → Bool
waits head =
    head.minor == 1 && first_says (codes "expect") (codes "100-continue") head.fields
    && option_map_or (is_sent (max_body head.target)) (framing_of head) false

-- the session closes after the reply to a request of HTTP/1.0, and to one that says `close`
unfoldable pub says_close : Head → Bool
says_close head = head.minor == 0 || option_map_or has_close (first_value (codes "connection") head.fields) false
