-- The heads of requests at examples (RFC 9112, sections 2.2, 3.2, 5, 6 and 9.6; RFC 9110, sections 5.1, 5.6.1 and
-- 10.1.1).
use Rattle.std.specs.Prelude.{◌≡◌, ℕ, Bool, true, false, List, [], ◌∷◌, ◌++◌, map, None, Some, codes}
use Rattle.httparse.specs.Grammar as grammar
use Rattle.ecr_model.specs.declared.http.Framing.TheVariants.{Sized, Chunked}
use Rattle.ecr_model.specs.declared.http.Head.{Head}
use Rattle.ecr_model.specs.http.FieldLines.{Field, field_at}
use Rattle.ecr_model.specs.http.Fields.{field_of, head_of, has_name, count_of, first_value, each_is, first_says, is_comma, begins_close, has_later_close, has_close}
use Rattle.ecr_model.specs.http.Framing.{ends_empty, path_of, is_length, stated_by, has_its_host, is_chunked, delimited_by, framing_of, is_sent, waits, says_close}
use Rattle.ecr_model.specs.names.Texts.{crlf}

abbrev field : List ℕ → List ℕ → Field
field name value = record { name = name; value = value }

-- a line of a head as it came
abbrev line : List ℕ → List ℕ → grammar.Field
line name raw = record { name = name; raw = raw; end = grammar.crlf }

-- the head of a POST of `/` with the one Host and these fields behind it
abbrev pub head : ℕ → List Field → Head
head minor fields =
    record {
      method = codes "POST";
      target = codes "/";
      minor = minor;
      fields = field (codes "Host") (codes "localhost") ∷ fields;
    }

-- fields of that name with these values
abbrev pub fields_of : List ℕ → List (List ℕ) → List Field
fields_of name values = map (field name) values

-- a field's name keeps its case, and is compared without it; space and tab around a value are no part of it
pub record FieldsAreFound : Type 0 where
  pub line_is : field_of (line (codes "Accept") (9 ∷ 32 ∷ codes "a b" ++ 9 ∷ [])) ≡ field (codes "Accept") (codes "a b")
  pub place : field_at (codes "Host: a")
      (record { name = record { start = 0; end = 4 }; value = record { start = 6; end = 7 } })
      ≡ field (codes "Host") (codes "a")
  pub kept : head_of (record {
    blank = [];
    method = codes "POST";
    target = codes "/";
    minor = 1;
    line_end = grammar.crlf;
    fields = line (codes "Host") (codes " localhost") ∷ [];
    last = grammar.crlf;
  }) ≡ head 1 []
  pub same : has_name (codes "host") (field (codes "HOST") []) ≡ true
  pub other : has_name (codes "host") (field (codes "Hosts") []) ≡ false
  pub two : count_of (codes "host") (head 1 (fields_of (codes "host") (codes "b" ∷ []))).fields ≡ 2
  pub first : first_value (codes "a") (fields_of (codes "A") (codes "1" ∷ codes "2" ∷ [])) ≡ Some (codes "1")
  pub absent : first_value (codes "a") (fields_of (codes "b") (codes "1" ∷ [])) ≡ None
  pub each : each_is (codes "a") (codes "1") (fields_of (codes "A") (codes "1" ∷ codes "1" ∷ [])) ≡ true
  pub differ : each_is (codes "a") (codes "1") (fields_of (codes "A") (codes "1" ∷ codes "2" ∷ [])) ≡ false
  pub says : first_says (codes "a") (codes "yes") (fields_of (codes "A") (codes "YES" ∷ codes "no" ∷ [])) ≡ true
  pub says_first : first_says (codes "a") (codes "yes") (fields_of (codes "A") (codes "no" ∷ codes "yes" ∷ [])) ≡ false
  pub says_nothing : first_says (codes "a") (codes "yes") [] ≡ false

-- an empty line is LF and then LF or CR LF
pub record HeadsEnd : Type 0 where
  pub two : ends_empty (codes "a" ++ crlf ++ crlf) 5 ≡ true
  pub bare : ends_empty (97 ∷ 10 ∷ 10 ∷ []) 3 ≡ true
  pub mixed : ends_empty (97 ∷ 10 ∷ 13 ∷ 10 ∷ []) 4 ≡ true
  pub earlier : ends_empty (codes "a" ++ crlf ++ crlf) 4 ≡ false
  pub one : ends_empty (codes "a" ++ crlf) 3 ≡ false
  pub returns : ends_empty (13 ∷ 13 ∷ 13 ∷ 10 ∷ []) 4 ≡ false
  pub alone : ends_empty (10 ∷ []) 1 ≡ false
  pub path : path_of (codes "/a/b?c=d?e") ≡ codes "/a/b"
  pub whole : path_of (codes "/a/b") ≡ codes "/a/b"

abbrev length_of : List (List ℕ) → List Field
length_of values = fields_of (codes "Content-Length") values

abbrev coding_of : List (List ℕ) → List Field
coding_of values = fields_of (codes "Transfer-Encoding") values

-- a body is delimited by one Transfer-Encoding that is `chunked`, or else by equal lengths of up to 18 digits
pub record BodiesAreDelimited : Type 0 where
  pub digits : is_length (codes "000000000000000010") ≡ true
  pub long : is_length (codes "0000000000000000010") ≡ false
  pub no_digits : is_length [] ≡ false
  pub signed : is_length (codes "+1") ≡ false
  pub stated : stated_by (length_of (codes "012" ∷ codes "012" ∷ [])) (Some (codes "012")) ≡ Some 12
  pub unlike : stated_by (length_of (codes "12" ∷ codes "012" ∷ [])) (Some (codes "12")) ≡ None
  pub unstated : stated_by [] None ≡ Some 0
  pub most : delimited_by (length_of (codes "999999999999999999" ∷ [])) ≡ Some (Sized 999999999999999999)
  pub equal : delimited_by (length_of (codes "7" ∷ codes "7" ∷ codes "7" ∷ [])) ≡ Some (Sized 7)
  pub listed : delimited_by (length_of (codes "7, 7" ∷ [])) ≡ None
  pub chunked : delimited_by (coding_of (codes "CHUNKED" ∷ [])) ≡ Some Chunked
  pub twice : delimited_by (coding_of (codes "chunked" ∷ codes "chunked" ∷ [])) ≡ None
  pub second : delimited_by (coding_of (codes "gzip, chunked" ∷ [])) ≡ None
  pub other : delimited_by (coding_of (codes "gzip" ∷ [])) ≡ None
  pub both : delimited_by (coding_of (codes "chunked" ∷ []) ++ length_of (codes "5" ∷ [])) ≡ None
  pub one_coding : is_chunked (coding_of (codes "chunked" ∷ [])) ≡ true
  pub no_coding : is_chunked [] ≡ false
  pub old : has_its_host (record (head 0 []) { fields = [] }) ≡ true
  pub host : has_its_host (head 1 []) ≡ true
  pub no_host : has_its_host (record (head 1 []) { fields = [] }) ≡ false
  pub hosts : framing_of (head 1 (fields_of (codes "host") (codes "localhost" ∷ []))) ≡ None
  pub old_hosts : framing_of (head 0 (fields_of (codes "host") (codes "localhost" ∷ []))) ≡ Some (Sized 0)
  pub empty : framing_of (head 1 []) ≡ Some (Sized 0)

abbrev expects : List ℕ → ℕ → List (List ℕ) → Bool
expects value minor lengths = waits (head minor (field (codes "Expect") value ∷ length_of lengths))

-- a 100 is due where a client of HTTP/1.1 expects it and a body within its limit comes
pub record ClientsWait : Type 0 where
  pub due : expects (codes "100-Continue") 1 (codes "1" ∷ []) ≡ true
  pub old : expects (codes "100-continue") 0 (codes "1" ∷ []) ≡ false
  pub nothing : expects (codes "100-continue") 1 (codes "0" ∷ []) ≡ false
  pub unstated : expects (codes "100-continue") 1 [] ≡ false
  pub other : expects (codes "200-ok") 1 (codes "1" ∷ []) ≡ false
  pub unexpected : waits (head 1 (length_of (codes "1" ∷ []))) ≡ false
  pub most : expects (codes "100-continue") 1 (codes "33554432" ∷ []) ≡ true
  pub too_many : expects (codes "100-continue") 1 (codes "33554433" ∷ []) ≡ false
  pub unlike : expects (codes "100-continue") 1 (codes "1" ∷ codes "2" ∷ []) ≡ false
  pub chunks : waits (head 1 (field (codes "expect") (codes "100-continue") ∷ coding_of (codes "chunked" ∷ []))) ≡ true
  pub sized : map (λ n. is_sent 10 (Sized n)) (0 ∷ 1 ∷ 10 ∷ 11 ∷ []) ≡ false ∷ true ∷ true ∷ false ∷ []
  pub sent : is_sent 10 Chunked ≡ true

abbrev connection : List (List ℕ) → List Field
connection values = fields_of (codes "connection") values

-- a session closes after a request of HTTP/1.0, and after one whose first Connection has the word `close`
pub record SessionsClose : Type 0 where
  pub comma : map is_comma (codes ",;") ≡ true ∷ false ∷ []
  pub word : begins_close (codes "close") ≡ true
  pub spaced : begins_close (32 ∷ 9 ∷ codes "CLOSE" ++ 9 ∷ 32 ∷ []) ≡ true
  pub front : begins_close (codes "close, upgrade") ≡ true
  pub longer : begins_close (codes "closed") ≡ false
  pub shorter : begins_close (codes "clos") ≡ false
  pub two_words : begins_close (codes "close upgrade") ≡ false
  pub later : has_later_close (codes "keep-alive,a, close") ≡ true
  pub not_later : has_later_close (codes "close") ≡ false
  pub some : has_close (codes "keep-alive , Close") ≡ true
  pub none : has_close (codes "keep-alive, closed, not-close") ≡ false
  pub old : says_close (head 0 (connection (codes "keep-alive" ∷ []))) ≡ true
  pub open_ : says_close (head 1 []) ≡ false
  pub says : says_close (head 1 (connection (codes "close" ∷ []))) ≡ true
  pub second : says_close (head 1 (connection (codes "keep-alive" ∷ codes "close" ∷ []))) ≡ false
