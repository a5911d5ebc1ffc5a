-- Chunked bodies and requests in a stream of bytes at examples (RFC 9112, sections 2.2, 6.3, 7.1 and 9.6). Places and
-- sizes are in bytes.
use Rattle.std.specs.Prelude.{◌≡◌, ℕ, Bool, true, false, List, [], ◌∷◌, ◌++◌, map, replicate, None, Some, codes}
use Rattle.ecr_model.specs.declared.http.Framing.TheVariants.{Sized}
use Rattle.ecr_model.specs.declared.http.Head.{Head}
use Rattle.ecr_model.specs.declared.http.Request.{Request}
use Rattle.ecr_model.specs.declared.http.Section.TheVariants as sections
use Rattle.ecr_model.specs.http.Chunks.{is_lf, line_size, line_end, if_next, if_crlf, chunk_of, if_within, last_of, chunk, last_chunk, lacking, IsSaid, IsLined, SaysAt, begun, past_chunk, Chunks, front_of}
use Rattle.ecr_model.specs.http.FieldLines.{Field}
use Rattle.ecr_model.specs.http.Fronts.{bad, too_long, open_, complete, lacks}
use Rattle.ecr_model.specs.http.Stream.{is_blank, blank_length, whole, short, request_of, head_part, sized_front, with_body, IsBody, IsFramed, IsHeaded, ParsesTo, Point, start, grown, past_blank, closes, past_request, Begins, ended, closed, truncated, bad_at, long_at, more, ending_of, tail_of, StopsBy}
use Rattle.ecr_model.specs.names.Texts.{crlf}
use Rattle.ecr_examples.specs.Heads.{head, fields_of}

abbrev spaces : ℕ → List ℕ
spaces n = replicate n 32

-- a chunk's line ends within 1,024 bytes; behind a chunk's data comes CR LF, and its data is within the body's limit
pub record ChunksAreCut : Type 0 where
  pub ends : map is_lf (10 ∷ 13 ∷ []) ≡ true ∷ false ∷ []
  pub size : line_size (codes "5" ++ crlf ++ codes "a" ++ crlf) ≡ 2
  pub no_end : line_size (codes "5") ≡ 1
  pub place : line_end (codes "5" ++ crlf) ≡ Some 2
  pub no_place : line_end (codes "5") ≡ None
  pub longest : line_end (spaces 1023 ++ 10 ∷ []) ≡ Some 1023
  pub long : line_end (spaces 1024 ++ 10 ∷ []) ≡ None
  pub waits_longest : IsLined 9 0 (spaces 1023) None None (lacking open_)
  pub waits_long : IsLined 9 0 (spaces 1024) None None (lacking bad)
  pub next : if_next 13 (last_chunk 3) (13 ∷ []) ≡ last_chunk 3
  pub next_other : if_next 13 (last_chunk 3) (10 ∷ []) ≡ lacking bad
  pub next_open : if_next 13 (last_chunk 3) [] ≡ lacking open_
  pub line : if_crlf (last_chunk 3) crlf ≡ last_chunk 3
  pub half : if_crlf (last_chunk 3) (13 ∷ []) ≡ lacking open_
  pub bare : if_crlf (last_chunk 3) (10 ∷ []) ≡ lacking bad
  pub data_is : chunk_of 3 (codes "ab" ++ crlf ++ codes "0") 2 ≡ chunk (codes "ab") 7
  pub data_longer : chunk_of 3 (codes "abc" ++ crlf) 2 ≡ lacking bad
  pub data_open : chunk_of 3 (codes "a") 2 ≡ lacking open_
  pub within : if_within 10 7 3 (last_chunk 1) ≡ last_chunk 1
  pub past : if_within 10 8 3 (last_chunk 1) ≡ lacking (too_long sections.Body 10)
  pub last : last_of 3 (codes "\n\r\n") (Some 3) ≡ last_chunk 6
  pub trailers_open : last_of 3 (codes "\na") None ≡ lacking open_
  -- the chunks before count too, and a limit that is passed comes before data that lacks
  pub said : IsSaid 10 7 (codes "3" ++ crlf ++ codes "abc" ++ crlf) 2 (Some 3) (chunk (codes "abc") 8)
  pub said_past : IsSaid 10 8 (codes "3" ++ crlf) 2 (Some 3) (lacking (too_long sections.Body 10))
  pub said_bad : IsSaid 10 0 (codes "g" ++ crlf) 2 None (lacking bad)
  pub unsaid : SaysAt [] None None
  pub begins : begun (codes "0") ≡ record { at = 0; body = []; ahead = codes "0" }
  pub on : past_chunk (record { at = 3; body = codes "a"; ahead = codes "1xyz" }) (codes "b") 2
      ≡ record { at = 5; body = codes "ab"; ahead = codes "yz" }
  pub none : Chunks 10 (begun (codes "0")) [] (begun (codes "0"))
  pub front : front_of (record { at = 8; body = codes "ab"; ahead = [] }) (last_chunk 5)
      ≡ Some (complete (codes "ab") 13)
  pub front_lacks : front_of (begun []) (lacking bad) ≡ Some (lacks bad)
  pub front_on : front_of (begun []) (chunk (codes "a") 6) ≡ None

-- a request in HTTP/1.1, or 1.0, that begins at that place
abbrev request : ℕ → ℕ → List Field → List ℕ → Request
request at minor fields body = request_of at (head minor fields) body

abbrev point : ℕ → List ℕ → Bool → Point
point at ahead shut = record { at = at; ahead = ahead; closed = shut }

abbrev expecting : Head
expecting = head 1 (record { name = codes "Expect"; value = codes "100-continue" }
    ∷ fields_of (codes "Content-Length") (codes "3" ∷ []))

-- CR and LF stand before a request; it has its body, or lacks it; a stream ends between two requests or inside one
pub record StreamsAreCut : Type 0 where
  pub blanks : map is_blank (13 ∷ 10 ∷ 32 ∷ []) ≡ true ∷ true ∷ false ∷ []
  pub blank : blank_length (10 ∷ 13 ∷ 10 ∷ codes "P\n") ≡ 3
  pub parts : request_of 7 (head 1 []) (codes "ab") ≡ record {
    at = 7;
    method = codes "POST";
    target = codes "/";
    fields = (head 1 []).fields;
    body = codes "ab";
    minor = 1;
  }
  pub head_is : head_part (request 7 1 [] (codes "ab")) ≡ head 1 []
  pub sized : sized_front 3 (codes "abcd") 3 ≡ complete (codes "abc") 3
  pub sized_open : sized_front 3 (codes "ab") 3 ≡ lacks open_
  pub sized_long : sized_front 3 (codes "abcd") 4 ≡ lacks (too_long sections.Body 3)
  pub nothing : sized_front 3 [] 0 ≡ complete [] 0
  pub body : IsBody 3 (codes "abcd") (Sized 2) (complete (codes "ab") 2)
  pub with : with_body 4 40 (head 1 []) (complete (codes "ab") 2) ≡ whole (request 4 1 [] (codes "ab")) 42
  pub without : with_body 4 40 (head 1 []) (lacks open_) ≡ short false open_
  pub without_due : with_body 4 40 expecting (lacks open_) ≡ short true open_
  pub unframed : IsFramed 0 (codes "ab") 1 (head 1 []) None (short false bad)
  pub no_head : IsHeaded 0 (codes "ab") (Some 2) None (short false bad)
  pub head_open : IsHeaded 0 (codes "ab") None None (short false open_)
  pub no_parse : ParsesTo (codes "ab") None None
  pub starts : start (codes "ab") ≡ point 0 (codes "ab") false
  pub grows : grown (point 3 (codes "a") true) (codes "b") ≡ point 3 (codes "ab") true
  pub skips : past_blank (point 3 (codes "\r\n\nab") true) ≡ point 6 (codes "ab") true
  pub goes : past_request (point 3 (codes "\nabcd") false) (request 4 1 [] []) 3 ≡ point 7 (codes "d") false
  pub stops : past_request (point 0 (codes "abc") false) (request 0 0 [] []) 3 ≡ point 3 [] true
  pub close : closes (request 0 1 (fields_of (codes "Connection") (codes "close" ∷ [])) []) ≡ true
  pub none : Begins (start (codes "a")) [] (start (codes "a"))
  pub end : ending_of true (point 5 [] false) open_ ≡ ended
  pub inside : ending_of true (point 5 (codes "a") false) open_ ≡ truncated 5
  pub goes_on : ending_of false (point 5 (codes "a") false) open_ ≡ more
  pub bad_there : ending_of true (point 5 (codes "a") false) bad ≡ bad_at 5
  pub long_there : ending_of false (point 5 (codes "a") false) (too_long sections.Head 9) ≡ long_at 5 sections.Head 9
  pub tail : tail_of true (point 5 (codes "a") false) (short true open_)
      ≡ Some (record { due = true; ending = truncated 5 })
  pub no_tail : tail_of true (point 5 (codes "a") false) (whole (request 5 1 [] []) 1) ≡ None
  pub closes_it : StopsBy true true (point 5 (codes "a") true) (record { due = false; ending = closed })
