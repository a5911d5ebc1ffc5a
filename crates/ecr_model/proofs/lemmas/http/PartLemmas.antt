-- From what is known of a chunked body's bytes to what stands at their front, and to the body.
use Rattle.std.proofs.Common.{◌≡◌, ℕ, zero, suc, ◌+◌, ◌<◌, ◌≤◌, min, List, [], ◌∷◌, ◌++◌, length, take, drop, Some, None, refl, sym, ap, ap₂, ◌∙◌, subst, arith}
use Rattle.std.proofs.Math.Seq.{take-append_seam, drop-append_seam}
use Rattle.std.proofs.lemmas.Bool.{lt-ltb, le-ltb, le-leb, lt-leb}
use Rattle.std.proofs.lemmas.List.{drop-drop, drop_all}
use Rattle.ecr_model.specs.http.Framing.{IsEnd, HasNoEnd}
use Rattle.ecr_model.specs.declared.http.Section.TheVariants as sections
use Rattle.ecr_model.specs.http.Fronts.{Lack, bad, too_long, open_, complete, lacks}
use Rattle.ecr_model.specs.http.Chunks.{max_chunk_line, max_trailers, line_end, Says, Part, chunk, last_chunk, lacking, if_crlf, chunk_of, if_within, IsSaid, IsPart, Progress, begun, past_chunk, Comes, Chunks, IsChunked}
use Rattle.ecr_model.proofs.lemmas.http.ChunkLemmas.{IsPart-by}

-- ---- the line

-- a chunk's line that hasn't ended within its limit yet is open
pub IsPart-open_line : (limit so_far : ℕ) (bytes : List ℕ) → line_end bytes ≡ None → length bytes < max_chunk_line
    → IsPart limit so_far bytes (lacking open_)
IsPart-open_line limit so_far bytes ends few =
    IsPart-by limit so_far bytes None None (lacking open_) ends refl
    (rw (lt-ltb (length bytes) max_chunk_line few) refl)

-- a chunk's line that passes its limit is bad
pub IsPart-long_line : (limit so_far : ℕ) (bytes : List ℕ) → line_end bytes ≡ None → max_chunk_line ≤ length bytes
    → IsPart limit so_far bytes (lacking bad)
IsPart-long_line limit so_far bytes ends long =
    IsPart-by limit so_far bytes None None (lacking bad) ends refl
    (rw (le-ltb (length bytes) max_chunk_line long) refl)

-- a line that is no chunk's is bad
pub IsPart-no_size : (limit so_far : ℕ) (bytes : List ℕ) (n : ℕ) → line_end bytes ≡ Some n
    → Says (take (suc n) bytes) None
    → IsPart limit so_far bytes (lacking bad)
IsPart-no_size limit so_far bytes n ends says = IsPart-by limit so_far bytes (Some n) None (lacking bad) ends says refl

-- ---- a chunk

IsSaid-some : (limit so_far : ℕ) (bytes : List ℕ) (n size : ℕ) (part : Part) → 0 < size
    → part ≡ if_within limit so_far size (chunk_of (suc n) (drop (suc n) bytes) size)
    → IsSaid limit so_far bytes n (Some size) part
IsSaid-some limit so_far bytes n zero part some is = absurd (omega arith)
IsSaid-some limit so_far bytes n (suc k) part some is = is

IsPart-sized : (limit so_far : ℕ) (bytes : List ℕ) (n size : ℕ) (part : Part) → line_end bytes ≡ Some n
    → Says (take (suc n) bytes) (Some size) → 0 < size
    → part ≡ if_within limit so_far size (chunk_of (suc n) (drop (suc n) bytes) size) → IsPart limit so_far bytes part
IsPart-sized limit so_far bytes n size part ends says some is =
    IsPart-by limit so_far bytes (Some n) (Some size) part ends says
    (IsSaid-some limit so_far bytes n size part some is)

-- a chunk with which the body passes its limit is too long
pub IsPart-over : (limit so_far : ℕ) (bytes : List ℕ) (n size : ℕ) → line_end bytes ≡ Some n
    → Says (take (suc n) bytes) (Some size) → 0 < size → limit < so_far + size
    → IsPart limit so_far bytes (lacking (too_long sections.Body limit))
IsPart-over limit so_far bytes n size ends says some over =
    IsPart-sized limit so_far bytes n size (lacking (too_long sections.Body limit)) ends says some
    (rw (lt-leb (so_far + size) limit over) refl)

IsPart-within : (limit so_far : ℕ) (bytes : List ℕ) (n size : ℕ) (part : Part) → line_end bytes ≡ Some n
    → Says (take (suc n) bytes) (Some size) → 0 < size → so_far + size ≤ limit
    → chunk_of (suc n) (drop (suc n) bytes) size ≡ part → IsPart limit so_far bytes part
IsPart-within limit so_far bytes n size part ends says some within is =
    IsPart-sized limit so_far bytes n size part ends says some (rw (le-leb (so_far + size) limit within) (sym is))

-- all of the data came
pub IsPart-data : (limit so_far : ℕ) (bytes : List ℕ) (n size : ℕ) (came rest : List ℕ) → line_end bytes ≡ Some n
    → Says (take (suc n) bytes) (Some size) → 0 < size → so_far + size ≤ limit
    → drop (suc n) bytes ≡ came ++ rest → length came ≡ size
    → IsPart limit so_far bytes (if_crlf (chunk came (suc n + size + 2)) rest)
IsPart-data limit so_far bytes n size came rest ends says some within behind count =
    IsPart-within limit so_far bytes n size (if_crlf (chunk came (suc n + size + 2)) rest) ends says some within
    (ap₂ (λ (c r : List ℕ). if_crlf (chunk c (suc n + size + 2)) r)
    (ap₂ take (sym count) behind ∙ take-append_seam came rest)
    (ap₂ drop (sym count) behind ∙ drop-append_seam came rest))

-- data is due
pub IsPart-open_data : (limit so_far : ℕ) (bytes : List ℕ) (n size : ℕ) → line_end bytes ≡ Some n
    → Says (take (suc n) bytes) (Some size) → 0 < size → so_far + size ≤ limit → length (drop (suc n) bytes) ≤ size
    → IsPart limit so_far bytes (lacking open_)
IsPart-open_data limit so_far bytes n size ends says some within few =
    IsPart-within limit so_far bytes n size (lacking open_) ends says some within
    (ap (if_crlf (chunk (take size (drop (suc n) bytes)) (suc n + size + 2))) (drop_all size (drop (suc n) bytes) few))

-- ---- the last chunk

-- the line of size 0 and a trailer section that ends are the last chunk
pub IsPart-last : (limit so_far : ℕ) (bytes : List ℕ) (n end : ℕ) → line_end bytes ≡ Some n
    → Says (take (suc n) bytes) (Some 0) → IsEnd (1 + max_trailers) (drop n bytes) end
    → IsPart limit so_far bytes (last_chunk (n + end))
IsPart-last limit so_far bytes n end ends says trailers =
    IsPart-by limit so_far bytes (Some n) (Some 0) (last_chunk (n + end)) ends says (Some end, trailers, refl)

-- a trailer section that hasn't ended within its limit yet is open
pub IsPart-open_trailers : (limit so_far : ℕ) (bytes : List ℕ) (n : ℕ) → line_end bytes ≡ Some n
    → Says (take (suc n) bytes) (Some 0) → HasNoEnd (drop n bytes) (min (length (drop n bytes)) (1 + max_trailers))
    → length (drop n bytes) ≤ max_trailers → IsPart limit so_far bytes (lacking open_)
IsPart-open_trailers limit so_far bytes n ends says none_ends few =
    IsPart-by limit so_far bytes (Some n) (Some 0) (lacking open_) ends says
    (None, none_ends, rw (le-leb (length (drop n bytes)) max_trailers few) refl)

-- a trailer section that passes its limit is too long
pub IsPart-long_trailers : (limit so_far : ℕ) (bytes : List ℕ) (n : ℕ) → line_end bytes ≡ Some n
    → Says (take (suc n) bytes) (Some 0) → HasNoEnd (drop n bytes) (min (length (drop n bytes)) (1 + max_trailers))
    → max_trailers < length (drop n bytes)
    → IsPart limit so_far bytes (lacking (too_long sections.Trailers max_trailers))
IsPart-long_trailers limit so_far bytes n ends says none_ends long =
    IsPart-by limit so_far bytes (Some n) (Some 0) (lacking (too_long sections.Trailers max_trailers)) ends says
    (None, none_ends, rw (lt-leb (length (drop n bytes)) max_trailers long) refl)

-- ---- the body

-- what comes behind chunks is what is left of the bytes
pub Chunks-ahead : (limit : ℕ) (bytes : List ℕ) (p : Progress) (cs : List (List ℕ)) (q : Progress)
    → p.ahead ≡ drop p.at bytes
    → Chunks limit p cs q → q.ahead ≡ drop q.at bytes
Chunks-ahead limit bytes p [] q ahead begins = subst (λ (x : Progress). x.ahead ≡ drop x.at bytes) (sym begins) ahead
Chunks-ahead limit bytes p (c ∷ cs) q ahead begins =
    Chunks-ahead limit bytes (past_chunk p c begins.0) cs q
    (ap (drop begins.0) ahead ∙ drop-drop begins.0 p.at bytes) begins.2

-- chunks and a part that lacks something are a body that lacks it
pub IsChunked-lacks : (limit : ℕ) (bytes : List ℕ) (cs : List (List ℕ)) (p : Progress) (lack : Lack)
    → Chunks limit (begun bytes) cs p → Comes limit p (lacking lack) → IsChunked limit bytes (lacks lack)
IsChunked-lacks limit bytes cs p lack begins comes =
    record { chunks = cs; progress = p; part = lacking lack; begins = begins; comes = comes; is = refl }

-- chunks and the last chunk are a whole body
pub IsChunked-whole : (limit : ℕ) (bytes : List ℕ) (cs : List (List ℕ)) (p : Progress) (n : ℕ)
    → Chunks limit (begun bytes) cs p → Comes limit p (last_chunk n)
    → IsChunked limit bytes (complete p.body (p.at + n))
IsChunked-whole limit bytes cs p n begins comes =
    record { chunks = cs; progress = p; part = last_chunk n; begins = begins; comes = comes; is = refl }
