-- What stands at the front of a chunked body's bytes, and how it stays when more bytes come.
use Rattle.std.proofs.Common.{◌≡◌, ℕ, zero, suc, ◌+◌, ◌<◌, ◌≤◌, min, Bool, true, false, ◌&&◌, cond, ◌==◌, List, [], ◌∷◌, ◌++◌, length, take, drop, Option, Some, None, nat_lt, nat_le, if◌then◌else◌, refl, sym, ap, ap₂, ◌∙◌, subst, ⊎_elim, arith, length-append, length-drop}
use Rattle.std.proofs.lemmas.Bool.{cond-false, ne_eqb, cases_lt, ltb-true, ltb-false, leb-false, lt-ltb, le-ltb, lt-leb}
use Rattle.std.proofs.lemmas.List.{take-append-le, drop-append-le, drop_all}
use Rattle.std.proofs.lemmas.List.Sums.{prefix_len-le-length}
use Rattle.std.proofs.lemmas.List.Folds.{prefix_len-append}
use Rattle.httparse.specs.Grammar.{chunk_size}
use Rattle.httparse.proofs.ChunkLemmas.{chunk_line_unique}
use Rattle.ecr_model.specs.http.Framing.{EndsAt}
use Rattle.ecr_model.specs.declared.http.Section.TheVariants as sections
use Rattle.ecr_model.specs.http.Fronts.{bad, too_long, open_, is_settled_lack}
use Rattle.ecr_model.specs.http.Chunks.{max_chunk_line, max_trailers, line_size, line_end, Says, Part, chunk, last_chunk, lacking, if_next, if_crlf, chunk_of, if_within, last_of, IsSaid, IsLined, SaysAt, IsPart}
use Rattle.ecr_model.proofs.lemmas.http.FramingLemmas.{IsEnd-append, HasNoEnd-append, EndsAt-unique}

-- it is said what stands there, whatever follows
abbrev pub is_settled_part : Part → Bool
is_settled_part (chunk c n) = true
is_settled_part (last_chunk n) = true
is_settled_part (lacking lack) = is_settled_lack lack

-- ---- where a line ends

-- a line is no longer than the bytes
pub line_size-le : (bytes : List ℕ) → line_size bytes ≤ length bytes
line_size-le bytes = prefix_len-le-length _ bytes

-- a line whose LF is among the bytes is as long where more bytes follow
pub line_size-append : (bytes more : List ℕ) → line_size bytes < length bytes
    → line_size (bytes ++ more) ≡ line_size bytes
line_size-append bytes more before =
    prefix_len-append _ bytes more ∙ cond-false _ _ _ (ne_eqb (line_size bytes) (length bytes) (λ same. omega arith))

-- a line that had no end in these bytes is no shorter with more of them
pub line_size-grows : (bytes more : List ℕ) → line_size bytes ≤ line_size (bytes ++ more)
line_size-grows bytes more =
    grows (line_size bytes == length bytes) (line_size bytes) (length bytes) (line_size more) (line_size-le bytes)
    (prefix_len-append _ bytes more)
  where
    grows : (same : Bool) (s l m : ℕ) {t : ℕ} → s ≤ l → t ≡ cond same (l + m) s → s ≤ t
    grows true s l m within is = omega arith
    grows false s l m within is = omega arith

line_end-parts : (s l m n : ℕ) → (if nat_lt s l && nat_lt s m then Some s else None) ≡ Some n → (s ≡ n) × (s < l)
    × (s < m)
line_end-parts s l m n is = by (nat_lt s l) (nat_lt s m) refl refl is
  where
    by : (a b : Bool) → nat_lt s l ≡ a → nat_lt s m ≡ b → (if a && b then Some s else None) ≡ Some n
        → (s ≡ n) × (s < l) × (s < m)
    by true true p q is = (cc, ltb-true s l p, ltb-true s m q)
    by true false p q is = absurd (cc)
    by false b p q is = absurd (cc)

line_end-none : (s l m : ℕ) → (if nat_lt s l && nat_lt s m then Some s else None) ≡ None → s < l → m ≤ s
line_end-none s l m is before =
    by (nat_lt s m) refl (subst (λ (a : Bool). (if a && nat_lt s m then Some s else None) ≡ None)
    (lt-ltb s l before) is)
  where
    by : (b : Bool) → nat_lt s m ≡ b → (if true && b then Some s else None) ≡ None → m ≤ s
    by true q is = absurd (cc)
    by false q is = ltb-false s m q

-- the place of the LF, by what it means
pub line_end-is : (bytes : List ℕ) (n : ℕ) → line_end bytes ≡ Some n
    → (line_size bytes ≡ n) × (n < length bytes) × (n < max_chunk_line)
line_end-is bytes n is =
    let parts : (line_size bytes ≡ n) × (line_size bytes < length bytes) × (line_size bytes < max_chunk_line) =
    line_end-parts (line_size bytes) (length bytes) max_chunk_line n is in
    (parts.0, omega (arith, parts.0, parts.1), omega (arith, parts.0, parts.2))

-- an LF that stands below the limit of a chunk's line ends the line
pub line_end-some : (bytes : List ℕ) → line_size bytes < length bytes → line_size bytes < max_chunk_line
    → line_end bytes ≡ Some (line_size bytes)
line_end-some bytes before short = rw (lt-ltb _ _ before, lt-ltb _ _ short) refl

-- a line of `max_chunk_line` bytes or more has no end
pub line_end-long : (bytes : List ℕ) → max_chunk_line ≤ line_size bytes → line_end bytes ≡ None
line_end-long bytes long = by (nat_lt (line_size bytes) (length bytes)) (le-ltb _ _ long)
  where
    by : (a : Bool) {b : Bool} → b ≡ false → (if a && b then Some (line_size bytes) else None) ≡ None
    by true same = rw same refl
    by false same = refl

-- a line that has ended ends at the same place where more bytes follow
pub line_end-append : (bytes more : List ℕ) (n : ℕ) → line_end bytes ≡ Some n → line_end (bytes ++ more) ≡ Some n
line_end-append bytes more n is =
    let parts : (line_size bytes ≡ n) × (n < length bytes) × (n < max_chunk_line) = line_end-is bytes n is in
    let before : line_size bytes < length bytes = omega (arith, parts.0, parts.1) in
    let same : line_size (bytes ++ more) ≡ line_size bytes = line_size-append bytes more before in
    line_end-some (bytes ++ more) (omega (arith, length-append bytes more)) (omega (arith, parts.0, parts.2))
    ∙ ap Some (same ∙ parts.0)

-- a line that reached its limit without an LF has no end where more bytes follow
pub line_end-stays_none : (bytes more : List ℕ) → line_end bytes ≡ None → max_chunk_line ≤ length bytes
    → line_end (bytes ++ more) ≡ None
line_end-stays_none bytes more is long =
    let most : line_size bytes ≤ length bytes = line_size-le bytes in
    let large : max_chunk_line ≤ line_size bytes = ⊎_elim
    (λ (before : line_size bytes < length bytes). line_end-none (line_size bytes)
    (length bytes) max_chunk_line is before)
    (λ (past : length bytes ≤ line_size bytes). omega arith) (cases_lt (line_size bytes) (length bytes)) in
    line_end-long (bytes ++ more) (omega (arith, line_size-grows bytes more))

-- ---- what a line says

-- a line says one size at most
pub Says-unique : (line : List ℕ) (a b : Option ℕ) → Says line a → Says line b → a ≡ b
Says-unique line None None a b = refl
Says-unique line None (Some n) a b = absurd (a b.0 b.1)
Says-unique line (Some n) None a b = absurd (b a.0 a.1)
Says-unique line (Some n) (Some m) a b =
    ap Some (a.2 ∙ ap chunk_size (chunk_line_unique line a.0 b.0 [] [] a.1 b.1).0 ∙ sym b.2)

SaysAt-unique : (bytes : List ℕ) (end a b : Option ℕ) → SaysAt bytes end a → SaysAt bytes end b → a ≡ b
SaysAt-unique bytes None a b x y = x ∙ sym y
SaysAt-unique bytes (Some n) a b x y = Says-unique (take (suc n) bytes) a b x y

-- ---- one part

IsSaid-unique : (limit so_far : ℕ) (bytes : List ℕ) (n : ℕ) (size : Option ℕ) (a b : Part)
    → IsSaid limit so_far bytes n size a → IsSaid limit so_far bytes n size b → a ≡ b
IsSaid-unique limit so_far bytes n None a b x y = x ∙ sym y
IsSaid-unique limit so_far bytes n (Some zero) a b x y =
    x.2 ∙ ap (last_of n (drop n bytes)) (EndsAt-unique (1 + max_trailers) (drop n bytes) x.0 y.0 x.1 y.1) ∙ sym y.2
IsSaid-unique limit so_far bytes n (Some (suc k)) a b x y = x ∙ sym y

IsLined-unique : (limit so_far : ℕ) (bytes : List ℕ) (end size : Option ℕ) (a b : Part)
    → IsLined limit so_far bytes end size a → IsLined limit so_far bytes end size b → a ≡ b
IsLined-unique limit so_far bytes None size a b x y = x ∙ sym y
IsLined-unique limit so_far bytes (Some n) size a b x y = IsSaid-unique limit so_far bytes n size a b x y

-- bytes have at most one part at their front
pub IsPart-unique : (limit so_far : ℕ) (bytes : List ℕ) (a b : Part) → IsPart limit so_far bytes a
    → IsPart limit so_far bytes b → a ≡ b
IsPart-unique limit so_far bytes a b x y =
    let sizes : y.size ≡ x.size = SaysAt-unique bytes (line_end bytes) y.size x.size y.says x.says in
    IsLined-unique limit so_far bytes (line_end bytes) x.size a b x.is
    (subst (λ (s : Option ℕ). IsLined limit so_far bytes (line_end bytes) s b) sizes y.is)

-- ---- more bytes

if_next-append : (byte : ℕ) (part : Part) (bytes more : List ℕ) → is_settled_part (if_next byte part bytes) ≡ true
    → if_next byte part (bytes ++ more) ≡ if_next byte part bytes
if_next-append byte part [] more settled = absurd (cc)
if_next-append byte part (b ∷ bytes) more settled = refl

if_crlf-append : (part : Part) (bytes more : List ℕ) → is_settled_part (if_crlf part bytes) ≡ true
    → if_crlf part (bytes ++ more) ≡ if_crlf part bytes
if_crlf-append part [] more settled = absurd (cc)
if_crlf-append part (b ∷ bytes) more settled = by (b == 13) settled
  where
    by : (same : Bool) → is_settled_part (if same then if_next 10 part bytes else lacking bad) ≡ true
        → (if same then if_next 10 part (bytes ++ more) else lacking bad) ≡
        (if same then if_next 10 part bytes else lacking bad)
    by true settled = if_next-append 10 part bytes more settled
    by false settled = refl

-- where CR LF is due behind the data and a byte came, the data is there
chunk_of-within : (line : ℕ) (bytes : List ℕ) (size : ℕ) → is_settled_part (chunk_of line bytes size) ≡ true
    → size < length bytes
chunk_of-within line bytes size settled =
    ⊎_elim (λ before. before) (λ past. absurd (empty past)) (cases_lt size (length bytes))
  where
    empty : length bytes ≤ size → ⊥
    empty past =
        let nothing : chunk_of line bytes size ≡ lacking open_ =
        ap (if_crlf (chunk (take size bytes) (line + size + 2))) (drop_all size bytes past) in
        let none : is_settled_part (lacking open_) ≡ true = sym (ap is_settled_part nothing) ∙ settled in
        cc

chunk_of-append : (line : ℕ) (bytes more : List ℕ) (size : ℕ) → is_settled_part (chunk_of line bytes size) ≡ true
    → chunk_of line (bytes ++ more) size ≡ chunk_of line bytes size
chunk_of-append line bytes more size settled =
    let before : size < length bytes = chunk_of-within line bytes size settled in
    let within : size ≤ length bytes = omega arith in
    ap₂ (λ (d rest : List ℕ). if_crlf (chunk d (line + size + 2)) rest) (take-append-le size bytes more within)
    (drop-append-le size bytes more within)
    ∙ if_crlf-append (chunk (take size bytes) (line + size + 2)) (drop size bytes) more settled

if_within-append : (limit so_far line size : ℕ) (bytes more : List ℕ)
    → is_settled_part (if_within limit so_far size (chunk_of line bytes size)) ≡ true
    → if_within limit so_far size (chunk_of line (bytes ++ more) size) ≡ if_within limit so_far size
    (chunk_of line bytes size)
if_within-append limit so_far line size bytes more settled = by (nat_le (so_far + size) limit) settled
  where
    by : (fits : Bool)
        → is_settled_part (if fits then chunk_of line bytes size else lacking (too_long sections.Body limit)) ≡ true
        → (if fits then chunk_of line (bytes ++ more) size else lacking (too_long sections.Body limit))
        ≡ (if fits then chunk_of line bytes size else lacking (too_long sections.Body limit))
    by true settled = chunk_of-append line bytes more size settled
    by false settled = refl

-- the trailer section ends in the same place, or stays too long
last-append : (n : ℕ) (bytes more : List ℕ) (end : Option ℕ) → EndsAt (1 + max_trailers) bytes end
    → is_settled_part (last_of n bytes end) ≡ true
    → EndsAt (1 + max_trailers) (bytes ++ more) end × (last_of n (bytes ++ more) end ≡ last_of n bytes end)
last-append n bytes more (Some end) ends settled = (IsEnd-append (1 + max_trailers) bytes more end ends, refl)
last-append n bytes more None ends settled = by (nat_le (length bytes) max_trailers) refl settled
  where
    by : (fits : Bool) → nat_le (length bytes) max_trailers ≡ fits
        → is_settled_lack (if fits then open_ else too_long sections.Trailers max_trailers) ≡ true
        → EndsAt (1 + max_trailers) (bytes ++ more) None × (last_of n (bytes ++ more) None ≡ last_of n bytes None)
    by true is settled = absurd (cc)
    by false is settled =
        let long : max_trailers < length bytes = leb-false (length bytes) max_trailers is in
        let total : max_trailers < length (bytes ++ more) = omega (arith, length-append bytes more) in
        let most : min (length bytes) (1 + max_trailers) ≡ 1 + max_trailers = omega arith in
        let all : min (length (bytes ++ more)) (1 + max_trailers) ≡ 1 + max_trailers = omega arith in
        let room : 1 + max_trailers ≤ length bytes = omega arith in (
          rw all (HasNoEnd-append bytes more (1 + max_trailers) room (rw most at ends)),
          rw (is, lt-leb (length (bytes ++ more)) max_trailers total) refl,
        )

IsSaid-append : (limit so_far : ℕ) (bytes more : List ℕ) (n : ℕ) (size : Option ℕ) (part : Part) → suc n ≤ length bytes
    → is_settled_part part ≡ true → IsSaid limit so_far bytes n size part
    → IsSaid limit so_far (bytes ++ more) n size part
IsSaid-append limit so_far bytes more n None part within settled is = is
IsSaid-append limit so_far bytes more n (Some zero) part within settled is =
    let longer : drop n (bytes ++ more) ≡ drop n bytes ++ more = drop-append-le n bytes more (omega arith) in
    let stays : EndsAt (1 + max_trailers) (drop n bytes ++ more) is.0
    × (last_of n (drop n bytes ++ more) is.0 ≡ last_of n (drop n bytes) is.0) =
    last-append n (drop n bytes) more is.0 is.1 (sym (ap is_settled_part is.2) ∙ settled) in
    (is.0, rw longer stays.0, is.2 ∙ sym stays.1 ∙ ap (λ (b : List ℕ). last_of n b is.0) (sym longer))
IsSaid-append limit so_far bytes more n (Some (suc k)) part within settled is =
    let longer : drop (suc n) (bytes ++ more) ≡ drop (suc n) bytes ++ more =
    drop-append-le (suc n) bytes more within in
    is
    ∙ sym (if_within-append limit so_far (suc n) (suc k) (drop (suc n) bytes) more
    (sym (ap is_settled_part is) ∙ settled))
    ∙ ap (λ (b : List ℕ). if_within limit so_far (suc k) (chunk_of (suc n) b (suc k))) (sym longer)

-- a line that is there whole says the same where more bytes follow
pub Says-append : (bytes more : List ℕ) (n : ℕ) (size : Option ℕ) → suc n ≤ length bytes
    → Says (take (suc n) bytes) size
    → Says (take (suc n) (bytes ++ more)) size
Says-append bytes more n size within says = rw (take-append-le (suc n) bytes more within) says

-- a part by where its line ends
pub IsPart-by : (limit so_far : ℕ) (bytes : List ℕ) (end size : Option ℕ) (part : Part) → line_end bytes ≡ end
    → SaysAt bytes end size → IsLined limit so_far bytes end size part → IsPart limit so_far bytes part
IsPart-by limit so_far bytes end size part ends says is = record {
  size = size;
  says = subst (λ (e : Option ℕ). SaysAt bytes e size) (sym ends) says;
  is = subst (λ (e : Option ℕ). IsLined limit so_far bytes e size part) (sym ends) is;
}

short_line : (bytes : List ℕ) (part : Part) → is_settled_part part ≡ true
    → part ≡ lacking (if nat_lt (length bytes) max_chunk_line then open_ else bad)
    → (max_chunk_line ≤ length bytes) × (part ≡ lacking bad)
short_line bytes part settled is = by (nat_lt (length bytes) max_chunk_line) refl is
  where
    by : (less : Bool) → nat_lt (length bytes) max_chunk_line ≡ less → part ≡ lacking (if less then open_ else bad)
        → (max_chunk_line ≤ length bytes) × (part ≡ lacking bad)
    by true same is =
        let none : is_settled_part (lacking open_) ≡ true = sym (ap is_settled_part is) ∙ settled in absurd (cc)
    by false same is = (ltb-false (length bytes) max_chunk_line same, is)

IsLined-append : (limit so_far : ℕ) (bytes more : List ℕ) (end size : Option ℕ) (part : Part) → line_end bytes ≡ end
    → SaysAt bytes end size → is_settled_part part ≡ true → IsLined limit so_far bytes end size part
    → IsPart limit so_far (bytes ++ more) part
IsLined-append limit so_far bytes more None size part ends says settled is =
    let long : (max_chunk_line ≤ length bytes) × (part ≡ lacking bad) = short_line bytes part settled is in
    let total : max_chunk_line ≤ length (bytes ++ more) = omega (arith, long.0, length-append bytes more) in
    let same : (if nat_lt (length (bytes ++ more)) max_chunk_line then open_ else bad) ≡ bad =
    rw (le-ltb (length (bytes ++ more)) max_chunk_line total) refl in
    IsPart-by limit so_far (bytes ++ more) None None part (line_end-stays_none bytes more ends long.0) refl
    (long.1 ∙ ap lacking (sym same))
IsLined-append limit so_far bytes more (Some n) size part ends says settled is =
    let within : suc n ≤ length bytes = omega (arith, (line_end-is bytes n ends).1) in
    IsPart-by limit so_far (bytes ++ more) (Some n) size part (line_end-append bytes more n ends)
    (Says-append bytes more n size within says) (IsSaid-append limit so_far bytes more n size part within settled is)

-- a settled part stays where more bytes follow
pub IsPart-append : (limit so_far : ℕ) (bytes more : List ℕ) (part : Part) → is_settled_part part ≡ true
    → IsPart limit so_far bytes part → IsPart limit so_far (bytes ++ more) part
IsPart-append limit so_far bytes more part settled is =
    IsLined-append limit so_far bytes more (line_end bytes) is.size part refl is.says settled is.is

-- ---- how long a part is

if_next-chunk : (byte : ℕ) (part : Part) (bytes : List ℕ) (c : List ℕ) (n : ℕ) → if_next byte part bytes ≡ chunk c n
    → (0 < length bytes) × (part ≡ chunk c n)
if_next-chunk byte part [] c n is = absurd (cc)
if_next-chunk byte part (b ∷ bytes) c n is = by (b == byte) is
  where
    by : (same : Bool) → (if same then part else lacking bad) ≡ chunk c n → (0 < length (b ∷ bytes))
        × (part ≡ chunk c n)
    by true is = (omega arith, is)
    by false is = absurd (cc)

-- a chunk has its data, and so many bytes
chunk_of-chunk : (line : ℕ) (bytes : List ℕ) (size : ℕ) (c : List ℕ) (n : ℕ) → chunk_of line bytes size ≡ chunk c n
    → (c ≡ take size bytes) × (n ≡ line + size + 2) × (size + 2 ≤ length bytes)
chunk_of-chunk line bytes size c n is =
    let first : (0 < length (drop size bytes))
    × (if_next 10 (chunk (take size bytes) (line + size + 2)) (drop 1 (drop size bytes)) ≡ chunk c n) =
    if_next-chunk 13 (if_next 10 (chunk (take size bytes) (line + size + 2)) (drop 1 (drop size bytes)))
    (drop size bytes) c n is in
    let second : (0 < length (drop 1 (drop size bytes))) × (chunk (take size bytes) (line + size + 2) ≡ chunk c n) =
    if_next-chunk 10 (chunk (take size bytes) (line + size + 2)) (drop 1 (drop size bytes)) c n first.1 in
    (cc, cc, omega (arith, second.0, length-drop 1 (drop size bytes), length-drop size bytes))

if_within-chunk : (limit so_far size : ℕ) (part : Part) (c : List ℕ) (n : ℕ)
    → if_within limit so_far size part ≡ chunk c n
    → part ≡ chunk c n
if_within-chunk limit so_far size part c n is = by (nat_le (so_far + size) limit) is
  where
    by : (fits : Bool) → (if fits then part else lacking (too_long sections.Body limit)) ≡ chunk c n → part ≡ chunk c n
    by true is = is
    by false is = absurd (cc)

IsSaid-chunk_length : (limit so_far : ℕ) (bytes : List ℕ) (n : ℕ) (size : Option ℕ) (c : List ℕ) (m : ℕ)
    → suc n ≤ length bytes → IsSaid limit so_far bytes n size (chunk c m) → (0 < m) × (m ≤ length bytes)
IsSaid-chunk_length limit so_far bytes n None c m within is = absurd (cc)
IsSaid-chunk_length limit so_far bytes n (Some zero) c m within is = absurd (none is.0 is.2)
  where
    none : (end : Option ℕ) → chunk c m ≡ last_of n (drop n bytes) end → ⊥
    none None same = cc
    none (Some e) same = cc
IsSaid-chunk_length limit so_far bytes n (Some (suc k)) c m within is =
    let parts : (c ≡ take (suc k) (drop (suc n) bytes)) × (m ≡ suc n + suc k + 2)
    × (suc k + 2 ≤ length (drop (suc n) bytes)) =
    chunk_of-chunk (suc n) (drop (suc n) bytes) (suc k) c m
    (if_within-chunk limit so_far (suc k) (chunk_of (suc n) (drop (suc n) bytes) (suc k)) c m (sym is)) in
    (omega (arith, parts.1), omega (arith, parts.1, parts.2, length-drop (suc n) bytes))

IsSaid-last_length : (limit so_far : ℕ) (bytes : List ℕ) (n : ℕ) (size : Option ℕ) (m : ℕ)
    → suc n ≤ length bytes → IsSaid limit so_far bytes n size (last_chunk m) → m ≤ length bytes
IsSaid-last_length limit so_far bytes n None m within is = absurd (cc)
IsSaid-last_length limit so_far bytes n (Some zero) m within is = by is.0 is.1 is.2
  where
    by : (end : Option ℕ) → EndsAt (1 + max_trailers) (drop n bytes) end → last_chunk m ≡ last_of n (drop n bytes) end
        → m ≤ length bytes
    by None ends same = absurd (cc)
    by (Some e) ends same =
        let total : m ≡ n + e = cc in omega (arith, ends.within, length-drop n bytes)
IsSaid-last_length limit so_far bytes n (Some (suc k)) m within is = absurd (none is)
  where
    crlf_none : (c : List ℕ) (j : ℕ) (rest : List ℕ) → last_chunk m ≡ if_crlf (chunk c j) rest → ⊥
    crlf_none c j [] same = cc
    crlf_none c j (a ∷ []) same = by (a == 13) same
      where
        by : (is : Bool) → last_chunk m ≡ (if is then lacking open_ else lacking bad) → ⊥
        by true same = cc
        by false same = cc
    crlf_none c j (a ∷ b ∷ rest) same = by (a == 13) (b == 10) same
      where
        by : (is then_ : Bool) → last_chunk m ≡
            (if is then (if then_ then chunk c j else lacking bad) else lacking bad) → ⊥
        by true true same = cc
        by true false same = cc
        by false then_ same = cc

    none : last_chunk m ≡ if_within limit so_far (suc k) (chunk_of (suc n) (drop (suc n) bytes) (suc k)) → ⊥
    none same = by (nat_le (so_far + suc k) limit) same
      where
        by : (fits : Bool) → last_chunk m ≡
            (if fits then chunk_of (suc n) (drop (suc n) bytes) (suc k) else lacking (too_long sections.Body limit)) → ⊥
        by true same = crlf_none (take (suc k) (drop (suc n) bytes)) (suc n + suc k + 2)
            (drop (suc k) (drop (suc n) bytes)) same
        by false same = cc

IsLined-chunk_length : (limit so_far : ℕ) (bytes : List ℕ) (end size : Option ℕ) (c : List ℕ) (m : ℕ)
    → line_end bytes ≡ end
    → IsLined limit so_far bytes end size (chunk c m) → (0 < m) × (m ≤ length bytes)
IsLined-chunk_length limit so_far bytes None size c m ends is = absurd (cc)
IsLined-chunk_length limit so_far bytes (Some n) size c m ends is =
    IsSaid-chunk_length limit so_far bytes n size c m (omega (arith, (line_end-is bytes n ends).1)) is

IsLined-last_length : (limit so_far : ℕ) (bytes : List ℕ) (end size : Option ℕ) (m : ℕ) → line_end bytes ≡ end
    → IsLined limit so_far bytes end size (last_chunk m) → m ≤ length bytes
IsLined-last_length limit so_far bytes None size m ends is = absurd (cc)
IsLined-last_length limit so_far bytes (Some n) size m ends is =
    IsSaid-last_length limit so_far bytes n size m (omega (arith, (line_end-is bytes n ends).1)) is

-- a chunk takes at least one byte
pub IsPart-chunk_positive : (limit so_far : ℕ) (bytes c : List ℕ) (n : ℕ) → IsPart limit so_far bytes (chunk c n)
    → 0 < n
IsPart-chunk_positive limit so_far bytes c n is =
    (IsLined-chunk_length limit so_far bytes (line_end bytes) is.size c n refl is.is).0

-- a chunk takes no more bytes than there are
pub IsPart-chunk_length : (limit so_far : ℕ) (bytes c : List ℕ) (n : ℕ) → IsPart limit so_far bytes (chunk c n)
    → n ≤ length bytes
IsPart-chunk_length limit so_far bytes c n is =
    (IsLined-chunk_length limit so_far bytes (line_end bytes) is.size c n refl is.is).1

-- the last chunk takes no more bytes than there are
pub IsPart-last_length : (limit so_far : ℕ) (bytes : List ℕ) (n : ℕ) → IsPart limit so_far bytes (last_chunk n)
    → n ≤ length bytes
IsPart-last_length limit so_far bytes n is =
    IsLined-last_length limit so_far bytes (line_end bytes) is.size n refl is.is
