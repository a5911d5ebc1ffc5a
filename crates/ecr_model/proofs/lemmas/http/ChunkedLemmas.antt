-- The chunks of a body one after another, the front of a chunked body, and how they stay when more bytes come.
use Rattle.std.proofs.Common.{◌≡◌, ℕ, ◌+◌, ◌≤◌, true, List, [], ◌∷◌, ◌++◌, length, drop, Some, None, refl, sym, ap, ap₂, ◌∙◌, subst, arith, length-drop}
use Rattle.std.proofs.lemmas.List.{drop-append-le}
use Rattle.ecr_model.specs.http.Fronts.{BodyFront, complete, lacks, is_settled_body}
use Rattle.ecr_model.specs.http.Chunks.{Part, chunk, last_chunk, lacking, Progress, begun, with_more, past_chunk, Comes, Chunks, front_of, IsChunked}
use Rattle.ecr_model.proofs.lemmas.http.ChunkLemmas.{is_settled_part, IsPart-unique, IsPart-append, IsPart-chunk_length, IsPart-last_length}

-- ---- several chunks

past_chunk-more : (p : Progress) (others c : List ℕ) (n : ℕ) → n ≤ length p.ahead
    → past_chunk (with_more p others) c n ≡ with_more (past_chunk p c n) others
past_chunk-more p others c n within =
    ap (λ (l : List ℕ). progress (p.at + n) (p.body ++ c) l) (drop-append-le n p.ahead others within)
  where
    progress : ℕ → List ℕ → List ℕ → Progress
    progress at body ahead = record { at = at; body = body; ahead = ahead }

-- the settled part that comes next stays where more bytes follow
pub Comes-append : (limit : ℕ) (p : Progress) (others : List ℕ) (part : Part) → is_settled_part part ≡ true
    → Comes limit p part → Comes limit (with_more p others) part
Comes-append limit p others part settled comes = IsPart-append limit (length p.body) p.ahead others part settled comes

-- at most one part comes next
pub Comes-unique : (limit : ℕ) (p : Progress) (a b : Part) → Comes limit p a → Comes limit p b → a ≡ b
Comes-unique limit p a b x y = IsPart-unique limit (length p.body) p.ahead a b x y

-- the same chunks stand between where more bytes follow
pub Chunks-append : (limit : ℕ) (p : Progress) (others : List ℕ) (cs : List (List ℕ)) (q : Progress)
    → Chunks limit p cs q
    → Chunks limit (with_more p others) cs (with_more q others)
Chunks-append limit p others [] q begins = ap (λ (x : Progress). with_more x others) begins
Chunks-append limit p others (c ∷ cs) q begins = (
  begins.0,
  Comes-append limit p others (chunk c begins.0) refl begins.1,
  subst (λ (x : Progress). Chunks limit x cs (with_more q others))
      (sym (past_chunk-more p others c begins.0
      (IsPart-chunk_length limit (length p.body) p.ahead c begins.0 begins.1)))
      (Chunks-append limit (past_chunk p c begins.0) others cs q begins.2),
)

-- chunks and the one that comes next are one chunk more
pub Chunks-more : (limit : ℕ) (p : Progress) (cs : List (List ℕ)) (q : Progress) (c : List ℕ) (n : ℕ)
    → Chunks limit p cs q
    → Comes limit q (chunk c n) → Chunks limit p (cs ++ c ∷ []) (past_chunk q c n)
Chunks-more limit p [] q c n begins comes =
    subst (λ (x : Progress). Chunks limit x (c ∷ []) (past_chunk q c n)) begins (n, comes, refl)
Chunks-more limit p (d ∷ cs) q c n begins comes =
    (begins.0, begins.1, Chunks-more limit (past_chunk p d begins.0) cs q c n begins.2 comes)

-- the bytes used and those that come are as many after chunks as before them
pub Chunks-length : (limit : ℕ) (p : Progress) (cs : List (List ℕ)) (q : Progress) → Chunks limit p cs q
    → q.at + length q.ahead ≡ p.at + length p.ahead
Chunks-length limit p [] q begins = ap (λ (x : Progress). x.at + length x.ahead) begins
Chunks-length limit p (c ∷ cs) q begins =
    let within : begins.0 ≤ length p.ahead = IsPart-chunk_length limit (length p.body) p.ahead c begins.0 begins.1 in
    let step : q.at + length q.ahead ≡ p.at + begins.0 + length (drop begins.0 p.ahead) =
    Chunks-length limit (past_chunk p c begins.0) cs q begins.2 in
    omega (arith, length-drop begins.0 p.ahead)

-- ---- one reading

-- no chunk stands where the chunks end
no_chunk : (limit : ℕ) (p : Progress) (part : Part) (front : BodyFront) (c : List ℕ) (n : ℕ) → Comes limit p part
    → front_of p part ≡ Some front → Comes limit p (chunk c n) → ⊥
no_chunk limit p part front c n comes is other =
    let same : part ≡ chunk c n = Comes-unique limit p part (chunk c n) comes other in
    let none : None ≡ Some front = sym (ap (front_of p) same) ∙ is in
    cc

-- chunks that end where no further one stands are all
Chunks-unique : (limit : ℕ) (p : Progress) (cs ds : List (List ℕ)) (q w : Progress) (part other : Part)
    (front last : BodyFront)
    → Chunks limit p cs q → Chunks limit p ds w → Comes limit q part → front_of q part ≡ Some front
    → Comes limit w other → front_of w other ≡ Some last → w ≡ q
Chunks-unique limit p [] [] q w part other front last x y comes is also has = y ∙ sym x
Chunks-unique limit p [] (d ∷ ds) q w part other front last x y comes is also has =
    absurd (no_chunk limit p part front d y.0 (subst (λ (z : Progress). Comes limit z part) x comes)
    (subst (λ (z : Progress). front_of z part ≡ Some front) x is) y.1)
Chunks-unique limit p (c ∷ cs) [] q w part other front last x y comes is also has =
    absurd (no_chunk limit p other last c x.0 (subst (λ (z : Progress). Comes limit z other) y also)
    (subst (λ (z : Progress). front_of z other ≡ Some last) y has) x.1)
Chunks-unique limit p (c ∷ cs) (d ∷ ds) q w part other front last x y comes is also has =
    let same : chunk d y.0 ≡ chunk c x.0 = Comes-unique limit p (chunk d y.0) (chunk c x.0) y.1 x.1 in
    let data_same : d ≡ c = cc in
    let long_same : y.0 ≡ x.0 = cc in
    let behind : past_chunk p d y.0 ≡ past_chunk p c x.0 =
    ap₂ (λ (e : List ℕ) (k : ℕ). past_chunk p e k) data_same long_same in
    Chunks-unique limit (past_chunk p c x.0) cs ds q w part other front last x.2
    (subst (λ (z : Progress). Chunks limit z ds w) behind y.2) comes is also has

-- bytes have at most one front as a chunked body
pub IsChunked-unique : (limit : ℕ) (bytes : List ℕ) (a b : BodyFront) → IsChunked limit bytes a
    → IsChunked limit bytes b
    → a ≡ b
IsChunked-unique limit bytes a b x y =
    let places : y.progress ≡ x.progress =
    Chunks-unique limit (begun bytes) x.chunks y.chunks x.progress y.progress x.part y.part a b
    x.begins y.begins x.comes x.is y.comes y.is in
    let parts : y.part ≡ x.part = Comes-unique limit x.progress y.part x.part
    (subst (λ (z : Progress). Comes limit z y.part) places y.comes) x.comes in
    let fronts : Some a ≡ Some b = sym x.is ∙ ap₂ front_of (sym places) (sym parts) ∙ y.is in
    cc

settled_part : (p : Progress) (part : Part) (front : BodyFront) → front_of p part ≡ Some front
    → is_settled_body front ≡ true
    → is_settled_part part ≡ true
settled_part p (chunk c n) front is settled = refl
settled_part p (last_chunk n) front is settled = refl
settled_part p (lacking lack) front is settled =
    let same : lacks lack ≡ front = cc in ap is_settled_body same ∙ settled

front_of-more : (p : Progress) (others : List ℕ) (part : Part) → front_of (with_more p others) part ≡ front_of p part
front_of-more p others (chunk c n) = refl
front_of-more p others (last_chunk n) = refl
front_of-more p others (lacking lack) = refl

-- a settled front of a chunked body stays where more bytes follow
pub IsChunked-append : (limit : ℕ) (bytes more : List ℕ) (front : BodyFront) → is_settled_body front ≡ true
    → IsChunked limit bytes front → IsChunked limit (bytes ++ more) front
IsChunked-append limit bytes more front settled is = record {
  chunks = is.chunks;
  progress = with_more is.progress more;
  part = is.part;
  begins = Chunks-append limit (begun bytes) more is.chunks is.progress is.begins;
  comes = Comes-append limit is.progress more is.part (settled_part is.progress is.part front is.is settled) is.comes;
  is = front_of-more is.progress more is.part ∙ is.is;
}

whole_length : (limit : ℕ) (bytes : List ℕ) (p : Progress) (part : Part) (body : List ℕ) (n : ℕ)
    → p.at + length p.ahead ≡ length bytes
    → Comes limit p part → front_of p part ≡ Some (complete body n) → n ≤ length bytes
whole_length limit bytes p (chunk c m) body n all comes is = absurd (cc)
whole_length limit bytes p (lacking lack) body n all comes is = absurd (cc)
whole_length limit bytes p (last_chunk m) body n all comes is =
    let total : p.at + m ≡ n = cc in
    omega (arith, IsPart-last_length limit (length p.body) p.ahead m comes)

-- a whole chunked body takes no more bytes than there are
pub IsChunked-length : (limit : ℕ) (bytes body : List ℕ) (n : ℕ) → IsChunked limit bytes (complete body n)
    → n ≤ length bytes
IsChunked-length limit bytes body n is =
    let all : is.progress.at + length is.progress.ahead ≡ 0 + length bytes =
    Chunks-length limit (begun bytes) is.chunks is.progress is.begins in
    whole_length limit bytes is.progress is.part body n (omega arith) is.comes is.is
