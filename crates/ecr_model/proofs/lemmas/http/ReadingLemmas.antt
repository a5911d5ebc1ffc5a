-- Each list of bytes has a reading as requests.
use Rattle.std.proofs.Common.{◌≡◌, ℕ, zero, suc, ◌+◌, ◌<◌, ◌≤◌, min, Bool, true, false, List, [], ◌∷◌, ◌++◌, length, take, drop, Option, Some, None, nat_lt, ◌⊎◌, inl, inr, ⊎_elim, if◌then◌else◌, refl, sym, ap, ◌∙◌, subst, arith, length-drop}
use Rattle.std.proofs.lemmas.Bool.{cases_eq}
use Rattle.httparse.specs.Grammar.{chunk_size}
use Rattle.httparse.specs.Pieces.{Begins as BeginsPiece, Then, RequestStart, Section, Chunk}
use Rattle.httparse.proofs.GrammarLemmas.{RequestTree, request_tree, request_head, request_pieces, request_from_pieces, request_unique}
use Rattle.httparse.proofs.ChunkLemmas.{chunk_line, chunk_pieces, chunk_from_pieces, chunk_line_unique}
use Rattle.ecr_model.specs.declared.http.Head.{Head}
use Rattle.ecr_model.specs.declared.http.Framing.{Framing}
use Rattle.ecr_model.specs.declared.http.Framing.TheVariants.{Sized, Chunked}
use Rattle.ecr_model.specs.declared.http.Request.{Request}
use Rattle.ecr_model.specs.http.Fields.{head_of}
use Rattle.ecr_model.specs.http.Framing.{max_head, max_body, ends_empty, HasNoEnd, EndsAt, Parses, framing_of}
use Rattle.ecr_model.specs.declared.http.Section.TheVariants as sections
use Rattle.ecr_model.specs.http.Fronts.{bad, too_long, open_, BodyFront, complete, lacks}
use Rattle.ecr_model.specs.http.Chunks.{max_trailers, line_end, Says, Part, chunk, last_chunk, lacking, chunk_of, if_within, last_of, IsSaid, IsLined, SaysAt, IsPart, Progress, begun, past_chunk, Comes, Chunks, IsChunked}
use Rattle.ecr_model.specs.http.Stream.{Front, whole, short, sized_front, IsBody, with_body, IsFramed, IsHeaded, ParsesTo, IsFront, blank_length, Point, start, past_blank, Meets, past_request, Begins, closed, Tail, ending_of, Lacks, StopsBy, Reads}
use Rattle.ecr_model.specs.laws.StreamLaws.{BytesHaveAReading}
use Rattle.ecr_model.proofs.lemmas.http.ChunkLemmas.{IsPart-chunk_positive, IsPart-chunk_length}
use Rattle.ecr_model.proofs.lemmas.http.ChunkedLemmas.{Chunks-more}
use Rattle.ecr_model.proofs.lemmas.http.DecisionLemmas.{RequestHead_decided, Chunk_decided}
use Rattle.ecr_model.proofs.lemmas.http.PartLemmas.{IsChunked-lacks, IsChunked-whole}
use Rattle.ecr_model.proofs.lemmas.http.StreamLemmas.{Meets-length, Begins-more}

-- ---- where a head ends, and what it says

-- the first empty line ends within the first n bytes
abbrev EndsWithin : List ℕ → ℕ → Type 0
EndsWithin bytes n =
    (k : ℕ) × (k ≤ n) × (ends_empty bytes k ≡ true) × ((j : ℕ) → j < k → ends_empty bytes j ≡ false)

find_end : (bytes : List ℕ) (n : ℕ) → HasNoEnd bytes n ⊎ EndsWithin bytes n
find_end bytes zero = by (ends_empty bytes 0) refl
  where
    by : (t : Bool) → ends_empty bytes 0 ≡ t → HasNoEnd bytes 0 ⊎ EndsWithin bytes 0
    by true is = inr (0, omega arith, is, λ j less. absurd (omega arith))
    by false is = inl (λ k few. let none : k ≡ 0 = omega arith in ap (ends_empty bytes) none ∙ is)
find_end bytes (suc n) = by (find_end bytes n) (ends_empty bytes (suc n)) refl
  where
    by : HasNoEnd bytes n ⊎ EndsWithin bytes n → (t : Bool) → ends_empty bytes (suc n) ≡ t
        → HasNoEnd bytes (suc n) ⊎ EndsWithin bytes (suc n)
    by (inr x) t is = inr (x.0, omega (arith, x.1), x.2, x.3)
    by (inl none) true is = inr (suc n, omega arith, is, λ j less. none j (omega arith))
    by (inl none) false is = inl λ k few. ⊎_elim
        (λ (same : k ≡ suc n). ap (ends_empty bytes) same ∙ is) (λ (other : k ≡ suc n → ⊥). none k (omega arith))
        (cases_eq k (suc n))

EndsAt-some : (limit : ℕ) (bytes : List ℕ) → (end : Option ℕ) × EndsAt limit bytes end
EndsAt-some limit bytes = by (find_end bytes (min (length bytes) limit))
  where
    by : HasNoEnd bytes (min (length bytes) limit) ⊎ EndsWithin bytes (min (length bytes) limit)
        → (end : Option ℕ) × EndsAt limit bytes end
    by (inl none) = (None, none)
    by (inr x) = (
      Some x.0,
      record { within = omega (arith, x.1); not_long = omega (arith, x.1); ends = x.2; first = x.3 },
    )

Parses-some : (bytes : List ℕ) → (head : Option Head) × Parses bytes head
Parses-some bytes = by (RequestHead_decided.decide bytes)
  where
    read : (t : RequestTree) (rest : List ℕ) → Then RequestStart Section t bytes rest → (head : Option Head)
        × Parses bytes head
    read t [] is = (Some (head_of (request_head t)), (request_head t, request_from_pieces bytes t [] is, refl))
    read t (b ∷ rest) is = (
      None,
      λ grammar reads.
          let same : (b ∷ rest) ≡ [] =
          (request_unique bytes (request_head t) grammar (b ∷ rest) []
          (request_from_pieces bytes t (b ∷ rest) is) reads).1 in
          cc,
    )

    by : BeginsPiece (Then RequestStart Section) bytes ⊎ ¬ (BeginsPiece (Then RequestStart Section) bytes)
        → (head : Option Head) × Parses bytes head
    by (inl x) = read x.0 x.1 x.2
    by (inr none) = (None, λ grammar reads. none (request_tree grammar, [], request_pieces bytes grammar [] reads))

ParsesTo-some : (bytes : List ℕ) (end : Option ℕ) → (head : Option Head) × ParsesTo bytes end head
ParsesTo-some bytes None = (None, refl)
ParsesTo-some bytes (Some n) = Parses-some (take n bytes)

-- ---- a chunked body

Says-some : (line : List ℕ) → (size : Option ℕ) × Says line size
Says-some line = by (Chunk_decided.decide line)
  where
    read : (t : List ℕ × (List ℕ × Option (List ℕ))) (rest : List ℕ) → Chunk t line rest → (size : Option ℕ)
        × Says line size
    read t [] is = (Some (chunk_size (chunk_line t)), (chunk_line t, chunk_from_pieces line t [] is, refl))
    read t (b ∷ rest) is = (
      None,
      λ l reads.
          let same : (b ∷ rest) ≡ [] =
          (chunk_line_unique line (chunk_line t) l (b ∷ rest) [] (chunk_from_pieces line t (b ∷ rest) is) reads).1 in
          cc,
    )

    by : BeginsPiece Chunk line ⊎ ¬ (BeginsPiece Chunk line) → (size : Option ℕ) × Says line size
    by (inl x) = read x.0 x.1 x.2
    by (inr none) = (None, λ l reads. none ((l.digits, (l.pad, l.extension)), [], chunk_pieces line l [] reads))

SaysAt-some : (bytes : List ℕ) (end : Option ℕ) → (size : Option ℕ) × SaysAt bytes end size
SaysAt-some bytes None = (None, refl)
SaysAt-some bytes (Some n) = Says-some (take (suc n) bytes)

IsSaid-some : (limit so_far : ℕ) (bytes : List ℕ) (n : ℕ) (size : Option ℕ) → (part : Part)
    × IsSaid limit so_far bytes n size part
IsSaid-some limit so_far bytes n None = (lacking bad, refl)
IsSaid-some limit so_far bytes n (Some zero) =
    let ends : (end : Option ℕ) × EndsAt (1 + max_trailers) (drop n bytes) end =
    EndsAt-some (1 + max_trailers) (drop n bytes) in
    (last_of n (drop n bytes) ends.0, (ends.0, ends.1, refl))
IsSaid-some limit so_far bytes n (Some (suc k)) =
    (if_within limit so_far (suc k) (chunk_of (suc n) (drop (suc n) bytes) (suc k)), refl)

IsLined-some : (limit so_far : ℕ) (bytes : List ℕ) (end size : Option ℕ) → (part : Part)
    × IsLined limit so_far bytes end size part
IsLined-some limit so_far bytes None size = (_, refl)
IsLined-some limit so_far bytes (Some n) size = IsSaid-some limit so_far bytes n size

-- some part stands at the front of any bytes
pub IsPart-some : (limit so_far : ℕ) (bytes : List ℕ) → (part : Part) × IsPart limit so_far bytes part
IsPart-some limit so_far bytes =
    let says : (size : Option ℕ) × SaysAt bytes (line_end bytes) size = SaysAt-some bytes (line_end bytes) in
    let lined : (part : Part) × IsLined limit so_far bytes (line_end bytes) says.0 part =
    IsLined-some limit so_far bytes (line_end bytes) says.0 in
    (lined.0, record { size = says.0; says = says.1; is = lined.1 })

abbrev ABody : ℕ → List ℕ → Type 0
ABody limit bytes = (front : BodyFront) × IsChunked limit bytes front

chunked_step : (limit : ℕ) (bytes : List ℕ) (cs : List (List ℕ)) (p : Progress) → Chunks limit (begun bytes) cs p
    → ((ds : List (List ℕ)) (q : Progress) → length q.ahead < length p.ahead → Chunks limit (begun bytes) ds q
    → ABody limit bytes)
    → (part : Part) → Comes limit p part → ABody limit bytes
chunked_step limit bytes cs p begins deeper (chunk c n) comes =
    let some : 0 < n = IsPart-chunk_positive limit (length p.body) p.ahead c n comes in
    let within : n ≤ length p.ahead = IsPart-chunk_length limit (length p.body) p.ahead c n comes in
    let shorter : length (drop n p.ahead) < length p.ahead = omega (arith, length-drop n p.ahead) in
    deeper (cs ++ c ∷ []) (past_chunk p c n) shorter (Chunks-more limit (begun bytes) cs p c n begins comes)
chunked_step limit bytes cs p begins deeper (last_chunk n) comes =
    (complete p.body (p.at + n), IsChunked-whole limit bytes cs p n begins comes)
chunked_step limit bytes cs p begins deeper (lacking lack) comes =
    (lacks lack, IsChunked-lacks limit bytes cs p lack begins comes)

chunked_by : (limit : ℕ) (bytes : List ℕ) (n : ℕ) (cs : List (List ℕ)) (p : Progress) → length p.ahead ≤ n
    → Chunks limit (begun bytes) cs p → ABody limit bytes
chunked_by limit bytes zero cs p few begins =
    let part : (part : Part) × Comes limit p part = IsPart-some limit (length p.body) p.ahead in
    chunked_step limit bytes cs p begins (λ ds q less on. absurd (omega arith)) part.0 part.1
chunked_by limit bytes (suc n) cs p few begins =
    let part : (part : Part) × Comes limit p part = IsPart-some limit (length p.body) p.ahead in
    chunked_step limit bytes cs p begins (λ ds q less on. chunked_by limit bytes n ds q (omega arith) on) part.0 part.1

IsBody-some : (limit : ℕ) (bytes : List ℕ) (framing : Framing) → (body : BodyFront) × IsBody limit bytes framing body
IsBody-some limit bytes (Sized size) = (sized_front limit bytes size, refl)
IsBody-some limit bytes Chunked = chunked_by limit bytes (length bytes) [] (begun bytes) (omega arith) refl

-- ---- one front

IsFramed-some : (at : ℕ) (bytes : List ℕ) (n : ℕ) (head : Head) (framing : Option Framing)
    → (front : Front) × IsFramed at bytes n head framing front
IsFramed-some at bytes n head None = (short false bad, refl)
IsFramed-some at bytes n head (Some framing) =
    let body : (body : BodyFront) × IsBody (max_body head.target) (drop n bytes) framing body =
    IsBody-some (max_body head.target) (drop n bytes) framing in
    (with_body at n head body.0, (body.0, body.1, refl))

IsHeaded-some : (at : ℕ) (bytes : List ℕ) (end : Option ℕ) (head : Option Head)
    → (front : Front) × IsHeaded at bytes end head front
IsHeaded-some at bytes None head =
    (short false (if nat_lt (length bytes) max_head then open_ else too_long sections.Head max_head), refl)
IsHeaded-some at bytes (Some n) None = (short false bad, refl)
IsHeaded-some at bytes (Some n) (Some head) = IsFramed-some at bytes n head (framing_of head)

-- some front stands in any bytes
pub IsFront-some : (at : ℕ) (bytes : List ℕ) → (front : Front) × IsFront at bytes front
IsFront-some at bytes =
    let ends : (end : Option ℕ) × EndsAt max_head bytes end = EndsAt-some max_head bytes in
    let head : (head : Option Head) × ParsesTo bytes ends.0 head = ParsesTo-some bytes ends.0 in
    let is : (front : Front) × IsHeaded at bytes ends.0 head.0 front = IsHeaded-some at bytes ends.0 head.0 in
    (is.0, record { end = ends.0; head = head.0; ends = ends.1; parses = head.1; is = is.1 })

-- ---- all requests

past_blank-shortens : (p : Point) → length (past_blank p).ahead ≤ length p.ahead
past_blank-shortens p = omega (arith, length-drop (blank_length p.ahead) p.ahead)

abbrev AReading : List ℕ → Bool → Type 0
AReading bytes over = (requests : List Request) × (tail : Tail) × Reads bytes over requests tail

reads_step : (bytes : List ℕ) (over : Bool) (rs : List Request) (p : Point) → Begins (start bytes) rs p
    → p.closed ≡ false
    → ((ss : List Request) (q : Point) → length q.ahead < length p.ahead → Begins (start bytes) ss q
    → AReading bytes over)
    → (front : Front) → Meets p front → AReading bytes over
reads_step bytes over rs p begins opened deeper (whole r n) meets =
    let some : (0 < n) × (n ≤ length (past_blank p).ahead) = Meets-length p r n meets in
    let shorter : length (past_request p r n).ahead < length p.ahead =
    omega (arith, length-drop n (past_blank p).ahead, past_blank-shortens p, some.0, some.1) in
    deeper (rs ++ r ∷ []) (past_request p r n) shorter (Begins-more (start bytes) rs p r n begins opened meets)
reads_step bytes over rs p begins opened deeper (short due lack) meets =
    let tail : Tail = record { due = due; ending = ending_of over (past_blank p) lack } in
    let stops : Lacks over p tail = record { front = short due lack; meets = meets; is = refl } in (
      rs,
      tail,
      record {
        point = p;
        begins = begins;
        stops = subst (λ (shut : Bool). StopsBy shut over p tail) (sym opened) stops;
      },
    )

reads_at : (bytes : List ℕ) (over : Bool) (rs : List Request) (p : Point) → Begins (start bytes) rs p
    → ((ss : List Request) (q : Point) → length q.ahead < length p.ahead → Begins (start bytes) ss q
    → AReading bytes over)
    → (shut : Bool) → p.closed ≡ shut → AReading bytes over
reads_at bytes over rs p begins deeper true shut =
    let tail : Tail = record { due = false; ending = closed } in (
      rs,
      tail,
      record {
        point = p;
        begins = begins;
        stops = subst (λ (s : Bool). StopsBy s over p tail) (sym shut) refl;
      },
    )
reads_at bytes over rs p begins deeper false opened =
    let front : (front : Front) × Meets p front = IsFront-some (past_blank p).at (past_blank p).ahead in
    reads_step bytes over rs p begins opened deeper front.0 front.1

reads_by : (bytes : List ℕ) (over : Bool) (n : ℕ) (rs : List Request) (p : Point) → length p.ahead ≤ n
    → Begins (start bytes) rs p → AReading bytes over
reads_by bytes over zero rs p few begins =
    reads_at bytes over rs p begins (λ ss q less on. absurd (omega arith)) p.closed refl
reads_by bytes over (suc n) rs p few begins =
    reads_at bytes over rs p begins (λ ss q less on. reads_by bytes over n ss q (omega arith) on) p.closed refl

-- bytes have at least one reading
pub bytes_have_a_reading : BytesHaveAReading
bytes_have_a_reading bytes over = reads_by bytes over (length bytes) [] (start bytes) (omega arith) refl
