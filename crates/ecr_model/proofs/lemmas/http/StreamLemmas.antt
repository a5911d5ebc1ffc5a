-- Points of a stream, the requests between them, and what follows them.
use Rattle.std.proofs.Common.{◌≡◌, ℕ, zero, suc, ◌+◌, ◌<◌, ◌≤◌, Bool, true, false, cond, ◌==◌, List, [], ◌∷◌, ◌++◌, length, drop, Some, None, if◌then◌else◌, refl, sym, ap, ◌∙◌, subst, ap₂, ⊎_elim, arith, length-drop, append-nil}
use Rattle.std.proofs.lemmas.Bool.{cond-false, ne_eqb, cases_lt}
use Rattle.std.proofs.lemmas.List.{drop-append-le, drop_all}
use Rattle.std.proofs.lemmas.List.Sums.{prefix_len-le-length}
use Rattle.std.proofs.lemmas.List.Folds.{prefix_len-append}
use Rattle.ecr_model.specs.declared.http.Request.{Request}
use Rattle.ecr_model.specs.http.Stream.{is_blank, blank_length, Lack, bad, too_long, open_, Front, whole, short, IsFront, Point, start, grown, past_blank, Meets, closes, past_request, Begins, Ending, ended, truncated, Tail, ending_of, tail_of, Lacks, StopsBy, Stops}
use Rattle.ecr_model.specs.laws.StreamLaws.{is_last, RequestsAreDetermined, AnEndStays, ACutChangesNothing}
use Rattle.ecr_model.proofs.lemmas.http.FrontLemmas.{is_settled, is_settled_lack, IsFront-nil, IsFront-unique, IsFront-whole_length, IsFront-append}

-- ---- blank bytes

-- there are no more blank bytes at the front than bytes
pub blank_length-le : (bytes : List ℕ) → blank_length bytes ≤ length bytes
blank_length-le bytes = prefix_len-le-length is_blank bytes

-- where another byte follows the blank ones, more bytes behind don't change their number
pub blank_length-append : (bytes others : List ℕ) → blank_length bytes < length bytes
    → blank_length (bytes ++ others) ≡ blank_length bytes
blank_length-append bytes others before =
    prefix_len-append is_blank bytes others
    ∙ cond-false _ _ _ (ne_eqb (blank_length bytes) (length bytes) (λ same. omega arith))

-- some of the blank bytes, and those behind them, are all of them
pub blank_length-drop : (bytes : List ℕ) (s : ℕ) → s ≤ blank_length bytes
    → s + blank_length (drop s bytes) ≡ blank_length bytes
blank_length-drop bytes zero before = omega arith
blank_length-drop [] (suc s) before = absurd (omega arith)
blank_length-drop (b ∷ bytes) (suc s) before =
    under (is_blank b) before (λ room. blank_length-drop bytes s room)
  where
    under : (yes : Bool) → suc s ≤ cond yes (1 + blank_length bytes) 0
        → (s ≤ blank_length bytes → s + blank_length (drop s bytes) ≡ blank_length bytes)
        → suc s + blank_length (drop s bytes) ≡ cond yes (1 + blank_length bytes) 0
    under true room step =
        let here : s ≤ blank_length bytes = omega arith in
        let rest : s + blank_length (drop s bytes) ≡ blank_length bytes = step here in
        omega arith
    under false room step = absurd (omega arith)

-- behind the blank bytes no blank one comes
pub blank_length-skipped : (bytes : List ℕ) → blank_length (drop (blank_length bytes) bytes) ≡ 0
blank_length-skipped bytes =
    let all : blank_length bytes + blank_length (drop (blank_length bytes) bytes) ≡ blank_length bytes =
    blank_length-drop bytes (blank_length bytes) (omega arith) in
    omega arith

-- ---- points

-- where it is said what comes next, a byte follows the blank ones
pub Meets-some : (p : Point) (front : Front) → is_settled front ≡ true → Meets p front
    → blank_length p.ahead < length p.ahead
Meets-some p front settled meets = ⊎_elim (λ before. before) (λ after. absurd (empty after))
    (cases_lt (blank_length p.ahead) (length p.ahead))
  where
    empty : length p.ahead ≤ blank_length p.ahead → ⊥
    empty after =
        let nothing : drop (blank_length p.ahead) p.ahead ≡ [] = drop_all (blank_length p.ahead) p.ahead after in
        let clash : front ≡ short false open_ = IsFront-unique (past_blank p).at [] front (short false open_)
        (subst (λ (x : List ℕ). IsFront (past_blank p).at x front) nothing meets) (IsFront-nil (past_blank p).at) in
        let none : is_settled (short false open_) ≡ true = sym (ap is_settled clash) ∙ settled in
        cc

abbrev point : ℕ → List ℕ → Bool → Point
point at ahead shut = record { at = at; ahead = ahead; closed = shut }

-- a point by its parts
point_by : (a b : ℕ) (x y : List ℕ) (c : Bool) → a ≡ b → x ≡ y
    → point a x c ≡ point b y c
point_by a b x y c places bytes =
    ap₂ (λ (k : ℕ) (l : List ℕ). point k l c) places bytes

-- blank bytes that a byte follows are passed alike where more bytes come
pub past_blank-grown : (p : Point) (others : List ℕ) → blank_length p.ahead < length p.ahead
    → past_blank (grown p others) ≡ grown (past_blank p) others
past_blank-grown p others before =
    let blanks : blank_length (p.ahead ++ others) ≡ blank_length p.ahead = blank_length-append p.ahead others before in
    let all : blank_length p.ahead ≤ length p.ahead = omega arith in
    point_by (p.at + blank_length (p.ahead ++ others)) (p.at + blank_length p.ahead)
    (drop (blank_length (p.ahead ++ others)) (p.ahead ++ others))
    (drop (blank_length p.ahead) p.ahead ++ others) p.closed
    (ap (λ (k : ℕ). p.at + k) blanks)
    (ap (λ (k : ℕ). drop k (p.ahead ++ others)) blanks ∙ drop-append-le (blank_length p.ahead) p.ahead others all)

-- a settled front that comes next stays where more bytes come
pub Meets-append : (p : Point) (others : List ℕ) (front : Front) → is_settled front ≡ true → Meets p front
    → Meets (grown p others) front
Meets-append p others front settled meets =
    subst (λ (q : Point). IsFront q.at q.ahead front)
    (sym (past_blank-grown p others (Meets-some p front settled meets)))
    (IsFront-append (past_blank p).at (past_blank p).ahead others front settled meets)

-- at most one front comes next
pub Meets-unique : (p : Point) (f g : Front) → Meets p f → Meets p g → f ≡ g
Meets-unique p f g a b = IsFront-unique (past_blank p).at (past_blank p).ahead f g a b

-- a whole request that comes next takes at least one byte, and no more than there are
pub Meets-length : (p : Point) (r : Request) (n : ℕ) → Meets p (whole r n) → (0 < n)
    × (n ≤ length (past_blank p).ahead)
Meets-length p r n meets = IsFront-whole_length (past_blank p).at (past_blank p).ahead r n meets

past_request-grown : (p : Point) (others : List ℕ) (r : Request) (n : ℕ) → Meets p (whole r n)
    → past_request (grown p others) r n ≡ grown (past_request p r n) others
past_request-grown p others r n meets =
    let same : past_blank (grown p others) ≡ grown (past_blank p) others =
    past_blank-grown p others (Meets-some p (whole r n) refl meets) in
    ap (λ (q : Point). point (q.at + n) (drop n q.ahead) (closes r)) same
    ∙ ap (λ (l : List ℕ). point ((past_blank p).at + n) l (closes r))
    (drop-append-le n (past_blank p).ahead others (Meets-length p r n meets).1)

-- the bytes used and those ahead are as many behind the blank bytes as before them
pub past_blank-length : (p : Point) → (past_blank p).at + length (past_blank p).ahead ≡ p.at + length p.ahead
past_blank-length p =
    let within : blank_length p.ahead ≤ length p.ahead = blank_length-le p.ahead in
    omega (arith, length-drop (blank_length p.ahead) p.ahead)

-- ---- several requests

-- the same requests stand between where more bytes follow
pub Begins-append : (p : Point) (others : List ℕ) (rs : List Request) (q : Point) → Begins p rs q
    → Begins (grown p others) rs (grown q others)
Begins-append p others [] q begins = ap (λ (x : Point). grown x others) begins
Begins-append p others (r ∷ rs) q begins = (
  begins.0,
  begins.1,
  Meets-append p others (whole r begins.1) refl begins.2,
  subst (λ (x : Point). Begins x rs (grown q others)) (sym (past_request-grown p others r begins.1 begins.2))
      (Begins-append (past_request p r begins.1) others rs q begins.3),
)

-- requests and the one that comes next are one request more
pub Begins-more : (p : Point) (rs : List Request) (q : Point) (r : Request) (n : ℕ) → Begins p rs q → q.closed ≡ false
    → Meets q (whole r n) → Begins p (rs ++ r ∷ []) (past_request q r n)
Begins-more p [] q r n begins opened meets =
    subst (λ (x : Point). Begins x (r ∷ []) (past_request q r n)) begins (opened, n, meets, refl)
Begins-more p (s ∷ rs) q r n begins opened meets = (
  begins.0,
  begins.1,
  begins.2,
  Begins-more (past_request p s begins.1) rs q r n begins.3 opened meets,
)

-- the bytes used and those that come are as many after requests as before them
pub Begins-length : (p : Point) (rs : List Request) (q : Point) → Begins p rs q
    → q.at + length q.ahead ≡ p.at + length p.ahead
Begins-length p [] q begins = ap (λ (x : Point). x.at + length x.ahead) begins
Begins-length p (r ∷ rs) q begins =
    let some : (0 < begins.1) × (begins.1 ≤ length (past_blank p).ahead) = Meets-length p r begins.1 begins.2 in
    let step : q.at + length q.ahead ≡ (past_blank p).at + begins.1 + length (drop begins.1 (past_blank p).ahead) =
    Begins-length (past_request p r begins.1) rs q begins.3 in
    omega (arith, length-drop begins.1 (past_blank p).ahead, past_blank-length p)

-- ---- one reading

Lacks-unique : (over : Bool) (p : Point) (a b : Tail) → Lacks over p a → Lacks over p b → a ≡ b
Lacks-unique over p a b x y =
    let same : x.front ≡ y.front = Meets-unique p x.front y.front x.meets y.meets in
    let tails : Some a ≡ Some b = sym x.is ∙ ap (tail_of over (past_blank p)) same ∙ y.is in
    cc

StopsBy-unique : (shut over : Bool) (p : Point) (a b : Tail) → StopsBy shut over p a → StopsBy shut over p b → a ≡ b
StopsBy-unique true over p a b x y = x ∙ sym y
StopsBy-unique false over p a b x y = Lacks-unique over p a b x y

-- requests stop in one way at most
pub Stops-unique : (over : Bool) (p : Point) (a b : Tail) → Stops over p a → Stops over p b → a ≡ b
Stops-unique over p a b x y = StopsBy-unique p.closed over p a b x y

-- no request stands where the requests stop
Stops_not_whole : (over : Bool) (p : Point) (tail : Tail) (r : Request) (n : ℕ) → Stops over p tail → p.closed ≡ false
    → Meets p (whole r n) → ⊥
Stops_not_whole over p tail r n stops opened meets =
    let lacks : Lacks over p tail = subst (λ (shut : Bool). StopsBy shut over p tail) opened stops in
    let same : lacks.front ≡ whole r n = Meets-unique p lacks.front (whole r n) lacks.meets meets in
    let none : None ≡ Some tail = sym (ap (tail_of over (past_blank p)) same) ∙ lacks.is in
    cc

-- the same request comes next
same_next : (p : Point) (r s : Request) (n m : ℕ) → Meets p (whole r n) → Meets p (whole s m) → (s ≡ r) × (m ≡ n)
same_next p r s n m a b =
    let same : whole r n ≡ whole s m = Meets-unique p (whole r n) (whole s m) a b in (cc, cc)

-- requests that were found stand at the front of all
pub Begins-front : (p : Point) (over : Bool) (rs ss : List Request) (q w : Point) (tail : Tail) → Begins p rs q
    → Begins p ss w → Stops over w tail → (later : List Request) × (ss ≡ rs ++ later) × Begins q later w
Begins-front p over [] ss q w tail begins others stops =
    (ss, refl, subst (λ (x : Point). Begins x ss w) (sym begins) others)
Begins-front p over (r ∷ rs) [] q w tail begins others stops =
    absurd (Stops_not_whole over p tail r begins.1
    (subst (λ (x : Point). Stops over x tail) others stops) begins.0 begins.2)
Begins-front p over (r ∷ rs) (s ∷ ss) q w tail begins others stops =
    let same : (s ≡ r) × (others.1 ≡ begins.1) = same_next p r s begins.1 others.1 begins.2 others.2 in
    let behind : past_request p s others.1 ≡ past_request p r begins.1 =
    ap₂ (λ (x : Request) (k : ℕ). past_request p x k) same.0 same.1 in
    let rest : (later : List Request) × (ss ≡ rs ++ later) × Begins q later w =
    Begins-front (past_request p r begins.1) over rs ss q w tail begins.3
    (subst (λ (x : Point). Begins x ss w) behind others.3) stops in
    (rest.0, ap₂ ◌∷◌ same.0 rest.1, rest.2)

-- where the requests stop, none follows
none_later : (p : Point) (over : Bool) (later : List Request) (q : Point) (tail : Tail) → Begins p later q
    → Stops over p tail → (later ≡ []) × (q ≡ p)
none_later p over [] q tail begins stops = (refl, begins)
none_later p over (r ∷ rs) q tail begins stops =
    absurd (Stops_not_whole over p tail r begins.1 stops begins.0 begins.2)

-- bytes have at most one reading
pub Reads-unique : RequestsAreDetermined
Reads-unique bytes over rs ss t u x y =
    let front : (later : List Request) × (ss ≡ rs ++ later) × Begins x.point later y.point =
    Begins-front (start bytes) over rs ss x.point y.point u x.begins y.begins y.stops in
    let none : (front.0 ≡ []) × (y.point ≡ x.point) = none_later x.point over front.0 y.point t front.2 x.stops in
    let all : ss ≡ rs = front.1 ∙ ap (λ (l : List Request). rs ++ l) none.0 ∙ append-nil rs in (
      sym all,
      Stops-unique over x.point t u x.stops (subst (λ (p : Point). Stops over p u) none.1 y.stops),
    )

-- ---- what the bytes show is last stays last

last_settled : (over : Bool) (p : Point) (lack : Lack) → is_last (ending_of over p lack) ≡ true
    → is_settled_lack lack ≡ true
last_settled over p bad last = refl
last_settled over p (too_long section limit) last = refl
last_settled false p open_ last = absurd (cc)
last_settled true p open_ last = absurd (never (length p.ahead == 0) last)
  where
    never : (empty : Bool) → is_last (if empty then ended else truncated p.at) ≡ true → ⊥
    never true same = cc
    never false same = cc

same_ending : (over late : Bool) (p : Point) (others : List ℕ) (lack : Lack) → is_settled_lack lack ≡ true
    → ending_of late (grown p others) lack ≡ ending_of over p lack
same_ending over late p others bad settled = refl
same_ending over late p others (too_long section limit) settled = refl
same_ending over late p others open_ settled = absurd (cc)

same_tail : (over late : Bool) (p : Point) (others : List ℕ) (due : Bool) (lack : Lack) → is_settled_lack lack ≡ true
    → past_blank (grown p others) ≡ grown (past_blank p) others
    → tail_of late (past_blank (grown p others)) (short due lack) ≡ tail_of over (past_blank p) (short due lack)
same_tail over late p others due lack settled blanks =
    ap (λ (q : Point). tail_of late q (short due lack)) blanks
    ∙ ap (λ (e : Ending). Some (record { due = due; ending = e }))
    (same_ending over late (past_blank p) others lack settled)

lacks_stay : (over late : Bool) (p : Point) (others : List ℕ) (tail : Tail) (front : Front)
    → is_last tail.ending ≡ true
    → Meets p front → tail_of over (past_blank p) front ≡ Some tail → Lacks late (grown p others) tail
lacks_stay over late p others tail (whole r n) last meets is = absurd (cc)
lacks_stay over late p others tail (short due lack) last meets is =
    let same : record { due = due; ending = ending_of over (past_blank p) lack } ≡ tail = cc in
    let settled : is_settled_lack lack ≡ true =
    last_settled over (past_blank p) lack (ap (λ (t : Tail). is_last t.ending) same ∙ last) in
    let blanks : past_blank (grown p others) ≡ grown (past_blank p) others =
    past_blank-grown p others (Meets-some p (short due lack) settled meets) in
    record {
      front = short due lack;
      meets = Meets-append p others (short due lack) settled meets;
      is = same_tail over late p others due lack settled blanks ∙ is;
    }

stops_stay : (shut over late : Bool) (p : Point) (others : List ℕ) (tail : Tail) → is_last tail.ending ≡ true
    → StopsBy shut over p tail → StopsBy shut late (grown p others) tail
stops_stay true over late p others tail last stops = stops
stops_stay false over late p others tail last stops =
    lacks_stay over late p others tail stops.front last stops.meets stops.is

-- where the bytes show the last that counts, they show the same whatever follows
pub Reads-last : AnEndStays
Reads-last bytes others over late rs tail last reads = record {
  point = grown reads.point others;
  begins = Begins-append (start bytes) others rs reads.point reads.begins;
  stops = stops_stay reads.point.closed over late reads.point others tail last reads.stops;
}

-- ---- a part of the bytes

-- a part of the bytes has the first requests of all of them
pub a_cut_changes_nothing : ACutChangesNothing
a_cut_changes_nothing bytes others over late rs all tail last reads whole_reads =
    let front : (later : List Request) × (all ≡ rs ++ later)
    × Begins (grown reads.point others) later whole_reads.point =
    Begins-front (start (bytes ++ others)) late rs all (grown reads.point others) whole_reads.point last
    (Begins-append (start bytes) others rs reads.point reads.begins) whole_reads.begins whole_reads.stops in
    (front.0, front.1)
