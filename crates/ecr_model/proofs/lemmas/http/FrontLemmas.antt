-- What stands at the front of bytes, and how that stays when more bytes come.
use Rattle.std.proofs.Common.{◌≡◌, ℕ, zero, suc, ◌+◌, ◌<◌, ◌≤◌, min, Bool, true, false, List, [], ◌++◌, length, take, drop, Option, Some, None, nat_lt, nat_le, if◌then◌else◌, refl, sym, ap, ◌∙◌, subst, arith, length-append, length-drop}
use Rattle.std.proofs.lemmas.Bool.{lt-ltb, le-ltb, le-leb, lt-leb, leb-true, ltb-false}
use Rattle.std.proofs.lemmas.List.{take-append-le, drop-append-le}
use Rattle.ecr_model.specs.declared.http.Head.{Head}
use Rattle.ecr_model.specs.declared.http.Framing.{Framing}
use Rattle.ecr_model.specs.declared.http.Framing.TheVariants.{Sized, Chunked}
use Rattle.ecr_model.specs.declared.http.Request.{Request}
use Rattle.ecr_model.specs.http.Framing.{max_head, max_body, ends_empty, IsEnd, HasNoEnd, EndsAt, Parses, framing_of}
pub use Rattle.ecr_model.specs.http.Fronts.{is_settled_lack, is_settled_body}
use Rattle.ecr_model.specs.declared.http.Section.TheVariants as sections
use Rattle.ecr_model.specs.http.Stream.{bad, too_long, open_, Front, whole, short, BodyFront, complete, lacks, sized_front, IsBody, with_body, IsFramed, IsHeaded, ParsesTo, IsFront}
use Rattle.ecr_model.proofs.lemmas.http.ChunkedLemmas.{IsChunked-unique, IsChunked-append, IsChunked-length}
use Rattle.ecr_model.proofs.lemmas.http.FramingLemmas.{IsEnd-append, HasNoEnd-append, IsEnd-positive, EndsAt-unique, Parses-unique}

-- it is said what stands there, whatever follows
abbrev pub is_settled : Front → Bool
is_settled (whole r n) = true
is_settled (short due lack) = is_settled_lack lack

-- ---- from what is known of the bytes to their front

-- bytes below the limit of a head in which no empty line ends are an open head
pub IsFront-no_head : (at : ℕ) (bytes : List ℕ) → HasNoEnd bytes (length bytes) → length bytes < max_head
    → IsFront at bytes (short false open_)
IsFront-no_head at bytes none_ends small = record {
  end = None;
  head = None;
  ends = λ k below. let inside : k ≤ length bytes = omega arith in none_ends k inside;
  parses = refl;
  is = rw (lt-ltb (length bytes) max_head small) refl;
}

-- where no byte is there, the front is open
pub IsFront-nil : (at : ℕ) → IsFront at [] (short false open_)
unfolding max_head ends_empty
IsFront-nil at = IsFront-no_head at [] none_ends (omega arith)
  where
    none_ends : HasNoEnd [] 0
    none_ends zero below = refl
    none_ends (suc k) below = absurd (omega arith)

-- a head without an end within its limit is too long
pub IsFront-long : (at : ℕ) (bytes : List ℕ) → HasNoEnd bytes (min (length bytes) max_head) → max_head ≤ length bytes
    → IsFront at bytes (short false (too_long sections.Head max_head))
IsFront-long at bytes none_ends long = record {
  end = None;
  head = None;
  ends = none_ends;
  parses = refl;
  is = rw (le-ltb (length bytes) max_head long) refl;
}

-- bytes up to the empty line that are no head are bad
pub IsFront-no_grammar : (at : ℕ) (bytes : List ℕ) (n : ℕ) → IsEnd max_head bytes n → Parses (take n bytes) None
    → IsFront at bytes (short false bad)
IsFront-no_grammar at bytes n ends parses =
    record { end = Some n; head = None; ends = ends; parses = parses; is = refl }

-- a head that doesn't say how its body is delimited is bad
pub IsFront-unframed : (at : ℕ) (bytes : List ℕ) (n : ℕ) (head : Head) → IsEnd max_head bytes n
    → Parses (take n bytes) (Some head) → framing_of head ≡ None → IsFront at bytes (short false bad)
IsFront-unframed at bytes n head ends parses none_framed =
    record { end = Some n; head = Some head; ends = ends; parses = parses; is = rw none_framed refl }

-- a head and the front of its body are the front of the bytes
pub IsFront-body : (at : ℕ) (bytes : List ℕ) (n : ℕ) (head : Head) (framing : Framing) (body : BodyFront)
    → IsEnd max_head bytes n → Parses (take n bytes) (Some head) → framing_of head ≡ Some framing
    → IsBody (max_body head.target) (drop n bytes) framing body → IsFront at bytes (with_body at n head body)
IsFront-body at bytes n head framing body ends parses framed stands = record {
  end = Some n;
  head = Some head;
  ends = ends;
  parses = parses;
  is = rw framed (body, stands, refl);
}

-- ---- bodies

-- bytes have at most one front as a body
pub IsBody-unique : (limit : ℕ) (bytes : List ℕ) (framing : Framing) (x y : BodyFront)
    → IsBody limit bytes framing x → IsBody limit bytes framing y → x ≡ y
IsBody-unique limit bytes (Sized size) x y a b = a ∙ sym b
IsBody-unique limit bytes Chunked x y a b = IsChunked-unique limit bytes x y a b

sized-too_long : (limit size : ℕ) (bytes : List ℕ) → nat_le size limit ≡ false
    → sized_front limit bytes size ≡ lacks (too_long sections.Body limit)
sized-too_long limit size bytes over = rw over refl

sized-complete : (limit size : ℕ) (bytes : List ℕ) → nat_le size limit ≡ true → nat_le size (length bytes) ≡ true
    → sized_front limit bytes size ≡ complete (take size bytes) size
sized-complete limit size bytes fits there = rw (fits, there) refl

sized-open : (limit size : ℕ) (bytes : List ℕ) → nat_le size limit ≡ true → nat_le size (length bytes) ≡ false
    → sized_front limit bytes size ≡ lacks open_
sized-open limit size bytes fits there = rw (fits, there) refl

-- a body of stated length within the limit is whole where its bytes are there
pub IsBody-sized : (limit size : ℕ) (bytes : List ℕ) → size ≤ limit → size ≤ length bytes
    → IsBody limit bytes (Sized size) (complete (take size bytes) size)
IsBody-sized limit size bytes fits there =
    sym (sized-complete limit size bytes (le-leb size limit fits) (le-leb size (length bytes) there))

-- a body of stated length within the limit is open where a byte of it isn't there yet
pub IsBody-sized_open : (limit size : ℕ) (bytes : List ℕ) → size ≤ limit → length bytes < size
    → IsBody limit bytes (Sized size) (lacks open_)
IsBody-sized_open limit size bytes fits few =
    sym (sized-open limit size bytes (le-leb size limit fits) (lt-leb size (length bytes) few))

-- a body whose stated length passes the limit is too long
pub IsBody-sized_long : (limit size : ℕ) (bytes : List ℕ) → limit < size
    → IsBody limit bytes (Sized size) (lacks (too_long sections.Body limit))
IsBody-sized_long limit size bytes over = sym (sized-too_long limit size bytes (lt-leb size limit over))

sized-append : (limit size : ℕ) (bytes more : List ℕ) (fits there : Bool) → nat_le size limit ≡ fits
    → nat_le size (length bytes) ≡ there → is_settled_body (sized_front limit bytes size) ≡ true
    → sized_front limit bytes size ≡ sized_front limit (bytes ++ more) size
sized-append limit size bytes more false there fit come settled =
    sized-too_long limit size bytes fit ∙ sym (sized-too_long limit size (bytes ++ more) fit)
sized-append limit size bytes more true true fit come settled =
    let within : size ≤ length bytes = leb-true size (length bytes) come in
    let longer : nat_le size (length (bytes ++ more)) ≡ true =
    le-leb size (length (bytes ++ more)) (omega (arith, length-append bytes more)) in
    sized-complete limit size bytes fit come
    ∙ ap (λ (content : List ℕ). complete content size) (sym (take-append-le size bytes more within))
    ∙ sym (sized-complete limit size (bytes ++ more) fit longer)
sized-append limit size bytes more true false fit come settled =
    let none : is_settled_body (lacks open_) ≡ true =
    sym (ap is_settled_body (sized-open limit size bytes fit come)) ∙ settled in
    absurd (cc)

-- a settled front of a body stays where more bytes follow
pub IsBody-append : (limit : ℕ) (bytes more : List ℕ) (framing : Framing) (body : BodyFront)
    → is_settled_body body ≡ true
    → IsBody limit bytes framing body → IsBody limit (bytes ++ more) framing body
IsBody-append limit bytes more (Sized size) body settled is =
    is ∙ sized-append limit size bytes more (nat_le size limit) (nat_le size (length bytes)) refl refl
    (sym (ap is_settled_body is) ∙ settled)
IsBody-append limit bytes more Chunked body settled is = IsChunked-append limit bytes more body settled is

sized-length : (limit size : ℕ) (bytes content : List ℕ) (n : ℕ) (fits there : Bool) → nat_le size limit ≡ fits
    → nat_le size (length bytes) ≡ there → complete content n ≡ sized_front limit bytes size → n ≤ length bytes
sized-length limit size bytes content n false there fit come is =
    let clash : complete content n ≡ lacks (too_long sections.Body limit) = is ∙ sized-too_long limit size bytes fit in
    absurd (cc)
sized-length limit size bytes content n true true fit come is =
    let same : complete content n ≡ complete (take size bytes) size = is ∙ sized-complete limit size bytes fit come in
    let lengths : n ≡ size = cc in
    let within : size ≤ length bytes = leb-true size (length bytes) come in
    omega arith
sized-length limit size bytes content n true false fit come is =
    let clash : complete content n ≡ lacks open_ = is ∙ sized-open limit size bytes fit come in absurd (cc)

-- a whole body takes no more bytes than there are
pub IsBody-length : (limit : ℕ) (bytes : List ℕ) (framing : Framing) (content : List ℕ) (n : ℕ)
    → IsBody limit bytes framing (complete content n) → n ≤ length bytes
IsBody-length limit bytes (Sized size) content n is =
    sized-length limit size bytes content n (nat_le size limit) (nat_le size (length bytes)) refl refl is
IsBody-length limit bytes Chunked content n is = IsChunked-length limit bytes content n is

-- ---- one front

IsFramed-unique : (at : ℕ) (bytes : List ℕ) (n : ℕ) (head : Head) (framing : Option Framing) (f g : Front)
    → IsFramed at bytes n head framing f → IsFramed at bytes n head framing g → f ≡ g
IsFramed-unique at bytes n head None f g a b = a ∙ sym b
IsFramed-unique at bytes n head (Some framing) f g a b =
    a.2 ∙ ap (with_body at n head) (IsBody-unique (max_body head.target) (drop n bytes) framing a.0 b.0 a.1 b.1)
    ∙ sym b.2

IsHeaded-unique : (at : ℕ) (bytes : List ℕ) (end : Option ℕ) (head : Option Head) (f g : Front)
    → IsHeaded at bytes end head f → IsHeaded at bytes end head g → f ≡ g
IsHeaded-unique at bytes None head f g a b = a ∙ sym b
IsHeaded-unique at bytes (Some n) None f g a b = a ∙ sym b
IsHeaded-unique at bytes (Some n) (Some head) f g a b = IsFramed-unique at bytes n head (framing_of head) f g a b

ParsesTo-unique : (bytes : List ℕ) (end : Option ℕ) (a b : Option Head) → ParsesTo bytes end a → ParsesTo bytes end b
    → a ≡ b
ParsesTo-unique bytes None a b x y = x ∙ sym y
ParsesTo-unique bytes (Some n) a b x y = Parses-unique (take n bytes) a b x y

-- bytes have at most one front
pub IsFront-unique : (at : ℕ) (bytes : List ℕ) (f g : Front) → IsFront at bytes f → IsFront at bytes g → f ≡ g
IsFront-unique at bytes f g a b =
    let ends : b.end ≡ a.end = EndsAt-unique max_head bytes b.end a.end b.ends a.ends in
    let heads : b.head ≡ a.head = ParsesTo-unique bytes a.end b.head a.head
    (subst (λ (e : Option ℕ). ParsesTo bytes e b.head) ends b.parses) a.parses in
    IsHeaded-unique at bytes a.end a.head f g a.is
    (subst (λ (h : Option Head). IsHeaded at bytes a.end h g) heads
    (subst (λ (e : Option ℕ). IsHeaded at bytes e b.head g) ends b.is))

-- ---- how long a request is

framed_length : (at : ℕ) (bytes : List ℕ) (end : ℕ) (head : Head) (framing : Option Framing) (r : Request) (n : ℕ)
    → IsEnd max_head bytes end → IsFramed at bytes end head framing (whole r n) → (0 < n) × (n ≤ length bytes)
framed_length at bytes end head None r n ends is = absurd (cc)
framed_length at bytes end head (Some framing) r n ends is = by_body is.0 is.1 is.2
  where
    by_body : (body : BodyFront) → IsBody (max_body head.target) (drop end bytes) framing body
        → whole r n ≡ with_body at end head body → (0 < n) × (n ≤ length bytes)
    by_body (complete content size) stands same =
        let within : size ≤ length (drop end bytes) =
        IsBody-length (max_body head.target) (drop end bytes) framing content size stands in
        let some : 0 < end = IsEnd-positive max_head bytes end ends in
        let total : n ≡ end + size = cc in
        (omega arith, omega (arith, ends.within, length-drop end bytes))
    by_body (lacks lack) stands same = absurd (cc)

headed_length : (at : ℕ) (bytes : List ℕ) (end : Option ℕ) (head : Option Head) (r : Request) (n : ℕ)
    → EndsAt max_head bytes end → IsHeaded at bytes end head (whole r n) → (0 < n) × (n ≤ length bytes)
headed_length at bytes None head r n ends is = absurd (cc)
headed_length at bytes (Some end) None r n ends is = absurd (cc)
headed_length at bytes (Some end) (Some head) r n ends is =
    framed_length at bytes end head (framing_of head) r n ends is

-- a whole request takes at least one byte, and no more than there are
pub IsFront-whole_length : (at : ℕ) (bytes : List ℕ) (r : Request) (n : ℕ) → IsFront at bytes (whole r n)
    → (0 < n) × (n ≤ length bytes)
IsFront-whole_length at bytes r n front = headed_length at bytes front.end front.head r n front.ends front.is

-- ---- more bytes

-- the first n bytes are the same head where more bytes follow
pub Parses-append : (bytes more : List ℕ) (n : ℕ) (head : Option Head) → n ≤ length bytes
    → Parses (take n bytes) head → Parses (take n (bytes ++ more)) head
Parses-append bytes more n head within parses = rw (take-append-le n bytes more within) parses

settled_body : (at n : ℕ) (head : Head) (body : BodyFront) → is_settled (with_body at n head body) ≡ true
    → is_settled_body body ≡ true
settled_body at n head (complete content size) settled = refl
settled_body at n head (lacks lack) settled = settled

framed_append : (at : ℕ) (bytes more : List ℕ) (n : ℕ) (head : Head) (framing : Option Framing) (front : Front)
    → n ≤ length bytes → is_settled front ≡ true → IsFramed at bytes n head framing front
    → IsFramed at (bytes ++ more) n head framing front
framed_append at bytes more n head None front within settled is = is
framed_append at bytes more n head (Some framing) front within settled is =
    let done : is_settled_body is.0 ≡ true = settled_body at n head is.0 (sym (ap is_settled is.2) ∙ settled) in
    let longer : drop n (bytes ++ more) ≡ drop n bytes ++ more = drop-append-le n bytes more within in (
      is.0,
      rw longer (IsBody-append (max_body head.target) (drop n bytes) more framing is.0 done is.1),
      is.2,
    )

long_if : (less : Bool) (front : Front) → is_settled front ≡ true
    → front ≡ short false (if less then open_ else too_long sections.Head max_head) → less ≡ false
long_if true front settled is =
    let none : is_settled (short false open_) ≡ true = sym (ap is_settled is) ∙ settled in absurd (cc)
long_if false front settled is = refl

headed_append : (at : ℕ) (bytes more : List ℕ) (end : Option ℕ) (head : Option Head) (front : Front)
    → EndsAt max_head bytes end → ParsesTo bytes end head → is_settled front ≡ true → IsHeaded at bytes end head front
    → IsFront at (bytes ++ more) front
headed_append at bytes more None head front ends parses settled is =
    let over : nat_lt (length bytes) max_head ≡ false = long_if (nat_lt (length bytes) max_head) front settled is in
    let long : max_head ≤ length bytes = ltb-false (length bytes) max_head over in
    let total : max_head ≤ length (bytes ++ more) = omega (arith, length-append bytes more) in
    let most : min (length bytes) max_head ≡ max_head = omega arith in
    let all : min (length (bytes ++ more)) max_head ≡ max_head = omega arith in
    let same : short false (too_long sections.Head max_head) ≡ front = sym (is ∙ rw over refl) in
    subst (λ (f : Front). IsFront at (bytes ++ more) f) same
    (IsFront-long at (bytes ++ more) (rw all (HasNoEnd-append bytes more max_head long (rw most at ends))) total)
headed_append at bytes more (Some n) None front ends parses settled is = record {
  end = Some n;
  head = None;
  ends = IsEnd-append max_head bytes more n ends;
  parses = Parses-append bytes more n None ends.within parses;
  is = is;
}
headed_append at bytes more (Some n) (Some head) front ends parses settled is = record {
  end = Some n;
  head = Some head;
  ends = IsEnd-append max_head bytes more n ends;
  parses = Parses-append bytes more n (Some head) ends.within parses;
  is = framed_append at bytes more n head (framing_of head) front ends.within settled is;
}

-- a settled front stays where more bytes follow
pub IsFront-append : (at : ℕ) (bytes more : List ℕ) (front : Front) → is_settled front ≡ true → IsFront at bytes front
    → IsFront at (bytes ++ more) front
IsFront-append at bytes more front settled is =
    headed_append at bytes more is.end is.head front is.ends is.parses settled is.is
