-- What stands at the front of the bytes, by what stands behind a head.
use Rattle.std.proofs.Common.{Vec, Global, ◌≡◌, ℕ, ◌+◌, ◌<◌, ◌≤◌, ◌==◌, ◌&&◌, ⊎_elim, codes, nat_lt, Bool, true, false, List, ◌++◌, length, take, drop, Option, Some, refl, sym, ap, ◌∙◌, subst, arith, length-append, length-drop, Result, Ok, Err}
use Rattle.std.proofs.lemmas.Bool.{lt-leb, cases_lt}
use Rattle.std.specs.Option.{option_map_or}
use Rattle.std.proofs.lemmas.List.{drop-append-le}
use Rattle.std.specs.Io.KnownBytes.{Appends}
use Rattle.ecr_model.specs.declared.http.Framing.{Framing}
use Rattle.ecr_model.specs.declared.http.Framing.TheVariants.{Sized, Chunked}
use Rattle.ecr_model.specs.http.Fields.{first_says}
use Rattle.ecr_model.specs.declared.http.Head.{Head}
use Rattle.ecr_model.specs.declared.http.Request.{Request}
use Rattle.ecr_model.specs.http.Framing.{max_head, max_body, IsEnd, Parses, framing_of, is_sent, waits}
use Rattle.ecr_model.specs.http.Replies.{interim}
use Rattle.ecr_model.specs.sessions.Sessions.{max_read, is_waiting}
use Rattle.ecr_model.specs.declared.http.Section.TheVariants as sections
use Rattle.ecr_model.specs.http.Stream.{blank_length, Lack, too_long, BodyFront, complete, lacks, IsBody, with_body, whole, short, IsFront, grown, request_of}
use Rattle.ecr_model.proofs.lemmas.http.FramingLemmas.{IsEnd-append, IsEnd-positive}
use Rattle.ecr_model.proofs.lemmas.http.FrontLemmas.{Parses-append, IsBody-length, IsBody-sized_long, IsFront-body, IsFront-whole_length}
use Rattle.ecr_model.proofs.lemmas.http.StreamLemmas.{blank_length-append}
use Rattle.ecr_http.specs.Bodies.{FitsLimit, HasBody, LacksBody}
use Rattle.ecr_http.specs.Events.{point_of, HasHead, Behind, TakesRequest}
use Rattle.ecr_http.specs.NextHeads.{IsReady, IsRead}
use Rattle.ecr_http.specs.declared.intake.Intake.{Intake}
use Rattle.ecr_http.proofs.BodyLemmas.{rest_of}
use Rattle.ecr_http.proofs.NextHeadLemmas.{HasNoEnd-zero, drop-drop}
use Rattle.ecr_http.specs.declared.fault.Fault.{Fault}
use Rattle.ecr_http.proofs.FaultLemmas.{IsFault-weaker}
use Rattle.ecr_http.proofs.SettledLemmas.{Settled, Settled-read, AwaitsBody-head, MayTell-due}
use Rattle.ecr_http.proofs.EventLemmas.{TakesRequest-behind}

and_false : (b : Bool) → (b && false) ≡ false
and_false true = refl
and_false false = refl

-- a body that is too long isn't waited for
is_sent_over : (limit size : ℕ) → limit < size → is_sent limit (Sized size) ≡ false
is_sent_over limit size over = rw (lt-leb size limit over) (and_false (nat_lt 0 size))

not_le : (limit size : ℕ) → (size ≤ limit → ⊥) → limit < size
not_le limit size over = ⊎_elim (λ (less : limit < size). less) (λ (most : size ≤ limit). absurd (over most))
    (cases_lt limit size)

waits_over : (head : Head) (size : ℕ) → framing_of head ≡ Some (Sized size) → max_body head.target < size
    → waits head ≡ false
unfolding waits
waits_over head size framed over =
    let sent : option_map_or (is_sent (max_body head.target)) (framing_of head) false ≡ false =
    rw framed (is_sent_over (max_body head.target) size over) in
    rw sent (and_false (head.minor == 1 && first_says (codes "expect") (codes "100-continue") head.fields))

-- a head whose body is too long
pub IsFront-over : (at : ℕ) (bytes : List ℕ) (count : ℕ) (head : Head) (framing : Framing) → IsEnd max_head bytes count
    → Parses (take count bytes) (Some head) → framing_of head ≡ Some framing
    → (FitsLimit framing (max_body head.target) → ⊥)
    → IsFront at bytes (short false (too_long sections.Body (max_body head.target)))
IsFront-over at bytes count head (Sized size) ends parses framed over =
    let beyond : max_body head.target < size = not_le (max_body head.target) size over in
    subst (λ (due : Bool). IsFront at bytes (short due (too_long sections.Body (max_body head.target))))
    (waits_over head size framed beyond)
    (IsFront-body at bytes count head (Sized size) (lacks (too_long sections.Body (max_body head.target))) ends
    parses framed
    (IsBody-sized_long (max_body head.target) size (drop count bytes) beyond))
IsFront-over at bytes count head Chunked ends parses framed over = absurd (over tt)

-- bytes that don't begin with a blank one don't when more come
no_blank-append : (bytes others : List ℕ) → 0 < length bytes → blank_length bytes ≡ 0
    → blank_length (bytes ++ others) ≡ 0
no_blank-append bytes others some none = blank_length-append bytes others (omega arith) ∙ none

-- the request behind a head was read, or there is a fault in its place
pub TakesRequest-head : (before held told : Option (List ℕ)) (old : Intake) (mid : Option (List ℕ)) (lead : Intake)
    (after : Option (List ℕ)) (now : Intake) (count : ℕ) (head : Head) (result : Result Request Fault)
    → IsRead before old mid lead → blank_length lead.buffer ≡ 0
    → IsEnd max_head lead.buffer count → Parses (take count lead.buffer) (Some head)
    → Behind mid lead after now (waits head) result
    → Appends held told (interim (waits head))
    → TakesRequest before held old after told now result
TakesRequest-head before held told old mid lead after now count head result r no_blank ends parses b says =
    let within : count ≤ length lead.buffer = ends.within in
    let some : 0 < count = IsEnd-positive max_head lead.buffer count ends in
    let none : blank_length (lead.buffer ++ b.got) ≡ 0 = no_blank-append lead.buffer b.got (omega arith) no_blank in
    let p = grown (point_of old false) (r.got ++ b.got) in
    let s : Settled p lead.at (lead.buffer ++ b.got) = Settled-read before old mid lead b.got r none in
    TakesRequest-behind before held old mid lead after told now (waits head) result r b none says
    (MayTell-due p (waits head) (λ waiting.
    AwaitsBody-head p lead.at (lead.buffer ++ b.got) count head s
    (IsEnd-append max_head lead.buffer b.got count ends)
    (Parses-append lead.buffer b.got count (Some head) within parses) waiting))

-- the reader behind the request
abbrev pub finished : ℕ → ℕ → Intake → Intake
finished count size now = record now { at = now.at + (count + size); scanned = 0 }

-- what stands at the front, by what stands behind the head
front_of_body : (lead : Intake) (count : ℕ) (head : Head) (framing : Framing) (limit : ℕ) (got : List ℕ)
    (body : BodyFront)
    → HasHead lead.buffer count head framing limit → IsBody limit (drop count lead.buffer ++ got) framing body
    → IsFront lead.at (lead.buffer ++ got) (with_body lead.at count head body)
front_of_body lead count head framing limit got body h stands =
    let within : count ≤ length lead.buffer = h.ends.within in
    let behind : drop count (lead.buffer ++ got) ≡ drop count lead.buffer ++ got =
    drop-append-le count lead.buffer got within in
    IsFront-body lead.at (lead.buffer ++ got) count head framing body
    (IsEnd-append max_head lead.buffer got count h.ends)
    (Parses-append lead.buffer got count (Some head) within h.parses) h.framed
    (rw behind (subst (λ (l : ℕ). IsBody l (drop count lead.buffer ++ got) framing body) h.limit_is stands))

-- a body is no longer than what was read
pub taken-small : (left : Option (List ℕ)) (lead : Intake) (after : Option (List ℕ)) (now : Intake) (count : ℕ)
    (framing : Framing) (limit : ℕ)
    (rest : List ℕ) (body : Vec ℕ Global) (size : ℕ) → rest ≡ drop count lead.buffer → IsReady lead
    → HasBody limit framing left (rest_of rest lead) after now (record { body = body; size = size }) → (size ≤ max_read)
    × (now.at ≡ lead.at) × (lead.at ≤ max_read)
taken-small left lead after now count framing limit rest body size is ready b =
    let within : size ≤ length (rest ++ b.come.got) =
    IsBody-length limit (rest ++ b.come.got) framing body.items size b.stands in
    let counted = b.come.counted in
    let spent = b.come.spent in
    let placed = ready.placed in
    let few : length rest ≡ length (drop count lead.buffer) = ap length is in (
      omega (arith, length-append rest b.come.got, length-drop count lead.buffer),
      ap (λ (x : Intake). x.at) b.come.kept,
      omega arith,
    )

-- the body behind the head was taken
pub Behind-body : (left : Option (List ℕ)) (lead : Intake) (after : Option (List ℕ)) (now : Intake) (count : ℕ)
    (head : Head) (framing : Framing) (limit : ℕ)
    (rest : List ℕ) (body : Vec ℕ Global) (size : ℕ) (r : Request) → rest ≡ drop count lead.buffer → IsReady lead
    → HasHead lead.buffer count head framing limit
    → HasBody limit framing left (rest_of rest lead) after now (record { body = body; size = size })
    → r ≡ request_of now.at head body.items
    → Behind left lead after (finished count size now) (waits head) (Ok r)
Behind-body left lead after now count head framing limit rest body size r is ready h b made =
    let got = b.come.got in
    let bytes = lead.buffer ++ got in
    let within : count ≤ length lead.buffer = h.ends.within in
    let stands : IsBody limit (drop count lead.buffer ++ got) framing (complete body.items size) =
    subst (λ (l : List ℕ). IsBody limit (l ++ got) framing (complete body.items size)) is b.stands in
    let front : IsFront lead.at bytes (whole (request_of lead.at head body.items) (count + size)) =
    front_of_body lead count head framing limit got (complete body.items size) h stands in
    let long = IsFront-whole_length lead.at bytes (request_of lead.at head body.items) (count + size) front in
    let at : now.at ≡ lead.at = ap (λ (x : Intake). x.at) b.come.kept in
    let same : request_of lead.at head body.items ≡ r =
    ap (λ (k : ℕ). request_of k head body.items) (sym at) ∙ sym made in
    let behind : drop count bytes ≡ rest ++ got =
    drop-append-le count lead.buffer got within ∙ ap (λ (l : List ℕ). l ++ got) (sym is) in
    let buffered : now.buffer ≡ drop (count + size) bytes =
    b.rest ∙ ap (drop size) (sym behind) ∙ drop-drop count size bytes in
    let counted = b.come.counted in
    let placed = ready.placed in
    let left_over : length now.buffer ≡ length (drop (count + size) bytes) = ap length buffered in
    record {
      got = got;
      consumed = b.come.consumed;
      counted = counted;
      spent = b.come.spent;
      fronts = (
        count + size,
        subst (λ (q : Request). IsFront lead.at bytes (whole q (count + size))) same front,
        omega arith,
        buffered,
        record {
          placed = omega (arith, length-drop (count + size) bytes, length-append lead.buffer got, long.1);
          spent = b.come.spent;
          within = omega arith;
          known = HasNoEnd-zero now.buffer;
        },
        ap is_waiting (sym same),
      );
    }

-- a request lacks what its body lacks
lack_front : (lead : Intake) (count : ℕ) (head : Head) (framing : Framing) (limit : ℕ) (got rest : List ℕ)
    (lack : Lack)
    → rest ≡ drop count lead.buffer → HasHead lead.buffer count head framing limit
    → IsBody limit (rest ++ got) framing (lacks lack) → IsFront lead.at (lead.buffer ++ got) (short (waits head) lack)
lack_front lead count head framing limit got rest lack is h stands =
    front_of_body lead count head framing limit got (lacks lack) h
    (subst (λ (l : List ℕ). IsBody limit (l ++ got) framing (lacks lack)) is stands)

-- there is a fault in place of the body behind the head
pub Behind-fault : (left : Option (List ℕ)) (lead : Intake) (after : Option (List ℕ)) (now : Intake) (count : ℕ)
    (head : Head) (framing : Framing) (limit : ℕ)
    (rest : List ℕ) (fault : Fault) → rest ≡ drop count lead.buffer → HasHead lead.buffer count head framing limit
    → LacksBody limit framing left (rest_of rest lead) after now fault
    → Behind left lead after now (waits head) (Err fault)
Behind-fault left lead after now count head framing limit rest fault is h b =
    let got = b.come.got in
    record {
      got = got;
      consumed = b.come.consumed;
      counted = b.come.counted;
      spent = b.come.spent;
      fronts = (
        IsFault-weaker (λ lack. IsBody limit (rest ++ got) framing (lacks lack))
            (λ lack. IsFront lead.at (lead.buffer ++ got) (short (waits head) lack)) after now.total fault
            (λ lack stands. lack_front lead count head framing limit got rest lack is h stands) b.cause,
        ap (λ (x : Intake). x.at) b.come.kept,
      );
    }
