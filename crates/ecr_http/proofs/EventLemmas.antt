-- The event of a request, or of the fault in its place, is the one that the stream gives.
use Rattle.std.proofs.Common.{◌≡◌, ℕ, ◌+◌, ◌<◌, ◌≤◌, ◌==◌, inl, Bool, true, false, List, [], ◌++◌, length, take, drop, Option, Some, refl, sym, ap, ◌∙◌, subst, arith, length-append, length-drop, append-nil, ◌≢◌, if◌then◌else◌, Result, Ok, Err}
use Rattle.std.proofs.lemmas.Bool.{ne_eqb, eqb-true, eqb-false}
use Rattle.std.proofs.lemmas.List.{nil_from_length}
use Rattle.std.proofs.KnownBytes.{Appends-nil, Consumes-trans, Consumes-nil}
use Rattle.std.specs.Io.KnownBytes.{Appends}
use Rattle.ecr_model.specs.declared.http.Head.{Head}
use Rattle.ecr_model.specs.declared.http.Request.{Request}
use Rattle.ecr_model.specs.http.Framing.{max_head, IsEnd, Parses, waits}
use Rattle.ecr_model.specs.http.Replies.{interim}
use Rattle.ecr_model.specs.sessions.Sessions.{max_read}
use Rattle.ecr_model.specs.http.Stream.{blank_length, bad, too_long, open_, whole, short, IsFront, Point, grown, AwaitsBody, ended, truncated, bad_at, long_at, more}
use Rattle.ecr_model.proofs.lemmas.http.FrontLemmas.{IsFront-nil, IsFront-unique}
use Rattle.ecr_model.proofs.lemmas.http.StreamLemmas.{blank_length-le}
use Rattle.ecr_http.specs.Events.{closes_after, point_of, Fronts, Behind, event_of, TakesRequest}
use Rattle.ecr_http.specs.NextHeads.{IsReady, IsRead, LacksRequest}
use Rattle.ecr_http.specs.Sends.{Sends}
use Rattle.ecr_http.specs.declared.write.Sent.TheVariants.{WriteFault}
use Rattle.ecr_http.specs.Reading.{MayTell, bytes_read, GivesEvent, HasReadsLeft}
use Rattle.ecr_http.specs.declared.intake.Intake.{Intake}
use Rattle.std.specs.Prelude.{OnOk}
use Rattle.ecr_http.specs.declared.fault.Fault.{Fault}
use Rattle.ecr_http.proofs.SettledLemmas.{Settled, Settled-read, Settled-length, Meets-front, AwaitsBody-head, Lacks-front, past-used}
use Rattle.ecr_http.specs.declared.events.Event.TheVariants as events
use Rattle.ecr_http.specs.declared.fault.Fault.TheVariants as faults

-- ---- each event

-- the source has ended: between two requests, where all that was read was used, or inside one
GivesEvent-ended : (p : Point) (at : ℕ) (bytes : List ℕ) (now : Intake) (left held told : Option (List ℕ))
    (due all_used : Bool)
    → (now.at == now.total) ≡ all_used
    → Settled p at bytes → now.total ≡ p.at + length p.ahead → Appends held told (interim due)
    → Fronts at bytes now left due (Err faults.Ended)
    → GivesEvent p (point_of now (closes_after (event_of now (Err faults.Ended)))) left held told
    (event_of now (Err faults.Ended))
GivesEvent-ended p at bytes now left held told due true same s total says f =
    let place : now.at ≡ at = f.1 in
    let used : now.at ≡ now.total = eqb-true now.at now.total same in
    let none : bytes ≡ [] = nil_from_length bytes (omega (arith, Settled-length p at bytes s)) in
    let front : IsFront at [] (short due open_) = subst (λ (l : List ℕ). IsFront at l (short due open_)) none f.0.0 in
    let one : short due open_ ≡ short false open_ =
    IsFront-unique at [] (short due open_) (short false open_) front (IsFront-nil at) in
    let undue : due ≡ false = cc in
    subst (λ (b : Bool). GivesEvent p (point_of now (closes_after (if b then events.End else events.Truncated now.at)))
    left held told (if b then events.End else events.Truncated now.at)) (sym same) (
      (
        false,
        Lacks-front true p at bytes (short false open_) (record { due = false; ending = ended }) s
            (subst (λ (l : List ℕ). IsFront at l (short false open_)) (sym none) (IsFront-nil at))
            (rw none refl),
        subst (λ (d : Bool). Appends held told (interim d)) undue says,
      ),
      f.0.1,
    )
GivesEvent-ended p at bytes now left held told due false same s total says f =
    let place : now.at ≡ at = f.1 in
    let unused : now.at ≢ now.total = eqb-false now.at now.total same in
    let some : (length bytes == 0) ≡ false =
    ne_eqb (length bytes) 0 (λ none. unused (omega (arith, Settled-length p at bytes s))) in
    subst (λ (b : Bool). GivesEvent p (point_of now (closes_after (if b then events.End else events.Truncated now.at)))
    left held told (if b then events.End else events.Truncated now.at)) (sym same) (
      (
        due,
        Lacks-front true p at bytes (short due open_) (record { due = due; ending = truncated now.at }) s f.0.0
            (rw some (ap (λ (k : ℕ). Some (record { due = due; ending = truncated k })) (sym f.1))),
        says,
      ),
      f.0.1,
    )

-- the event for a request, or for a fault in its place, is the one that the stream gives
pub GivesEvent-fronts : (p : Point) (at : ℕ) (bytes : List ℕ) (now : Intake) (left held told : Option (List ℕ))
    (due : Bool) (result : Result Request Fault)
    → Settled p at bytes → now.total ≡ p.at + length p.ahead → now.total ≤ max_read → Appends held told (interim due)
    → MayTell p (interim due)
    → Fronts at bytes now left due result
    → GivesEvent p (point_of now (closes_after (event_of now result))) left held told (event_of now result)
GivesEvent-fronts p at bytes now left held told due (Ok r) s total spent says may f = (
  f.0,
  Meets-front p at bytes (whole r f.0) s f.1,
  past-used p at bytes r f.0 now s f.2 f.3,
  subst (λ (d : Bool). Appends held told (interim d)) (sym f.5) says,
)
GivesEvent-fronts p at bytes now left held told due (Err faults.Ended) s total spent says may f =
    GivesEvent-ended p at bytes now left held told due (now.at == now.total) refl s total says f
GivesEvent-fronts p at bytes now left held told due (Err faults.ReadFault) s total spent says may f = (
  due,
  Lacks-front false p at bytes (short due open_) (record { due = due; ending = more }) s f.0.0 refl,
  says,
)
GivesEvent-fronts p at bytes now left held told due (Err faults.WriteFault) s total spent says may f = absurd f.0
GivesEvent-fronts p at bytes now left held told due (Err faults.Spent) s total spent says may f = (
  (
    due,
    Lacks-front false p at bytes (short due open_) (record { due = due; ending = more }) s f.0.0 refl,
    says,
  ),
  omega (arith, f.0.1),
)
GivesEvent-fronts p at bytes now left held told due (Err faults.Mem) s total spent says may f = (interim due, may, says)
GivesEvent-fronts p at bytes now left held told due (Err faults.Bad) s total spent says may f = (
  due,
  Lacks-front false p at bytes (short due bad) (record { due = due; ending = bad_at now.at }) s f.0
      (ap (λ (k : ℕ). Some (record { due = due; ending = bad_at k })) (sym f.1)),
  says,
)
GivesEvent-fronts p at bytes now left held told due (Err (faults.TooLong section limit)) s total spent says may f = (
  due,
  Lacks-front false p at bytes (short due (too_long section limit))
      (record { due = due; ending = long_at now.at section limit }) s f.0
      (ap (λ (k : ℕ). Some (record { due = due; ending = long_at k section limit })) (sym f.1)),
  says,
)

reads_left-ended : (all_used : Bool) (at size : ℕ) → size < max_read
    → HasReadsLeft size (if all_used then events.End else events.Truncated at)
reads_left-ended true at size less = less
reads_left-ended false at size less = less

-- a read that gave nothing was made where more may be read
pub HasReadsLeft-fronts : (at : ℕ) (bytes : List ℕ) (now : Intake) (left : Option (List ℕ)) (due : Bool) (size : ℕ)
    (result : Result Request Fault)
    → now.total ≡ size → Fronts at bytes now left due result → HasReadsLeft size (event_of now result)
HasReadsLeft-fronts at bytes now left due size (Ok r) total f = tt
HasReadsLeft-fronts at bytes now left due size (Err faults.Ended) total f =
    reads_left-ended (now.at == now.total) now.at size (omega (arith, f.0.2))
HasReadsLeft-fronts at bytes now left due size (Err faults.ReadFault) total f = omega (arith, f.0.1)
HasReadsLeft-fronts at bytes now left due size (Err faults.WriteFault) total f = tt
HasReadsLeft-fronts at bytes now left due size (Err faults.Spent) total f = tt
HasReadsLeft-fronts at bytes now left due size (Err faults.Mem) total f = tt
HasReadsLeft-fronts at bytes now left due size (Err faults.Bad) total f = tt
HasReadsLeft-fronts at bytes now left due size (Err (faults.TooLong section limit)) total f = tt

-- after a fault the reader isn't used again
pub IsReady-after : (now : Intake) (result : Result Request Fault) → OnOk result (IsReady now)
    → closes_after (event_of now result) ≡ false → IsReady now
IsReady-after now (Ok r) ready stays = ready
IsReady-after now (Err faults.Ended) ready stays = absurd (closes-ended (now.at == now.total) now.at stays)
  where
    closes-ended : (all_used : Bool) (at : ℕ)
        → closes_after (if all_used then events.End else events.Truncated at) ≡ false → ⊥
    closes-ended true at e = cc
    closes-ended false at e = cc
IsReady-after now (Err faults.ReadFault) ready stays = absurd (cc)
IsReady-after now (Err faults.WriteFault) ready stays = absurd (cc)
IsReady-after now (Err faults.Spent) ready stays = absurd (cc)
IsReady-after now (Err faults.Mem) ready stays = absurd (cc)
IsReady-after now (Err faults.Bad) ready stays = absurd (cc)
IsReady-after now (Err (faults.TooLong section limit)) ready stays = absurd (cc)

-- the event is `ReadFault` for that fault alone
pub event_of-ReadFault : (now : Intake) (result : Result Request Fault) → event_of now result ≡ events.ReadFault
    → result ≡ Err faults.ReadFault
event_of-ReadFault now (Ok r) is = absurd (cc)
event_of-ReadFault now (Err faults.Ended) is = absurd (no_ReadFault (now.at == now.total) now.at is)
  where
    no_ReadFault : (all_used : Bool) (at : ℕ)
        → (if all_used then events.End else events.Truncated at) ≡ events.ReadFault → ⊥
    no_ReadFault true at e = cc
    no_ReadFault false at e = cc
event_of-ReadFault now (Err faults.ReadFault) is = refl
event_of-ReadFault now (Err faults.WriteFault) is = absurd (cc)
event_of-ReadFault now (Err faults.Spent) is = absurd (cc)
event_of-ReadFault now (Err faults.Mem) is = absurd (cc)
event_of-ReadFault now (Err faults.Bad) is = absurd (cc)
event_of-ReadFault now (Err (faults.TooLong section limit)) is = absurd (cc)

-- the event is `WriteFault` for that fault alone
pub event_of-WriteFault : (now : Intake) (result : Result Request Fault) → event_of now result ≡ events.WriteFault
    → result ≡ Err faults.WriteFault
event_of-WriteFault now (Ok r) is = absurd (cc)
event_of-WriteFault now (Err faults.Ended) is = absurd (no_WriteFault (now.at == now.total) now.at is)
  where
    no_WriteFault : (all_used : Bool) (at : ℕ)
        → (if all_used then events.End else events.Truncated at) ≡ events.WriteFault → ⊥
    no_WriteFault true at e = cc
    no_WriteFault false at e = cc
event_of-WriteFault now (Err faults.ReadFault) is = absurd (cc)
event_of-WriteFault now (Err faults.WriteFault) is = refl
event_of-WriteFault now (Err faults.Spent) is = absurd (cc)
event_of-WriteFault now (Err faults.Mem) is = absurd (cc)
event_of-WriteFault now (Err faults.Bad) is = absurd (cc)
event_of-WriteFault now (Err (faults.TooLong section limit)) is = absurd (cc)

-- ---- a call of the reader

total_read : (before : Option (List ℕ)) (old : Intake) (mid : Option (List ℕ)) (now : Intake)
    (r : IsRead before old mid now)
    → now.total ≡ old.at + length (old.buffer ++ r.got)
total_read before old mid now r =
    let placed = r.ready.placed in
    let at = r.placed in
    let size : length now.buffer ≡ length (drop r.skipped (old.buffer ++ r.got)) = ap length r.buffered in
    let blank = r.blank in
    omega (arith, length-drop r.skipped (old.buffer ++ r.got), blank_length-le (old.buffer ++ r.got))

-- the bytes read are counted behind a head too
pub total_behind : (before : Option (List ℕ)) (old : Intake) (mid : Option (List ℕ)) (lead : Intake)
    (after : Option (List ℕ)) (now : Intake) (due : Bool) (result : Result Request Fault)
    (r : IsRead before old mid lead) (b : Behind mid lead after now due result)
    → now.total ≡ bytes_read (grown (point_of old false) (r.got ++ b.got))
total_behind before old mid lead after now due result r b =
    let first = total_read before old mid lead r in
    let counted = b.counted in
    omega (arith, length-append old.buffer r.got, length-append old.buffer (r.got ++ b.got), length-append r.got b.got)

-- the blank bytes were passed, and what stands behind them was taken
pub TakesRequest-behind : (before held : Option (List ℕ)) (old : Intake) (mid : Option (List ℕ)) (lead : Intake)
    (after told : Option (List ℕ)) (now : Intake) (due : Bool) (result : Result Request Fault)
    → (r : IsRead before old mid lead) → (b : Behind mid lead after now due result)
    → blank_length (lead.buffer ++ b.got) ≡ 0 → Appends held told (interim due)
    → MayTell (grown (point_of old false) (r.got ++ b.got)) (interim due)
    → TakesRequest before held old after told now result
TakesRequest-behind before held old mid lead after told now due result r b none says may =
    let p = grown (point_of old false) (r.got ++ b.got) in
    let total : now.total ≡ bytes_read p = total_behind before old mid lead after now due result r b in
    record {
      got = r.got ++ b.got;
      consumed = Consumes-trans before mid after r.got b.got r.consumed b.consumed;
      gives = GivesEvent-fronts p lead.at (lead.buffer ++ b.got) now after held told due result
          (Settled-read before old mid lead b.got r none) total b.spent says may b.fronts;
      within = subst (λ (n : ℕ). n ≤ max_read) total b.spent;
      unspent = HasReadsLeft-fronts lead.at (lead.buffer ++ b.got) now after due (bytes_read p) result total b.fronts;
    }

-- nothing more came
abbrev Behind-now : (left : Option (List ℕ)) (lead now : Intake) (due : Bool) (result : Result Request Fault)
    → now.total ≡ lead.total → lead.total ≤ max_read
    → Fronts lead.at lead.buffer now left due result → Behind left lead left now due result
Behind-now left lead now due result total spent fronts = record {
  got = [];
  consumed = Consumes-nil left;
  counted = omega arith;
  spent = omega arith;
  fronts = subst (λ (l : List ℕ). Fronts lead.at l now left due result) (sym (append-nil lead.buffer)) fronts;
}

-- no request is at the front of the buffer, by a fault
pub TakesRequest-fault : (before held : Option (List ℕ)) (old : Intake) (left : Option (List ℕ)) (now : Intake)
    (fault : Fault)
    → IsRead before old left now → blank_length now.buffer ≡ 0
    → LacksRequest now.at now.buffer false left now.total fault
    → TakesRequest before held old left held now (Err fault)
unfolding interim
TakesRequest-fault before held old left now fault r none lacks_ =
    TakesRequest-behind before held old left now left held now false (Err fault) r
    (Behind-now left now now false (Err fault) refl r.ready.spent (lacks_, refl))
    (ap blank_length (append-nil now.buffer) ∙ none) (Appends-nil held) (inl refl)

-- the 100 wasn't written whole
pub TakesRequest-untold : (before held told : Option (List ℕ)) (old : Intake) (left : Option (List ℕ)) (now : Intake)
    (count : ℕ) (head : Head)
    → IsRead before old left now → blank_length now.buffer ≡ 0
    → IsEnd max_head now.buffer count → Parses (take count now.buffer) (Some head) → waits head ≡ true
    → Sends held told (interim (waits head)) WriteFault
    → TakesRequest before held old left told now (Err faults.WriteFault)
unfolding interim
TakesRequest-untold before held told old left now count head r no_blank ends parses waiting sends =
    let none : blank_length (now.buffer ++ []) ≡ 0 = ap blank_length (append-nil now.buffer) ∙ no_blank in
    let s : Settled (grown (point_of old false) (r.got ++ [])) now.at (now.buffer ++ []) =
    Settled-read before old left now [] r none in
    let bytes : now.buffer ≡ now.buffer ++ [] = sym (append-nil now.buffer) in
    let awaits : AwaitsBody (grown (point_of old false) (r.got ++ [])) =
    AwaitsBody-head (grown (point_of old false) (r.got ++ [])) now.at (now.buffer ++ []) count head s
    (subst (λ (b : List ℕ). IsEnd max_head b count) bytes ends)
    (subst (λ (b : List ℕ). Parses (take count b) (Some head)) bytes parses) waiting in
    record {
      got = r.got ++ [];
      consumed = Consumes-trans before left left r.got [] r.consumed (Consumes-nil left);
      gives = (awaits, subst (λ (due : Bool). Sends held told (interim due) WriteFault) waiting sends);
      within =
          let total = total_read before old left now r in
          let spent = r.ready.spent in
          omega (
            arith,
            length-append old.buffer r.got,
            length-append old.buffer
                (r.got ++ []),
            length-append r.got [],
          );
      unspent = tt;
    }
