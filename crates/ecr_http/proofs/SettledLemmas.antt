-- What comes at a point of the stream, past the blank bytes.
use Rattle.std.proofs.Common.{◌≡◌, ℕ, ◌+◌, ◌≤◌, inl, inr, Bool, true, false, List, ◌++◌, length, take, drop, Option, Some, refl, sym, ap, ap₂, ◌∙◌, subst, subst₂, arith, length-drop, append_assoc}
use Rattle.std.proofs.lemmas.List.{drop-append-le}
use Rattle.ecr_model.specs.declared.http.Head.{Head}
use Rattle.ecr_model.specs.declared.http.Request.{Request}
use Rattle.ecr_model.specs.http.Framing.{max_head, IsEnd, Parses, waits}
use Rattle.ecr_model.specs.http.Replies.{interim}
use Rattle.ecr_model.specs.http.Stream.{blank_length, Front, IsFront, Point, grown, past_blank, Meets, AwaitsBody, past_request, closes, Tail, Lacks, tail_of}
use Rattle.ecr_model.proofs.lemmas.http.StreamLemmas.{blank_length-le, blank_length-drop}
use Rattle.ecr_http.specs.Events.{point_of}
use Rattle.ecr_http.specs.NextHeads.{IsRead}
use Rattle.ecr_http.specs.Reading.{MayTell}
use Rattle.ecr_http.specs.declared.intake.Intake.{Intake}
use Rattle.ecr_http.proofs.NextHeadLemmas.{blank_length-grows}

-- past the blank bytes the point stands at this place, before these bytes
pub record Settled (p : Point) (at : ℕ) (bytes : List ℕ) : Type 0 where
  pub at_is : (past_blank p).at ≡ at
  pub ahead_is : (past_blank p).ahead ≡ bytes

settled_bytes : (all others buffer : List ℕ) (skipped : ℕ) → skipped ≤ blank_length all → buffer ≡ drop skipped all
    → blank_length (buffer ++ others) ≡ 0
    → (blank_length (all ++ others) ≡ skipped) × (drop skipped (all ++ others) ≡ buffer ++ others)
settled_bytes all others buffer skipped blank is none =
    let within : skipped ≤ length all = omega (arith, blank_length-le all) in
    let behind : drop skipped (all ++ others) ≡ buffer ++ others =
    drop-append-le skipped all others within ∙ ap (λ (l : List ℕ). l ++ others) (sym is) in
    let few : skipped ≤ blank_length (all ++ others) = omega (arith, blank_length-grows all others) in
    let total = blank_length-drop (all ++ others) skipped few in
    let rest : blank_length (drop skipped (all ++ others)) ≡ 0 = ap blank_length behind ∙ none in
    (omega arith, behind)

-- the point that a reader has come to
pub Settled-read : (before : Option (List ℕ)) (old : Intake) (after : Option (List ℕ)) (now : Intake) (others : List ℕ)
    → (r : IsRead before old after now) → blank_length (now.buffer ++ others) ≡ 0
    → Settled (grown (point_of old false) (r.got ++ others)) now.at (now.buffer ++ others)
Settled-read before old after now others r none =
    let all = old.buffer ++ r.got in
    let same : all ++ others ≡ old.buffer ++ (r.got ++ others) = append_assoc old.buffer r.got others in
    let parts = settled_bytes all others now.buffer r.skipped r.blank r.buffered none in
    subst (λ (l : List ℕ). Settled (record { at = old.at; ahead = l; closed = false }) now.at
    (now.buffer ++ others)) same (record {
      at_is = ap (λ (k : ℕ). old.at + k) parts.0 ∙ sym r.placed;
      ahead_is = ap (λ (k : ℕ). drop k (all ++ others)) parts.0 ∙ parts.1;
    })

-- the front of the bytes comes next
pub Meets-front : (p : Point) (at : ℕ) (bytes : List ℕ) (front : Front) → Settled p at bytes → IsFront at bytes front
    → Meets p front
Meets-front p at bytes front s is =
    subst₂ (λ (k : ℕ) (l : List ℕ). IsFront k l front) (sym s.at_is) (sym s.ahead_is) is

-- a head whose client waits for a 100
pub AwaitsBody-head : (p : Point) (at : ℕ) (bytes : List ℕ) (count : ℕ) (head : Head) → Settled p at bytes
    → IsEnd max_head bytes count → Parses (take count bytes) (Some head) → waits head ≡ true → AwaitsBody p
AwaitsBody-head p at bytes count head s ends parses waiting = record {
  end = count;
  head = head;
  ends = subst (λ (l : List ℕ). IsEnd max_head l count) (sym s.ahead_is) ends;
  parses = subst (λ (l : List ℕ). Parses (take count l) (Some head)) (sym s.ahead_is) parses;
  waiting = waiting;
}

-- what is told to the client is due
pub MayTell-due : (p : Point) (due : Bool) → (due ≡ true → AwaitsBody p) → MayTell p (interim due)
unfolding interim
MayTell-due p true awaits = inr (awaits refl, refl)
MayTell-due p false awaits = inl refl

-- as many bytes come past the blank ones as before them, less these
pub Settled-length : (p : Point) (at : ℕ) (bytes : List ℕ) → Settled p at bytes
    → at + length bytes ≡ p.at + length p.ahead
Settled-length p at bytes s =
    let place : (past_blank p).at ≡ at = s.at_is in
    let size : length (drop (blank_length p.ahead) p.ahead) ≡ length bytes = ap length s.ahead_is in
    omega (arith, length-drop (blank_length p.ahead) p.ahead, blank_length-le p.ahead)

-- no whole request comes at the point, and the stream goes on by what stands there
pub Lacks-front : (over : Bool) (p : Point) (at : ℕ) (bytes : List ℕ) (front : Front) (tail : Tail) → Settled p at bytes
    → IsFront at bytes front
    → tail_of over (record { at = at; ahead = bytes; closed = p.closed }) front ≡ Some tail → Lacks over p tail
Lacks-front over p at bytes front tail s is tails = record {
  front = front;
  meets = Meets-front p at bytes front s is;
  is = subst₂ (λ (k : ℕ) (l : List ℕ). tail_of over (record { at = k; ahead = l; closed = p.closed }) front
      ≡ Some tail) (sym s.at_is) (sym s.ahead_is) tails;
}

-- the point behind a request
abbrev point_at : ℕ → List ℕ → Request → Point
point_at k l q = record { at = k; ahead = l; closed = closes q }

-- the reader stands behind the request that it gives
pub past-used : (p : Point) (at : ℕ) (bytes : List ℕ) (r : Request) (count : ℕ) (now : Intake) → Settled p at bytes
    → now.at ≡ at + count
    → now.buffer ≡ drop count bytes → point_of now (closes r) ≡ past_request p r count
past-used p at bytes r count now s used left =
    ap₂ (λ (k : ℕ) (l : List ℕ). point_at k l r) (used ∙ ap (λ (k : ℕ). k + count) (sym s.at_is))
    (left ∙ ap (drop count) (sym s.ahead_is))
