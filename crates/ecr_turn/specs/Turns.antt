-- The rule of a turnstile in seven points, which hold between any two steps. A pass that was joined to another counts
-- no more.
use Rattle.std.specs.Prelude.{◌≡◌, ◌≢◌, ◌⊎◌, ℕ, suc, ◌<◌, ◌≤◌, Bool, true, false, List, [], length, Option, Some, None}
use mathlib.Core.Option.{some}
use mathlib.Core.Option as maybe
use lib.ListN.{get_elem?}
use Rattle.ecr_model.specs.declared.registry.journal.Line.{Line}
use Rattle.ecr_model.specs.declared.registry.journal.Frame.{Frame}
use Rattle.ecr_turn.specs.declared.board.View.{View}
use Rattle.ecr_turn.specs.declared.board.Stage.{Stage}
use Rattle.ecr_turn.specs.declared.board.Stage.TheVariants.{Idle, Waits, Found, Holds, Recorded, Named, Joined, Spent}
use Rattle.ecr_model.specs.registry.Growth.{Each, Rises}
use Rattle.ecr_turn.specs.Journals.{IsBeginning, IsLonger, longer_of}

-- the ticket of a pass that waits or is in its turn
abbrev pub ticket_of : Stage → Option ℕ
ticket_of Idle = None
ticket_of (Waits t) = Some t
ticket_of (Found t ls) = Some t
ticket_of (Holds t) = Some t
ticket_of (Recorded t) = Some t
ticket_of (Joined p ls) = None
ticket_of (Named n) = None
ticket_of Spent = None

-- the number that was drawn for a caller to come
abbrev pub named_of : Stage → Option ℕ
named_of Idle = None
named_of (Waits t) = None
named_of (Found t ls) = None
named_of (Holds t) = None
named_of (Recorded t) = None
named_of (Joined p ls) = None
named_of (Named n) = Some n
named_of Spent = None

-- the pass is in its turn
abbrev pub in_turn : Stage → Bool
in_turn Idle = false
in_turn (Waits t) = false
in_turn (Found t ls) = true
in_turn (Holds t) = true
in_turn (Recorded t) = true
in_turn (Joined p ls) = false
in_turn (Named n) = false
in_turn Spent = false

-- the pass is in its turn, and has looked at the journal
abbrev pub has_learned : Stage → Bool
has_learned Idle = false
has_learned (Waits t) = false
has_learned (Found t ls) = false
has_learned (Holds t) = true
has_learned (Recorded t) = true
has_learned (Joined p ls) = false
has_learned (Named n) = false
has_learned Spent = false

-- the pass is in its turn, and hasn't looked at the journal yet
abbrev pub is_found : Stage → Bool
is_found (Found t ls) = true
is_found _ = false

-- the journal that a pass which is found is to look at
abbrev pub found_seen : Stage → List Line
found_seen (Found t ls) = ls
found_seen _ = []

-- the entry of its turn is counted already
abbrev pub has_recorded : Stage → Bool
has_recorded Idle = false
has_recorded (Waits t) = false
has_recorded (Found t ls) = false
has_recorded (Holds t) = false
has_recorded (Recorded t) = true
has_recorded (Joined p ls) = false
has_recorded (Named n) = false
has_recorded Spent = false

-- the pass wasn't joined to another
abbrev pub is_live : Stage → Bool
is_live Idle = true
is_live (Waits t) = true
is_live (Found t ls) = true
is_live (Holds t) = true
is_live (Recorded t) = true
is_live (Joined p ls) = true
is_live (Named n) = true
is_live Spent = false

-- the `past` of the pass that was joined
abbrev pub joined_past : Stage → ℕ
joined_past (Joined p ls) = p
joined_past _ = 0

-- what the pass that was joined had seen
abbrev pub joined_seen : Stage → List Line
joined_seen (Joined p ls) = ls
joined_seen _ = []

-- the pass waits for that ticket's turn, or is in it
abbrev pub HasTicket : ℕ → View → Type 0
HasTicket t v = ticket_of v.stage ≡ Some t

-- the number is its own, or that of a caller to come
abbrev pub HasNumber : ℕ → View → Type 0
HasNumber n v = ((is_live v.stage ≡ true) × (v.caller ≡ n)) ⊎ (named_of v.stage ≡ Some n)

-- the pass has seen all of the journal, by itself or with the one that was joined to it
abbrev pub HasSeen : List Line → View → Type 0
HasSeen journal v = (is_live v.stage ≡ true) × (longer_of v.seen (joined_seen v.stage) ≡ journal)

-- each pass is like that
abbrev pub Every : (View → Type 0) → List View → Type 0
Every P passes = (j : ℕ) (v : View) → get_elem? passes j ≡ some v → P v

-- some pass is like that
abbrev pub SomeOne : (View → Type 0) → List View → Type 0
SomeOne P passes = (j : ℕ) × (v : View) × (get_elem? passes j ≡ some v) × P v

-- one pass at most is like that
abbrev pub One : (View → Type 0) → List View → Type 0
One P passes = (j k : ℕ) (v w : View) → get_elem? passes j ≡ some v → get_elem? passes k ≡ some w → P v → P w → j ≡ k

-- how many entries are counted, the next ticket, the ticket that is served, and the next caller's number
pub record Numbers : Type 0 where
  pub entries : ℕ
  pub tickets : ℕ
  pub serving : ℕ
  pub callers : ℕ

-- 1: each ticket from the one that is served on, and none else, is one pass's, and only the served one's pass may be in
-- its turn
pub record ServesInOrder (n : Numbers) (passes : List View) : Type 0 where
  pub begun : n.serving ≤ n.tickets
  pub held : (t : ℕ) → n.serving ≤ t → t < n.tickets → SomeOne (HasTicket t) passes
  pub once : (t : ℕ) → One (HasTicket t) passes
  pub drawn : Every (λ v. (t : ℕ) → HasTicket t v → (n.serving ≤ t) × (t < n.tickets)) passes
  pub turn : Every (λ v. in_turn v.stage ≡ true → HasTicket n.serving v) passes

-- 2: of two journals that passes have seen one is a beginning of the other, and the longest has as many entries as are
-- counted
pub record HasOneJournal (n : Numbers) (passes : List View) (journal : List Line) : Type 0 where
  pub beginnings : Every (λ v. is_live v.stage ≡ true → IsBeginning v.seen journal) passes
  pub ordered : Every (λ v. is_live v.stage ≡ true
      → Every (λ w. is_live w.stage ≡ true → IsBeginning v.seen w.seen ⊎ IsBeginning w.seen v.seen) passes) passes
  pub longest : SomeOne (HasSeen journal) passes
  pub counted : length journal ≡ n.entries

-- 3: tickets rise in the journal, and each is below the served one, or it is that one and its pass has recorded it
pub record TicketsRise (n : Numbers) (passes : List View) (journal : List Line) : Type 0 where
  pub rises : Rises 0 journal (suc n.serving)
  pub recorded : Each (λ l. (l.ticket < n.serving)
      ⊎ ((l.ticket ≡ n.serving) × SomeOne (λ v. (has_recorded v.stage ≡ true) × HasTicket n.serving v) passes)) journal

-- 4: callers' numbers, and those of callers to come, all differ; no entry has the number of a caller to come; and a
-- pass has seen all entries of its own number, and knows of no more callers than there are
pub record CallersDiffer (n : Numbers) (passes : List View) (journal : List Line) : Type 0 where
  pub once : (m : ℕ) → One (HasNumber m) passes
  pub given : Every (λ v. (m : ℕ) → HasNumber m v → m < n.callers) passes
  pub apart : Every (λ v. (m : ℕ) → named_of v.stage ≡ Some m → m ≢ v.caller) passes
  pub entries : Each (λ l. l.caller < n.callers) journal
  pub to_come : Every (λ v. (m : ℕ) → named_of v.stage ≡ Some m → Each (λ l. l.caller ≢ m) journal) passes
  pub own : Every (λ v. is_live v.stage ≡ true → IsLonger (λ l. l.caller ≢ v.caller) v.seen journal) passes
  pub aware : Every (λ v. v.callers ≤ n.callers) passes

-- 5: a state at home has the whole journal and the frame, and it is away only while a pass is in its turn
pub record StateIsKept {B : Type 0} (lines : B → List Line) (frame : B → Frame) (fixed : Frame)
    (home : maybe.Option (Option B)) (passes : List View) (journal : List Line) : Type 0 where
  pub whole : (b : B) → home ≡ some (Some b) → (lines b ≡ journal) × (frame b ≡ fixed)
  pub away : ((b : B) × (home ≡ some (Some b))) ⊎ SomeOne (λ v. in_turn v.stage ≡ true) passes

-- 6: a pass that is in its turn, and has looked at the journal, has seen the whole of it
abbrev pub SeesInTurn : Numbers → List View → List Line → Type 0
SeesInTurn n passes journal =
    Every (λ v. has_learned v.stage ≡ true → (v.seen ≡ journal) × (length v.seen ≡ n.entries)) passes

-- 7: the `past` of a pass isn't above the served ticket, and the pass has seen every entry below it
pub record SeesThePast (n : Numbers) (passes : List View) (journal : List Line) : Type 0 where
  pub behind : Every (λ v. v.past ≤ n.serving) passes
  pub seen : Every (λ v. is_live v.stage ≡ true → IsLonger (λ l. v.past ≤ l.ticket) v.seen journal) passes

-- the seven points
pub record SevenPoints {B : Type 0} (lines : B → List Line) (frame : B → Frame) (fixed : Frame) (n : Numbers)
    (home : maybe.Option (Option B)) (passes : List View) (journal : List Line) : Type 0 where
  pub first : ServesInOrder n passes
  pub second : HasOneJournal n passes journal
  pub third : TicketsRise n passes journal
  pub fourth : CallersDiffer n passes journal
  pub fifth : StateIsKept lines frame fixed home passes journal
  pub sixth : SeesInTurn n passes journal
  pub seventh : SeesThePast n passes journal
