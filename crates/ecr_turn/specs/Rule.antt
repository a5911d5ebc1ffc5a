-- The rule of the table below a turnstile, as each step keeps it: one order of turns, and one journal that every pass
-- has seen a beginning of.
use Rattle.std.specs.Prelude.{◌≡◌, ◌≢◌, ℕ, suc, ◌<◌, ◌≤◌, Bool, true, false, List, [], ◌∷◌, length, Option, Some}
use mathlib.Core.Option.{some, none}
use mathlib.Core.Option as maybe
use Rattle.atomic_table.specs.Table.{State}
use Rattle.ecr_model.specs.declared.registry.journal.Line.{Line}
use Rattle.ecr_model.specs.declared.registry.journal.Frame.{Frame}
use Rattle.ecr_turn.specs.declared.board.View.{View}
use Rattle.ecr_turn.specs.declared.board.Stage.{Stage}
use Rattle.ecr_turn.specs.declared.board.Stage.TheVariants.{Idle}
use Rattle.ecr_model.specs.registry.Growth.{Each, Rises, Grows, Follows}
use Rattle.ecr_turn.specs.Turns.{named_of, in_turn, has_learned, is_found, found_seen, has_recorded, is_live, joined_past, joined_seen, HasTicket, HasNumber, HasSeen, Every, SomeOne, One}

-- the first pass: it has seen nothing
abbrev pub newcomer : Frame → View
newcomer fixed = record { stage = Idle; caller = 0; callers = 1; past = 0; seen = []; frame = fixed }

-- the rule for one view
pub record Suits (log : List Line) (tickets serving callers : ℕ) (fixed : Frame) (v : View) : Type 0 where
  pub known : is_live v.stage ≡ true → (v.caller < callers) × Grows v.caller v.past v.seen log
  pub aware : v.callers ≤ callers
  pub behind : v.past ≤ serving
  pub framed : is_live v.stage ≡ true → v.frame ≡ fixed
  pub drawn : (t : ℕ) → HasTicket t v → (serving ≤ t) × (t < tickets)
  pub served : (t : ℕ) → in_turn v.stage ≡ true → HasTicket t v → t ≡ serving
  pub whole : has_learned v.stage ≡ true → v.seen ≡ log
  pub found : is_found v.stage ≡ true → found_seen v.stage ≡ log
  pub promised : (n : ℕ) → named_of v.stage ≡ Some n → (n < callers) × (n ≢ v.caller) × Each (λ l. l.caller ≢ n) log
  pub joined : (joined_past v.stage ≤ serving) × Follows (joined_past v.stage) (joined_seen v.stage) log

-- no pass is at such a stage
abbrev pub NoneOf : (Stage → Bool) → List View → Type 0
NoneOf test = Every (λ v. test v.stage ≡ false)

module _ {B : Type 0} (lines : B → List Line) (frame : B → Frame) (fixed : Frame) where
  -- the state is at home, with this journal
  abbrev pub AtHome : maybe.Option (Option B) → List Line → Type 0
  AtHome home log = (b : B) × (home ≡ some (Some b)) × (lines b ≡ log) × (frame b ≡ fixed)

  -- the order of turns: the lines of the journal are counted, tickets are served one by one, each ticket that was drawn
  -- and not yet served has one pass, callers' numbers all differ, and outside a turn the state is at home
  pub record Order (count tickets serving callers : ℕ) (home : maybe.Option (Option B))
      (views : List View) : Type 0 where
    pub log : List Line
    pub counted : length log ≡ count
    pub begun : serving ≤ tickets
    pub room : tickets < 18446744073709551616
    pub rises : Rises 0 log (suc serving)
    pub unrecorded : NoneOf has_recorded views → Rises 0 log serving
    pub numbered : Each (λ l. l.caller < callers) log
    pub each : Every (Suits log tickets serving callers fixed) views
    pub longest : SomeOne (HasSeen log) views
    pub one_holder : (t : ℕ) → One (HasTicket t) views
    pub held : (t : ℕ) → serving ≤ t → t < tickets → SomeOne (HasTicket t) views
    pub one_caller : (n : ℕ) → One (HasNumber n) views
    pub at_home : NoneOf in_turn views → AtHome home log
    pub away : Every (λ v. in_turn v.stage ≡ true → home ≡ none) views

  -- the order, of the table's words, its slot and its passes
  pub record Kept (s : State (Option B) View) : Type 0 where
    pub count : ℕ
    pub tickets : ℕ
    pub serving : ℕ
    pub callers : ℕ
    pub home : maybe.Option (Option B)
    pub words_are : s.words ≡ count ∷ tickets ∷ serving ∷ callers ∷ []
    pub homes_are : s.homes ≡ home ∷ []
    pub order : Order count tickets serving callers home s.views
