-- What the steps of a pass say of its seat in the table below a turnstile.
use Rattle.std.specs.Prelude.{◌≡◌, ℕ, ◌≤◌, List, [], ◌∷◌, ◌++◌, Option, Some, None, Bool, true, false}
use Rattle.atomic_table.specs.Seated.{TableId}
use Rattle.atomic_table.specs.declared.shared.Seat.{Seat}
use Rattle.ecr_model.specs.declared.registry.journal.Line.{Line}
use Rattle.ecr_model.specs.declared.registry.journal.Frame.{Frame}
use Rattle.ecr_turn.specs.declared.board.View.{View}
use Rattle.ecr_turn.specs.declared.board.Stage.TheVariants.{Idle, Holds}
use Rattle.ecr_model.specs.registry.Growth.{Grows, Rises}
use Rattle.ecr_turn.specs.Turns.{has_learned, HasTicket}
use Rattle.ecr_turn.specs.Passes.{Known}
use Rattle.ecr_turn.specs.Steps.{finding, holding}

-- the one element, of which P holds
abbrev pub Lone : {B : Type 0} → (B → Type 0) → List (Option B) → Type 0
Lone {B} P xs = (b : B) × (xs ≡ Some b ∷ []) × P b

module _ {B : Type 0} where
  -- the knowledge of the pass with this seat
  abbrev pub known_of : Seat (Option B) View → Known
  known_of s = record {
    gate = record { table = s.table_id; frame = s.me.0.frame };
    caller = s.me.0.caller;
    callers = s.me.0.callers;
    past = s.me.0.past;
    seen = s.me.0.seen;
  }

  -- it is of this table, which has the words of a turnstile
  abbrev pub IsOf : TableId → Seat (Option B) View → Type 0
  IsOf table s = (s.table_id ≡ table) × (table.words ≡ 4)

  -- it is in no turn, and holds nothing
  abbrev pub IsAtRest : Seat (Option B) View → Type 0
  IsAtRest s = (s.me.0.stage ≡ Idle) × (s.me.1 ≡ [])

  -- a seat in the same table, of the same caller and frame, which forgets no number that was given out
  abbrev pub IsSameSeat : Seat (Option B) View → Seat (Option B) View → Type 0
  IsSameSeat s t = (t.table_id ≡ s.table_id) × (t.me.0.caller ≡ s.me.0.caller) × (t.me.0.frame ≡ s.me.0.frame)
      × (s.me.0.callers ≤ t.me.0.callers)

  -- the state is back in its slot, and the journal that the pass has seen is its journal, but for one entry where it
  -- grew
  pub record IsBack (lines : B → List Line) (frame : B → Frame) (s : Seat (Option B) View) (ticket : ℕ)
      (grown : Bool) : Type 0 where
    pub state : B
    pub stage : s.me.0.stage ≡ Holds ticket
    pub hand : s.me.1 ≡ (0, Some state) ∷ []
    pub framed : frame state ≡ s.me.0.frame
    pub same : grown ≡ false → lines state ≡ s.me.0.seen
    pub longer : grown ≡ true → (l : Line) × (lines state ≡ s.me.0.seen ++ l ∷ []) × (l.ticket ≡ ticket)
        × (l.caller ≡ s.me.0.caller)

  -- the journal is that of the state in hand
  abbrev pub Sees : (B → List Line) → List (ℕ × Option B) → List Line → Type 0
  Sees lines hand seen = (b : B) → hand ≡ (0, Some b) ∷ [] → seen ≡ lines b

  -- the turn is found, and the state with it
  pub record Finds (lines : B → List Line) (frame : B → Frame) (s t : Seat (Option B) View) (ticket : ℕ) : Type 0 where
    pub state : B
    pub me : t.me ≡ (finding ticket (lines state) s.me.0, (0, Some state) ∷ [])
    pub framed : frame state ≡ s.me.0.frame

  -- the state is taken, and its journal is seen
  pub record TakesState (lines : B → List Line) (frame : B → Frame) (s t : Seat (Option B) View) (ticket : ℕ)
      (state : B) : Type 0 where
    pub me : t.me ≡ (holding ticket (lines state) s.me.0, (0, None) ∷ [])
    pub framed : frame state ≡ s.me.0.frame
    pub fresh : s.me.0.past ≤ ticket
    pub grows : Grows s.me.0.caller s.me.0.past s.me.0.seen (lines state)
    pub below : Rises 0 (lines state) ticket

  -- the entry that the journal grew by is entered, so that the turn may be given away
  pub record IsSettled (lines : B → List Line) (frame : B → Frame) (s t : Seat (Option B) View)
      (ticket : ℕ) : Type 0 where
    pub pass : IsSameSeat s t
    pub state : B
    pub was : s.me.1 ≡ (0, Some state) ∷ []
    pub hand : t.me.1 ≡ (0, Some state) ∷ []
    pub learned : has_learned t.me.0.stage ≡ true
    pub ticketed : HasTicket ticket t.me.0
    pub seen : lines state ≡ t.me.0.seen
    pub framed : frame state ≡ t.me.0.frame
