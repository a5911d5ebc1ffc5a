-- What each step tells the one who makes it.
use Rattle.std.specs.Prelude.{◌≡◌, ◌≢◌, ℕ, suc, max, ◌≤◌, List, [], ◌∷◌, Option, Some}
use Rattle.atomic_table.specs.Table.{Me, Step}
use Rattle.ecr_model.specs.declared.registry.journal.Line.{Line}
use Rattle.ecr_model.specs.declared.registry.journal.Frame.{Frame}
use Rattle.ecr_turn.specs.declared.board.View.{View}
use Rattle.ecr_turn.specs.declared.board.Stage.TheVariants.{Idle, Waits, Found, Holds, Recorded, Named, Joined, Spent}
use Rattle.ecr_turn.specs.declared.board.Stage.{Stage}
use Rattle.ecr_model.specs.registry.Growth.{Each, Grows, Follows, Rises}
use Rattle.ecr_turn.specs.Journals.{longer_of}
use Rattle.ecr_turn.specs.Turns.{HasTicket, joined_past, joined_seen}
use Rattle.ecr_turn.specs.Passes.{no_frame}

-- the knowledge that the maker of a step has of itself
abbrev Mine : Type 0 → Type 0
Mine B = Me (Option B) View

-- the step in the table
abbrev At : Type 0 → Type 0
At B = Step (Option B)

-- it waits for the turn of the ticket
abbrev pub waiting : ℕ → View → View
waiting t v = record {
  stage = Waits t;
  caller = v.caller;
  callers = v.callers;
  past = v.past;
  seen = v.seen;
  frame = v.frame;
}

-- it is in its turn, and is to look at the journal
abbrev pub finding : ℕ → List Line → View → View
finding t log v = record {
  stage = Found t log;
  caller = v.caller;
  callers = v.callers;
  past = v.past;
  seen = v.seen;
  frame = v.frame;
}

-- it is in its turn, and has seen the journal
abbrev pub holding : ℕ → List Line → View → View
holding t log v = record {
  stage = Holds t;
  caller = v.caller;
  callers = v.callers;
  past = v.past;
  seen = log;
  frame = v.frame;
}

-- the entry of its turn is counted
abbrev pub having_recorded : ℕ → List Line → View → View
having_recorded t log v =
    record { stage = Recorded t; caller = v.caller; callers = v.callers; past = v.past; seen = log; frame = v.frame }

-- its turn was passed on
abbrev pub gone_by : ℕ → View → View
gone_by t v = record {
  stage = Idle;
  caller = v.caller;
  callers = v.callers;
  past = suc t;
  seen = v.seen;
  frame = v.frame;
}

-- the number of the caller that was named
abbrev pub named_number : Stage → ℕ
named_number (Named n) = n
named_number _ = 0

-- it has drawn a number for a caller to come
abbrev pub naming : ℕ → View → View
naming n v = record {
  stage = Named n;
  caller = v.caller;
  callers = suc n;
  past = v.past;
  seen = v.seen;
  frame = v.frame;
}

-- it is in no turn
abbrev pub settled : View → View
settled v = record {
  stage = Idle;
  caller = v.caller;
  callers = v.callers;
  past = v.past;
  seen = v.seen;
  frame = v.frame;
}

-- the pass of the caller that was named
abbrev pub newborn : View → View
newborn v = record {
  stage = Idle;
  caller = named_number v.stage;
  callers = v.callers;
  past = v.past;
  seen = v.seen;
  frame = v.frame;
}

-- a pass to which another was joined, and which knows of the callers of both
abbrev pub joining : View → View → View
joining v w = record {
  stage = Joined w.past w.seen;
  caller = v.caller;
  callers = max v.callers w.callers;
  past = v.past;
  seen = v.seen;
  frame = v.frame;
}

-- a pass that was joined to another
abbrev pub spent : View
spent = record { stage = Spent; caller = 0; callers = 0; past = 0; seen = []; frame = no_frame }

-- the pass with the longer journal and the greater `past` of the two
abbrev pub merged : View → View
merged v = record {
  stage = Idle;
  caller = v.caller;
  callers = v.callers;
  past = max v.past (joined_past v.stage);
  seen = longer_of v.seen (joined_seen v.stage);
  frame = v.frame;
}

module _ {B : Type 0} where
  -- the number of a caller to come, whom no entry names, and which the pass didn't know to be given out
  abbrev pub drew_number : At B → Mine B → ℕ → Mine B → Type 0
  drew_number st m r m' =
      (r ≡ st.first → (m' ≡ (naming r m.0, m.1)) × (r ≢ m.0.caller) × Each (λ l. l.caller ≢ r) m.0.seen
      × (m.0.callers ≤ r)) × (r ≢ st.first → m' ≡ m)

  -- the joined pass is taken in: the longer journal, and the greater `past`
  abbrev pub took_in : At B → Mine B → ℕ → Mine B → Type 0
  took_in st m r m' = (p : ℕ) (ls : List Line) → m.0.stage ≡ Joined p ls → (m' ≡ (merged m.0, m.1))
      × Grows m.0.caller m.0.past m.0.seen (longer_of m.0.seen ls) × Follows p ls (longer_of m.0.seen ls)

  -- the ticket is drawn where the word was as expected
  abbrev pub drew : At B → Mine B → ℕ → Mine B → Type 0
  drew st m r m' = (r ≡ st.first → m' ≡ (waiting r m.0, m.1)) × (r ≢ st.first → m' ≡ m)

  -- the turn is found where the number served is the ticket
  abbrev pub looked : (B → List Line) → (B → Frame) → At B → Mine B → ℕ → Mine B → Type 0
  looked lines frame st m r m' = (t : ℕ) → m.0.stage ≡ Waits t → (t ≢ r → m' ≡ m)
      × (t ≡ r → (b : B) × (m' ≡ (finding t (lines b) m.0, (0, Some b) ∷ m.1)) × (frame b ≡ m.0.frame))

  -- the journal of the state that was found is seen
  abbrev pub learned : At B → Mine B → ℕ → Mine B → Type 0
  learned st m r m' = (t : ℕ) (ls : List Line) → m.0.stage ≡ Found t ls → (m' ≡ (holding t ls m.0, m.1))
      × (m.0.past ≤ t) × Grows m.0.caller m.0.past m.0.seen ls × Rises 0 ls t

  -- the entry is counted, and the journal seen
  abbrev pub recorded : (B → List Line) → At B → Mine B → ℕ → Mine B → Type 0
  recorded lines st m r m' = (t : ℕ) (b : B) → m.0.stage ≡ Holds t → m.1 ≡ (0, Some b) ∷ []
      → m' ≡ (having_recorded t (lines b) m.0, m.1)

  -- the turn is given to the next ticket
  abbrev pub passed_on : At B → Mine B → ℕ → Mine B → Type 0
  passed_on st m r m' = (t : ℕ) → HasTicket t m.0 → m' ≡ (gone_by t m.0, [])
