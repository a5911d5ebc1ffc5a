-- Laws of turns and of journals.
use Rattle.std.specs.Prelude.{◌≡◌, ◌⊎◌, ℕ, ◌<◌, ◌≤◌, List, [], ◌∷◌, ◌++◌, Option}
use mathlib.Core.Option as maybe
use Rattle.atomic_table.specs.Table.{State}
use Rattle.ecr_model.specs.declared.registry.journal.Line.{Line}
use Rattle.ecr_model.specs.declared.registry.journal.Frame.{Frame}
use Rattle.ecr_turn.specs.declared.board.View.{View}
use Rattle.ecr_model.specs.registry.Journals.{below}
use Rattle.ecr_model.specs.registry.Growth.{Grows, Follows}
use Rattle.ecr_turn.specs.Journals.{MayFollow, of_caller}
use Rattle.ecr_turn.specs.Passes.{Known, IsNewCaller}
use Rattle.ecr_turn.specs.Turns.{Numbers, SevenPoints}
use Rattle.ecr_turn.specs.Rule.{Kept}

-- the table is that of a turnstile at these numbers, with these passes and this journal
pub record IsTurnstile {B : Type 0} (lines : B → List Line) (frame : B → Frame) (fixed : Frame)
    (s : State (Option B) View) : Type 0 where
  pub numbers : Numbers
  pub home : maybe.Option (Option B)
  pub journal : List Line
  pub words_are : s.words ≡ numbers.entries ∷ numbers.tickets ∷ numbers.serving ∷ numbers.callers ∷ []
  pub homes_are : s.homes ≡ home ∷ []
  pub points : SevenPoints lines frame fixed numbers home s.views journal

-- of each table that keeps its rule the seven points hold
abbrev pub TheRuleIsTheSevenPoints : {B : Type 0} → (B → List Line) → (B → Frame) → Type 0
TheRuleIsTheSevenPoints {B} lines frame = (fixed : Frame) (s : State (Option B) View) → Kept lines frame fixed s
    → IsTurnstile lines frame fixed s

-- the lines below a ticket that was passed on stand there in each later journal
abbrev pub WhatStoodStays : Type 0
WhatStoodStays = (past ticket : ℕ) (before after : List Line) → Follows past before after → ticket ≤ past
    → below ticket after ≡ below ticket before

-- lines that others add leave a caller's own as they were
abbrev pub OthersAddNoneOfMine : Type 0
OthersAddNoneOfMine = (caller past : ℕ) (before after : List Line) → Grows caller past before after
    → of_caller caller after ≡ of_caller caller before

-- a turn adds nothing to its caller's own lines, or its one entry at their end
abbrev pub ATurnAddsItsOwn : Type 0
ATurnAddsItsOwn =
    (ticket caller : ℕ) (before after : List Line) → MayFollow ticket caller before after
    → (of_caller caller after ≡ of_caller caller before)
    ⊎ ((l : Line) × (after ≡ before ++ l ∷ []) × (l.ticket ≡ ticket)
    × (of_caller caller after ≡ of_caller caller before ++ l ∷ []))

-- passes that are split one after another from a pass that forgets none of their numbers have rising numbers, so that
-- no two are the same
abbrev pub SplitsRise : Type 0
SplitsRise =
    (before after later last one two : Known) → IsNewCaller before after one → after.callers ≤ later.callers
    → IsNewCaller later last two
    → one.caller < two.caller
