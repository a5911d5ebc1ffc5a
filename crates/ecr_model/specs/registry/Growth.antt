-- Journals that others make longer. Of this registry: docs/DECISIONS.md, "Turns".
use Rattle.std.specs.Prelude.{◌≡◌, ◌≢◌, ℕ, suc, ◌≤◌, List, [], ◌∷◌, ◌++◌}
use Rattle.ecr_model.specs.declared.registry.journal.Line.{Line}

-- each line of the journal has the property
abbrev pub Each : (Line → Type 0) → List Line → Type 0
Each P [] = Unit {0}
Each P (l ∷ ls) = P l × Each P ls

-- the tickets rise, from low on and below high
abbrev pub Rises : ℕ → List Line → ℕ → Type 0
Rises low [] high = low ≤ high
Rises low (l ∷ ls) high = (low ≤ l.ticket) × Rises (suc l.ticket) ls high

-- the later journal is the earlier one and news, of which none is of this caller and none has a ticket below `past`
pub record Grows (caller past : ℕ) (before after : List Line) : Type 0 where
  pub news : List Line
  pub longer : after ≡ before ++ news
  pub others : Each (λ l. l.caller ≢ caller) news
  pub later : Each (λ l. past ≤ l.ticket) news

-- the later journal is the earlier one and news, of which none has a ticket below `past`
pub record Follows (past : ℕ) (before after : List Line) : Type 0 where
  pub news : List Line
  pub longer : after ≡ before ++ news
  pub later : Each (λ l. past ≤ l.ticket) news
