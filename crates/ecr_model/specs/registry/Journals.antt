-- Journals: a cell's lines in order, and the state that they lead to. Of this registry: docs/DECISIONS.md, "Journals".
-- Tickets count from 0.
use Rattle.std.specs.Prelude.{◌≡◌, ◌≤◌, ℕ, suc, ◌&&◌, nat_lt, nat_le, List, [], ◌∷◌, Option, Some, filter, unwrap_or}
use Rattle.ecr_model.specs.declared.registry.journal.Line.{Line}

-- one more than the last ticket, or the low one where there is no line
abbrev pub past_from : ℕ → List Line → ℕ
past_from low [] = low
past_from low (l ∷ ls) = past_from (suc l.ticket) ls

-- one more than the last ticket; 0 where there is no line
abbrev pub past : List Line → ℕ
past lines = past_from 0 lines

-- the lines whose tickets are below this one
abbrev pub below : ℕ → List Line → List Line
below ticket = filter (λ l. nat_lt l.ticket ticket)

-- the lines whose tickets are from the first one on and below the second
abbrev pub between : ℕ → ℕ → List Line → List Line
between first second = filter (λ l. nat_le first l.ticket && nat_lt l.ticket second)

-- of states S, of which each is changed by a line, or isn't: then `after` is None
module _ {S : Type 0} (after : S → Line → Option S) where
  -- the state that the lines lead to, one after another
  unfoldable pub replay : S → List Line → S
  replay s [] = s
  replay s (l ∷ ls) = replay (unwrap_or (after s l) s) ls

  -- the tickets rise from the low one on, and each line changes the state that those before it left
  unfoldable pub IsSoundFrom : ℕ → S → List Line → Type 0
  IsSoundFrom low s [] = Unit {0}
  IsSoundFrom low s (l ∷ ls) =
      (low ≤ l.ticket) × ((next : S) × (after s l ≡ Some next) × IsSoundFrom (suc l.ticket) next ls)

  -- the journal is sound, from the first state on
  abbrev pub IsSound : S → List Line → Type 0
  IsSound first lines = IsSoundFrom 0 first lines

  -- the state as at a ticket: that to which the lines before it lead
  abbrev pub state_at : S → List Line → ℕ → S
  state_at first lines ticket = replay first (below ticket lines)
