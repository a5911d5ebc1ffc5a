-- Sound journals of all cells, and the places of turns in them. Of this registry: docs/DECISIONS.md, "Journals".
-- Tickets count from 0.
use Rattle.std.specs.Prelude.{◌≡◌, ◌≤◌, ◌<◌, ℕ, true, All, List, [], ◌∷◌}
use Rattle.ecr_model.specs.declared.registry.journal.CellKey.{CellKey}
use Rattle.ecr_model.specs.declared.registry.journal.CellKey.TheVariants.{Directory, Repository}
use Rattle.ecr_model.specs.declared.registry.journal.Line.{Line}
use Rattle.ecr_model.specs.declared.registry.journal.Place.{Place}
use Rattle.ecr_model.specs.registry.Directories as directories
use Rattle.ecr_model.specs.registry.Scripts.{Realm, Journals, frame_of, same_cell}
use Rattle.ecr_model.specs.registry.Steps as steps

-- the journal of that cell is sound
abbrev pub IsSoundIn : Realm → CellKey → List Line → Type 0
IsSoundIn realm (Directory site) lines = directories.IsSoundDirectory (frame_of realm site) lines
IsSoundIn realm (Repository key) lines = steps.IsSoundRepository key realm.limits lines

-- the journal of each cell is sound
abbrev pub AreSound : Realm → Journals → Type 0
AreSound realm journals = (cell : CellKey) → IsSoundIn realm cell (journals cell)

-- the ticket is above all tickets in the journal
abbrev pub IsAbove : List Line → ℕ → Type 0
IsAbove lines ticket = All (λ line. line.ticket < ticket) lines

-- a later place in the same cell doesn't have a lower ticket
abbrev pub DoesNotFall : Place → Place → Type 0
DoesNotFall place later = same_cell place.cell later.cell ≡ true → place.ticket ≤ later.ticket

-- each place is above all tickets that stood in its cell, and the tickets of one cell don't fall
abbrev pub AreFresh : Journals → List Place → Type 0
AreFresh journals [] = Unit {0}
AreFresh journals (place ∷ places) =
    IsAbove (journals place.cell) place.ticket × All (DoesNotFall place) places × AreFresh journals places
