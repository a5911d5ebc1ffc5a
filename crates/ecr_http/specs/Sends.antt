-- What a sink gets of a piece.
use Rattle.std.specs.Prelude.{◌≡◌, ◌≤◌, ℕ, List, ◌++◌, length, Option}
use Rattle.std.specs.Io.KnownBytes.{Appends}
use Rattle.ecr_http.specs.declared.write.Sent.{Sent}
use Rattle.ecr_http.specs.declared.write.Sent.TheVariants.{Done, WriteFault}

-- the piece was appended, or a front of it, but not all, before a write failed
abbrev pub Sends : Option (List ℕ) → Option (List ℕ) → List ℕ → Sent → Type 0
Sends before after piece Done = Appends before after piece
Sends before after piece WriteFault =
    (taken : List ℕ) × (lost : List ℕ) × (piece ≡ taken ++ lost) × Appends before after taken × (1 ≤ length lost)
