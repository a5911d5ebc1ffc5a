-- A turn in a repository that enters nothing, in which others are kept waiting. Tickets count from 0.
use Rattle.std.specs.Prelude.{◌≡◌, ◌≤◌, ◌+◌, true, false, List, [], ◌∷◌, ◌++◌}
use Rattle.ecr_model.specs.declared.names.RepoKey.{RepoKey}
use Rattle.ecr_model.specs.declared.registry.directory.Registered.TheVariants.{Full}
use Rattle.ecr_model.specs.declared.registry.journal.CellKey.TheVariants.{Repository}
use Rattle.ecr_model.specs.declared.registry.journal.Place.{Place}
use Rattle.ecr_model.specs.declared.requests.call.Call.TheVariants.{Describe}
use Rattle.ecr_model.specs.registry.Scripts.{Told, knows, known, registered, Script, ends, turn, then_do}
use Rattle.ecr_model.specs.registry.Views.{Views, past_of}
use Rattle.ecr_model.specs.requests.Requests.{first_turn}
use Rattle.ecr_desk.specs.Desks.{DeskState, Ran}

-- a turn in the repository: it has no answer to this question, and enters nothing
abbrev pub idle_turn : RepoKey → Script (Unit {0})
idle_turn key = turn (Repository key) (knows key.name) (λ told. ends tt)

-- that turn, where the directory told that the name is registered
unfoldable pub then_idle : RepoKey → Told → Script (Unit {0})
then_idle key (known true) = idle_turn key
then_idle key (registered (Full limit count)) = ends tt
then_idle key (registered _) = idle_turn key
then_idle key _ = ends tt

-- the directory's turn of a description, and then, where the name is registered, the idle one in the repository
unfoldable pub hold_script : RepoKey → Script (Unit {0})
hold_script key = then_do (first_turn key Describe) (then_idle key)

-- the caller had passed no such ticket of the cell before, and this is the last one that it has passed now
pub record IsLatest (before after : Views) (place : Place) : Type 0 where
  pub fresh : past_of (before place.cell) ≤ place.ticket
  pub last : past_of (after place.cell) ≡ place.ticket + 1

-- all turns were made, the last one at that place, and none added an entry
pub record Held (before after : DeskState) (key : RepoKey) (place : Place) : Type 0 where
  pub earlier : List Place
  pub ran : Ran before after (hold_script key) tt (earlier ++ place ∷ [])
  pub latest : IsLatest before.views after.views place
  pub unchanged : place.changed ≡ false
