-- One call of one caller among others, turn by turn.
use Rattle.std.specs.Prelude.{◌≡◌, ℕ, List, [], ◌∷◌, ◌++◌, Bool, None, Some, true, false}
use Rattle.ecr_model.specs.declared.requests.call.Call.TheVariants.{Create, Delete}
use Rattle.ecr_model.specs.declared.registry.journal.CellKey.{CellKey}
use Rattle.ecr_model.specs.declared.registry.journal.CellKey.TheVariants.{Directory, Repository}
use Rattle.ecr_model.specs.declared.registry.journal.Line.{Line}
use Rattle.ecr_model.specs.declared.requests.refusal.Refusal.TheVariants.{RepositoryAlreadyExists}
use Rattle.ecr_model.specs.declared.requests.reply.Reply.TheVariants.{Created, Refused}
use Rattle.ecr_model.specs.declared.registry.repository.Mutability.TheVariants.{Mutable, Immutable}
use Rattle.ecr_model.specs.registry.Directories as directories
use Rattle.ecr_model.specs.examples.JournalExample.{app, turn}
use Rattle.ecr_model.specs.registry.Limits.{standard}
use Rattle.ecr_model.specs.requests.Requests.{Decided, plain, call_script}
use Rattle.ecr_model.specs.registry.Scripts.{Script, Realm}
use Rattle.ecr_model.specs.registry.Steps.{line_of}
use Rattle.ecr_model.specs.registry.Views.{View, Views, journals_of, with_view, Terms, PlacedTurn, Visits, answer_at, entered_in}

-- a registry that serves one site
abbrev pub realm : Realm
realm = record { served = app.site ∷ []; limits = standard }

-- callers among others
abbrev pub terms : Terms
terms = record { realm = realm; alone = false }

-- no cell was visited
abbrev pub unvisited : Views
unvisited = λ cell. None

-- `team/app` was registered by caller 0
abbrev pub registered_lines : List Line
registered_lines = directories.registration_line 0 0 app.name ∷ []

-- it was created by caller 0 and deleted by caller 1
abbrev pub before : List Line
before = line_of 0 (turn 1 1700000000) (Create Mutable) ∷ line_of 1 (turn 4 1700000001) (Delete false) ∷ []

-- the creation by a caller that is number 2 in the repository
abbrev pub creation : Line
creation = line_of 2 (turn 5 1700000002) (Create Immutable)

-- its call
abbrev pub create : Script Decided
create = call_script app (Create Immutable) None 1700000002

-- the answer
abbrev pub created : Decided
created = plain (Created 1700000002 Immutable)

-- a turn at that ticket
abbrev pub at : CellKey → ℕ → Bool → PlacedTurn
at cell ticket changed = record { place = record { cell = cell; ticket = ticket; changed = changed }; sealed = None }

-- its turns: at ticket 2 of the directory, where the name is known, and at ticket 5 of the repository
abbrev pub turns : List PlacedTurn
turns = at (Directory app.site) 2 false ∷ at (Repository app) 5 true ∷ []

-- its view of the directory, where it is number 3, after its turn there
abbrev pub of_directory : View
of_directory = record { caller = 3; past = 3; seen = registered_lines }

-- its view of the repository with these lines
abbrev pub of_repository : List Line → View
of_repository lines = record { caller = 2; past = 6; seen = lines }

-- the views of both cells
abbrev pub views : List Line → Views
views lines = with_view (with_view unvisited (Directory app.site) of_directory) (Repository app) (of_repository lines)

-- the views after the call
abbrev pub after : Views
after = views (before ++ creation ∷ [])

-- the views later, when caller 1 has deleted the repository once more
abbrev pub later : Views
later = views (before ++ creation ∷ line_of 1 (turn 9 1700000003) (Delete false) ∷ [])

-- the caller, which had visited no cell, makes both turns; over the later journal its call has the same answer at its
-- places, and enters the same line; a turn before the deletion would have been refused
pub record ACallIsVisited : Type 0 where
  pub visited : Visits terms unvisited after create turns created
  pub stays : answer_at realm (journals_of later) create turns ≡ Some created
  pub entered : entered_in realm (journals_of later) (Repository app) 2 create turns ≡ creation ∷ []
  pub earlier : answer_at realm (journals_of later) create
      (at (Directory app.site) 2 false ∷ at (Repository app) 3 false ∷ [])
      ≡ Some (plain (Refused RepositoryAlreadyExists))
  pub too_few : answer_at realm (journals_of later) create (at (Directory app.site) 2 false ∷ []) ≡ None
