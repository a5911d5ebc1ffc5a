-- The cells of a site, and a turn in one of them (docs/DECISIONS.md, "Scripts"). Tickets count from 0.
use Rattle.std.specs.Prelude.{◌≡◌, false, cond, List, [], length, None, Option, Some, IfSome}
use Rattle.std.specs.BTreeMap.{is_at}
use Rattle.std.specs.Map.{lookup}
use Rattle.std.specs.Option.{option_map_or}
use Rattle.ecr_model.specs.declared.registry.journal.CellKey.{CellKey}
use Rattle.ecr_model.specs.declared.registry.journal.CellKey.TheVariants.{Directory, Repository}
use Rattle.ecr_model.specs.declared.registry.journal.Limits.{Limits}
use Rattle.ecr_model.specs.declared.registry.journal.Line.{Line}
use Rattle.ecr_model.specs.declared.registry.journal.Place.{Place}
use Rattle.ecr_model.specs.declared.names.Name.{Name}
use Rattle.ecr_model.specs.declared.names.SiteId.{SiteId}
use Rattle.ecr_model.specs.registry.Directories.{name_order}
use Rattle.ecr_model.specs.registry.Journals.{past}
use Rattle.ecr_model.specs.requests.Requests.{key_at}
use Rattle.ecr_model.specs.registry.Scripts.{Ask, Told, Realm, Turned, turn_at, lines_after, place_of, same_cell}
use Rattle.ecr_repo.specs.States.{State}
use Rattle.ecr_site.specs.States.{SiteJournal}
use Rattle.ecr_cells.specs.Turns.{turn_in_repository}

-- a site's directory, and its repositories that had a turn, in the order of their names
pub record Site : Type 0 where
  pub directory : SiteJournal
  pub repositories : List (Name × State)

-- the state of a name, where its repository had a turn
abbrev pub state_of_name : List (Name × State) → Name → Option State
state_of_name repositories name = lookup (is_at (name_order name)) repositories

-- the journal of a name's repository; that of one without a turn is empty
abbrev pub lines_of_name : List (Name × State) → Name → List Line
lines_of_name repositories name = option_map_or (λ state. state.journal) (state_of_name repositories name) []

-- the journal of a cell of the site
abbrev pub lines_of_cell : Site → CellKey → List Line
lines_of_cell site (Directory id) = site.directory.journal
lines_of_cell site (Repository key) = lines_of_name site.repositories key.name

-- the name has that state from now on, and the others have theirs as before
abbrev pub Puts : List (Name × State) → List (Name × State) → Name → State → Type 0
Puts repositories news name state = (other : Name)
    → state_of_name news other ≡ cond (is_at (name_order name) other) (Some state) (state_of_name repositories other)

-- the state is that of this name of the site, and its tickets are 0, 1, 2, ..
pub record IsOfName (directory : SiteJournal) (name : Name) (state : State) : Type 0 where
  pub key : state.key ≡ key_at directory.site name
  pub limits : state.limits ≡ directory.limits
  pub numbered : past state.journal ≡ length state.journal

-- the limits are the directory's, whose tickets are 0, 1, 2, .., and each state is that of its name
pub record AreOfSite (limits : Limits) (directory : SiteJournal) (repositories : List (Name × State)) : Type 0 where
  pub limited : limits ≡ directory.limits
  pub numbered : past directory.journal ≡ length directory.journal
  pub named : (name : Name) → IfSome (state_of_name repositories name) (IsOfName directory name)

-- ---- turns

-- the site of a cell
abbrev pub site_of_cell : CellKey → SiteId
site_of_cell (Directory site) = site
site_of_cell (Repository key) = key.site

-- the sites and limits that the site's directory knows
abbrev pub realm_of : SiteJournal → Realm
realm_of directory = record { served = directory.served; limits = directory.limits }

-- the next turn in a cell with these lines
abbrev pub turn_after : Realm → CellKey → List Line → Ask → Turned
turn_after realm cell lines ask = turn_at realm cell lines (past lines) None ask

-- the next turn in the repository, by caller 0: its answer, its place, and the journal afterwards
pub record IsNextTurn (before after : State) (ask : Ask) (told : Told) (place : Place) : Type 0 where
  pub told_is : told ≡ (turn_in_repository before (past before.journal) ask).told
  pub placed : place ≡ place_of (Repository before.key) (past before.journal)
      (turn_in_repository before (past before.journal) ask)
  pub left : after ≡ record before {
    journal = lines_after 0 (past before.journal) before.journal
        (turn_in_repository before (past before.journal) ask).entry;
  }

-- the site, the served sites and the limits are as before
pub record IsSame (before after : SiteJournal) : Type 0 where
  pub site : after.site ≡ before.site
  pub served : after.served ≡ before.served
  pub limits : after.limits ≡ before.limits

-- no journal of the site changed
pub record IsQuiet (before after : Site) : Type 0 where
  pub same : IsSame before.directory after.directory
  pub lines : (cell : CellKey) → lines_of_cell after cell ≡ lines_of_cell before cell

-- the next turn in a cell of the site, by caller 0: its answer, its place, and its entry in the journal of that cell
-- alone
pub record IsTurn (before after : Site) (cell : CellKey) (ask : Ask) (told : Told) (place : Place) : Type 0 where
  pub same : IsSame before.directory after.directory
  pub told_is : told ≡ (turn_after (realm_of before.directory) cell (lines_of_cell before cell) ask).told
  pub placed : place ≡ place_of cell (past (lines_of_cell before cell))
      (turn_after (realm_of before.directory) cell (lines_of_cell before cell) ask)
  pub entered : lines_of_cell after cell ≡ lines_after 0 (past (lines_of_cell before cell)) (lines_of_cell before cell)
      (turn_after (realm_of before.directory) cell (lines_of_cell before cell) ask).entry
  pub others : (other : CellKey) → same_cell cell other ≡ false → site_of_cell other ≡ before.directory.site
      → lines_of_cell after other ≡ lines_of_cell before other
