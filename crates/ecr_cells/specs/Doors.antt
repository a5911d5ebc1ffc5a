-- Cells behind turnstiles, the doors to them, and a caller's turn in one (docs/DECISIONS.md, "Views"). Tickets count
-- from 0.
use Rattle.std.specs.Prelude.{◌≡◌, List, [], Option, None, Some, IfSome, IsSome, cond}
use Rattle.std.specs.BTreeMap.{is_at}
use Rattle.std.specs.Map.{lookup}
use Rattle.ecr_model.specs.declared.registry.journal.CellKey.{CellKey}
use Rattle.ecr_model.specs.declared.registry.journal.CellKey.TheVariants.{Directory, Repository}
use Rattle.ecr_model.specs.declared.registry.journal.Frame.{Frame}
use Rattle.ecr_model.specs.declared.registry.journal.Limits.{Limits}
use Rattle.ecr_model.specs.declared.registry.journal.Place.{Place}
use Rattle.ecr_model.specs.declared.names.Name.{Name}
use Rattle.ecr_model.specs.declared.names.RepoKey.{RepoKey}
use Rattle.ecr_model.specs.declared.names.SiteId.{SiteId}
use Rattle.ecr_model.specs.declared.requests.refusal.Refusal.{Refusal}
use Rattle.ecr_model.specs.registry.Directories.{SiteFrame, name_order}
use Rattle.ecr_model.specs.registry.Scripts.{Ask, Told, Realm}
use Rattle.ecr_model.specs.registry.Views.{View, PlacedTurn, among, Visit, result_of}
use Rattle.ecr_model.specs.requests.Requests.{key_at}
use Rattle.ecr_turn.specs.Passes.{Known}
use Rattle.ecr_repo.specs.States.{State}
use Rattle.ecr_site.specs.States.{SiteJournal}
use Rattle.ecr_cells.specs.declared.deed.Done.{Done}
use Rattle.ecr_cells.specs.Deeds.{refusal_of}
use Rattle.ecr_cells.specs.SiteCells.{site_of_cell}

-- ---- cells behind turnstiles

-- a repository, and the sites that its registry serves
pub record RepositoryAt : Type 0 where
  pub state : State
  pub served : List SiteId

-- the values that are fixed throughout a repository's journal
abbrev pub frame_of_repository : RepositoryAt → Frame
frame_of_repository r = record {
  cell = Repository r.state.key;
  served = r.served;
  limits = r.state.limits;
}

-- the values that are fixed throughout a directory's journal
abbrev pub frame_of_directory : SiteFrame → Frame
frame_of_directory d = record { cell = Directory d.site; served = d.served; limits = d.limits }

-- the values that are fixed throughout the journal of the site's repository of that name
abbrev pub frame_of_name : SiteFrame → Name → Frame
frame_of_name d name = record {
  cell = Repository (key_at d.site name);
  served = d.served;
  limits = d.limits;
}

-- the site of a directory with this frame
abbrev pub site_frame_of : Frame → SiteFrame
site_frame_of frame = record { site = site_of_cell frame.cell; served = frame.served; limits = frame.limits }

-- the sites and limits of a cell
abbrev pub realm_of_frame : Frame → Realm
realm_of_frame frame = record { served = frame.served; limits = frame.limits }

-- ---- doors

-- a pass to a turnstile of this frame, which has seen nothing
pub record IsOpened (frame : Frame) (pass : Known) : Type 0 where
  pub frame_is : pass.gate.frame ≡ frame
  pub at_first : pass.past ≡ 0
  pub unseen : pass.seen ≡ []

-- the door of a name, where there is one
abbrev pub door_at : List (Name × Known) → Name → Option Known
door_at doors name = lookup (is_at (name_order name)) doors

-- the name has that door from now on, and the others have theirs as before
abbrev pub Hangs : List (Name × Known) → List (Name × Known) → Name → Known → Type 0
Hangs doors news name door = (other : Name)
    → door_at news other ≡ cond (is_at (name_order name) other) (Some door) (door_at doors other)

-- a site's directory, and the doors from which those of callers are split
pub record DirectoryAt : Type 0 where
  pub directory : SiteJournal
  pub doors : List (Name × Known)

-- the limits are the site's, and each door is that of its name's repository, by a pass that has seen nothing
pub record AreDoors (limits : Limits) (site : SiteFrame) (doors : List (Name × Known)) : Type 0 where
  pub limited : limits ≡ site.limits
  pub named : (name : Name) → IfSome (door_at doors name) (IsOpened (frame_of_name site name))

-- the door to a wanted repository of the site; none where none is wanted
abbrev pub IsWanted : SiteFrame → Option RepoKey → Option Known → Type 0
IsWanted site None door = door ≡ None
IsWanted site (Some key) door = IsSome door × IfSome door (IsOpened (frame_of_name site key.name))

-- a refused call has no door
abbrev pub GivenUnless : SiteFrame → Option RepoKey → Option Known → Option Refusal → Type 0
GivenUnless site wanted door None = IsWanted site wanted door
GivenUnless site wanted door (Some refusal) = door ≡ None

-- the door that comes of a turn in a directory: to the wanted repository where its name is registered, and else none
abbrev pub IsGiven : SiteFrame → Option RepoKey → Done → Option Known → Type 0
IsGiven site wanted done door = GivenUnless site wanted door (refusal_of done)

-- ---- turns of one caller among many

-- a pass as its holder's view of the cell
abbrev pub view_of : Known → View
view_of pass = record { caller = pass.caller; past = pass.past; seen = pass.seen }

-- a turn in which no upload was completed
abbrev pub made_at : Place → PlacedTurn
made_at place = record { place = place; sealed = None }

-- a turn in that cell was made, with that answer
pub record Visited (realm : Realm) (was : Option View) (now : View) (cell : CellKey) (ask : Ask) (told : Told)
    (place : Place) : Type 0 where
  pub visit : Visit (among realm) was now cell ask (made_at place)
  pub told_is : told ≡ (result_of realm cell now.seen ask (made_at place)).told
