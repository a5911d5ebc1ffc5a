-- The passes of a caller among many, what a turn leaves in them, and the desk (docs/DECISIONS.md, "Views").
use Rattle.std.specs.Prelude.{◌≡◌, ◌⊎◌, ℕ, List, [], Option, None, Some, is_some, IfSome, IsSome, All, option_map, if◌then◌else◌, cond}
use Rattle.std.specs.BTreeMap.{is_at}
use Rattle.std.specs.Map.{lookup}
use Rattle.std.specs.Option.{option_map_or}
use Rattle.ecr_model.specs.declared.registry.journal.CellKey.{CellKey}
use Rattle.ecr_model.specs.declared.registry.journal.CellKey.TheVariants.{Directory, Repository}
use Rattle.ecr_model.specs.declared.registry.journal.Limits.{Limits}
use Rattle.ecr_model.specs.declared.registry.journal.Place.{Place}
use Rattle.ecr_model.specs.declared.names.Name.{Name}
use Rattle.ecr_model.specs.declared.names.RepoKey.{RepoKey}
use Rattle.ecr_model.specs.declared.names.SiteId.{SiteId}
use Rattle.ecr_model.specs.names.Sites.{site_order}
use Rattle.ecr_model.specs.registry.Directories.{SiteFrame}
use Rattle.ecr_model.specs.registry.Scripts.{Ask, Told, Realm}
use Rattle.ecr_model.specs.registry.Views.{View, Views, among, ExtendsView, Glances, seen_of, past_of}
use Rattle.ecr_turn.specs.Passes.{Gate, Known, first_pass}
use Rattle.ecr_desk.specs.Desks.{DeskState, Gates, SharedState, PassState, seen_with}
use Rattle.ecr_cells.specs.SiteCells.{site_of_cell}
use Rattle.ecr_cells.specs.Doors.{frame_of_directory, frame_of_name, site_frame_of, IsOpened, door_at, Hangs, view_of, Visited}

-- ---- the passes of a caller at a site

-- the pass to a site's directory, and the doors to its repositories
pub record SiteKnown : Type 0 where
  pub directory : Known
  pub doors : List (Name × Known)

-- each door is that of its name's repository at the site
abbrev pub AreDoorsOfSite : SiteFrame → List (Name × Known) → Type 0
AreDoorsOfSite site doors = (name : Name) → IfSome (door_at doors name) (λ d. d.gate.frame ≡ frame_of_name site name)

-- the view of a name's repository, where the caller has a door
abbrev pub door_view : List (Name × Known) → Name → Option View
door_view doors name = option_map view_of (door_at doors name)

-- the view of a cell of the site
abbrev pub view_in : SiteKnown → CellKey → Option View
view_in site (Directory id) = Some (view_of site.directory)
view_in site (Repository key) = door_view site.doors key.name

-- a turn in a repository of the site was made, and nothing else: the view of its name is new
pub record Enters (realm : Realm) (doors news : List (Name × Known)) (key : RepoKey) (ask : Ask) (told : Told)
    (place : Place) : Type 0 where
  pub now : Known
  pub hangs : Hangs doors news key.name now
  pub visited : Visited realm (door_view doors key.name) (view_of now) (Repository key) ask told place

-- no turn in it was made, and nothing else; the caller may have seen more of it
pub record Peers (doors news : List (Name × Known)) (key : RepoKey) : Type 0 where
  pub now : Known
  pub hangs : Hangs doors news key.name now
  pub comes : ExtendsView (door_view doors key.name) (view_of now) []

-- the repository that is asked for, where the caller has no door to it
abbrev pub lacking : List (Name × Known) → Option RepoKey → Option RepoKey
lacking doors None = None
lacking doors (Some key) = if is_some (door_at doors key.name) then None else Some key

-- a way into the repository of that name: the door that came of the turn in the directory, where the caller had none
pub record IsWay (site : SiteFrame) (doors : List (Name × Known)) (name : Name) (door : Option Known) : Type 0 where
  pub first : IfSome door (λ d. IsOpened (frame_of_name site name) d × (door_at doors name ≡ None))
  pub there : IsSome door ⊎ IsSome (door_at doors name)

-- ---- the passes of a caller

-- the passes at each site, and how many entries the caller has added
pub record DeskKnown : Type 0 where
  pub sites : List (SiteId × SiteKnown)
  pub made : ℕ

-- the passes at a site, where it is served
abbrev pub passes_at : List (SiteId × SiteKnown) → SiteId → Option SiteKnown
passes_at sites site = lookup (is_at (site_order site)) sites

-- the views of all cells
abbrev pub views_in : List (SiteId × SiteKnown) → Views
views_in sites = λ cell. option_map_or (λ site. view_in site cell) (passes_at sites (site_of_cell cell)) None

-- the turnstiles of the sites' directories
abbrev pub gates_in : List (SiteId × SiteKnown) → Gates
gates_in sites = λ site. option_map (λ s. s.directory.gate) (passes_at sites site)

-- a pass as its desk sees it
abbrev pub pass_of : DeskKnown → PassState
pass_of pass = record { gates = gates_in pass.sites; views = views_in pass.sites; made = pass.made }

-- the desk with these sites and limits as the holder of the passes sees it
abbrev pub caller_state : Realm → DeskKnown → DeskState
caller_state realm pass = record {
  realm = realm;
  gates = Some (gates_in pass.sites);
  views = views_in pass.sites;
  parts = λ key number. [];
  made = pass.made;
}

-- the site has these passes from now on, and the others have theirs as before
abbrev pub Becomes : List (SiteId × SiteKnown) → List (SiteId × SiteKnown) → SiteId → SiteKnown → Type 0
Becomes sites news site after = (other : SiteId)
    → passes_at news other ≡ cond (is_at (site_order site) other) (Some after) (passes_at sites other)

-- only the passes of that site changed, from the first to the second, which are of the same directory
pub record Passes (sites news : List (SiteId × SiteKnown)) (site : SiteId) (before after : SiteKnown) : Type 0 where
  pub was : passes_at sites site ≡ Some before
  pub updates : Becomes sites news site after
  pub gate : after.directory.gate ≡ before.directory.gate

-- a way into the repository from the passes at its site
pub record LeadsInto (sites : List (SiteId × SiteKnown)) (key : RepoKey) (door : Option Known) : Type 0 where
  pub passes : SiteKnown
  pub found : passes_at sites key.site ≡ Some passes
  pub way : IsWay (site_frame_of passes.directory.gate.frame) passes.doors key.name door

-- no turn was made, and no other site's passes changed; the caller may have seen more of the cell
pub record Looks (realm : Realm) (before after : DeskKnown) (cell : CellKey) : Type 0 where
  pub glances : Glances (among realm) (views_in before.sites) cell (views_in after.sites)
  pub gates : gates_in after.sites ≡ gates_in before.sites
  pub made : after.made ≡ before.made

-- ---- the desk

-- the served sites and the limits, and the turnstile of each site's directory
pub record SharedCells : Type 0 where
  pub served : List SiteId
  pub limits : Limits
  pub sites : List (SiteId × Gate)

-- the turnstile of a site's directory, where it is served
abbrev pub gate_at : List (SiteId × Gate) → SiteId → Option Gate
gate_at sites site = lookup (is_at (site_order site)) sites

-- each turnstile is that of its site's directory, and each served site has one
pub record AreGates (served : List SiteId) (limits : Limits) (sites : List (SiteId × Gate)) : Type 0 where
  pub each : (site : SiteId) → IfSome (gate_at sites site)
      (λ g. g.frame ≡ frame_of_directory (record { site = site; served = served; limits = limits }))
  pub all : All (λ site. IsSome (gate_at sites site)) served

-- the desk as its callers see it
abbrev pub shared_of : SharedCells → SharedState
shared_of desk = record {
  realm = record { served = desk.served; limits = desk.limits };
  gates = gate_at desk.sites;
}

-- the desk as the holder of a pass sees it
abbrev pub seen_through : SharedCells → DeskKnown → DeskState
seen_through desk pass = seen_with (shared_of desk) (pass_of pass)

-- the caller has seen nothing, and added nothing
pub record HasSeenNothing (pass : PassState) : Type 0 where
  pub unseen : (cell : CellKey) → (seen_of (pass.views cell) ≡ []) × (past_of (pass.views cell) ≡ 0)
  pub none_made : pass.made ≡ 0

-- the passes at a site at first
abbrev pub first_known : Gate → SiteKnown
first_known gate = record { directory = first_pass gate; doors = [] }

-- the site has that turnstile and its first pass from now on, and the others have theirs as before
pub record Opens (gates gates' : List (SiteId × Gate)) (sites sites' : List (SiteId × SiteKnown))
    (site : SiteFrame) : Type 0 where
  pub gate : Gate
  pub frame_is : gate.frame ≡ frame_of_directory site
  pub gates_are : (other : SiteId) → gate_at gates' other ≡ cond (is_at (site_order site.site) other) (Some gate)
      (gate_at gates other)
  pub passes_are : Becomes sites sites' site.site (first_known gate)

-- the sites that were opened so far, each with the turnstile of its directory and the first pass to it
pub record AreOpen (served : List SiteId) (limits : Limits) (gates : List (SiteId × Gate))
    (sites : List (SiteId × SiteKnown)) (opened : List SiteId) : Type 0 where
  pub each : (site : SiteId) → IfSome (gate_at gates site)
      (λ g. g.frame ≡ frame_of_directory (record { site = site; served = served; limits = limits }))
  pub same : (site : SiteId) → gates_in sites site ≡ gate_at gates site
  pub fresh : (site : SiteId) → IfSome (passes_at sites site) (λ p. p ≡ first_known p.directory.gate)
  pub all : All (λ site. IsSome (gate_at gates site)) opened
