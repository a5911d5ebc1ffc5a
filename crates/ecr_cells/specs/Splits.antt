-- A pass for another caller: what it begins with, and what stays of the one that it is split from.
use Rattle.std.specs.Prelude.{◌≡◌, ◌≢◌, List, Option, None, Some, IfSome, IsSome, All, option_map}
use Rattle.ecr_model.specs.declared.registry.journal.CellKey.{CellKey}
use Rattle.ecr_model.specs.declared.names.Name.{Name}
use Rattle.ecr_model.specs.declared.names.SiteId.{SiteId}
use Rattle.ecr_model.specs.registry.Views.{View}
use Rattle.ecr_turn.specs.Passes.{Gate, Known}
use Rattle.ecr_desk.specs.Desks.{PassState}
use Rattle.ecr_cells.specs.SiteCells.{site_of_cell}
use Rattle.ecr_cells.specs.Doors.{Hangs, door_at, view_of}
use Rattle.ecr_cells.specs.Shared.{SiteKnown, Becomes, passes_at, view_in}

-- the view of another caller, who begins with what this one has seen: none where this one has none
unfoldable pub IsSplitOff : Option View → Option View → Type 0
IsSplitOff None None = Unit {0}
IsSplitOff (Some view) (Some other) =
    (other.past ≡ view.past) × (other.seen ≡ view.seen) × (other.caller ≢ view.caller)
IsSplitOff _ _ = ⊥

-- the pass of another caller to the same turnstile
unfoldable pub IsSplitFrom : Option Known → Option Known → Type 0
IsSplitFrom None None = Unit {0}
IsSplitFrom (Some pass) (Some other) =
    (other.gate ≡ pass.gate) × (other.past ≡ pass.past) × (other.seen ≡ pass.seen) × (other.caller ≢ pass.caller)
IsSplitFrom _ _ = ⊥

-- ---- doors

-- the turnstile of a pass, and its holder's view of the cell
abbrev pub standing : Known → Gate × View
standing pass = (pass.gate, view_of pass)

-- the doors are as before, but for the numbers of callers that they know of
abbrev pub DoorsStay : List (Name × Known) → List (Name × Known) → Type 0
DoorsStay doors news = (name : Name)
    → option_map standing (door_at news name) ≡ option_map standing (door_at doors name)

-- the doors of another caller
abbrev pub AreSplit : List (Name × Known) → List (Name × Known) → Type 0
AreSplit doors splits = (name : Name) → IsSplitFrom (door_at doors name) (door_at splits name)

-- the other caller has a door of that name too
pub record SplitsDoor (doors splits news : List (Name × Known)) (name : Name) : Type 0 where
  pub door : Known
  pub from : IsSplitFrom (door_at doors name) (Some door)
  pub hangs : Hangs splits news name door

-- the doors of those names are split so far
pub record AreSplitting (doors news splits : List (Name × Known)) (names : List Name) : Type 0 where
  pub kept : DoorsStay doors news
  pub each : (name : Name) → IfSome (door_at splits name) (λ d. IsSplitFrom (door_at doors name) (Some d))
  pub all : All (λ name. IsSome (door_at splits name)) names

-- ---- sites

-- the passes at a site are as before, but for the numbers of callers that they know of
pub record SiteStays (before after : SiteKnown) : Type 0 where
  pub directory : standing after.directory ≡ standing before.directory
  pub doors : DoorsStay before.doors after.doors

-- the passes of another caller at the same site
pub record IsSplitSite (passes other : SiteKnown) : Type 0 where
  pub directory : IsSplitFrom (Some passes.directory) (Some other.directory)
  pub doors : AreSplit passes.doors other.doors

-- the passes at that site of another caller, as the desk sees them
pub record IsSplitAt (pass : PassState) (site : SiteId) (passes : SiteKnown) : Type 0 where
  pub gate : pass.gates site ≡ Some passes.directory.gate
  pub seen : (cell : CellKey) → site_of_cell cell ≡ site → IsSplitOff (pass.views cell) (view_in passes cell)

-- the other caller has passes at that site too
pub record SplitsSite (pass : PassState) (splits news : List (SiteId × SiteKnown)) (site : SiteId) : Type 0 where
  pub passes : SiteKnown
  pub from : IsSplitAt pass site passes
  pub hangs : Becomes splits news site passes

-- the passes at those sites are split so far
pub record AreSitesSplitting (pass : PassState) (splits : List (SiteId × SiteKnown))
    (sites : List SiteId) : Type 0 where
  pub each : (site : SiteId) → IfSome (passes_at splits site) (IsSplitAt pass site)
  pub all : All (λ site. IsSome (passes_at splits site)) sites
