-- The cells of all sites as the journals of a desk, and a turn in one of them (docs/DECISIONS.md, "Scripts").
use Rattle.std.specs.Prelude.{◌≡◌, ℕ, ◌+◌, List, [], ◌∷◌, Option, None, Some, IfSome, IsSome, All, cond}
use Rattle.std.specs.BTreeMap.{is_at}
use Rattle.std.specs.Map.{lookup}
use Rattle.std.specs.Option.{option_map_or}
use Rattle.ecr_model.specs.declared.registry.journal.CellKey.{CellKey}
use Rattle.ecr_model.specs.declared.registry.journal.Limits.{Limits}
use Rattle.ecr_model.specs.declared.registry.journal.Line.{Line}
use Rattle.ecr_model.specs.declared.registry.journal.Place.{Place}
use Rattle.ecr_model.specs.declared.names.SiteId.{SiteId}
use Rattle.ecr_model.specs.registry.Scripts.{Ask, Told, World, next_ticket, next_turn, entered, place_of, entry_count}
use Rattle.ecr_model.specs.names.Sites.{site_order}
use Rattle.ecr_model.specs.registry.Soundness.{AreSound}
use Rattle.ecr_desk.specs.Desks.{DeskState, StillState, seen_by}
use Rattle.ecr_cells.specs.SiteCells.{Site, lines_of_cell, site_of_cell, IsQuiet, IsTurn}

-- the cells of a site, where it is served
abbrev pub site_at : List (SiteId × Site) → SiteId → Option Site
site_at sites site = lookup (is_at (site_order site)) sites

-- the journal of a cell; that of a site that isn't served is empty
abbrev pub lines_at : List (SiteId × Site) → CellKey → List Line
lines_at sites cell = option_map_or (λ kept. lines_of_cell kept cell) (site_at sites (site_of_cell cell)) []

-- the journals of all cells; no upload has a part yet
abbrev pub world_of : List (SiteId × Site) → World
world_of sites = record { journals = lines_at sites; parts = λ key number. [] }

-- the served sites and the limits, the cells of each site, and the number of entries that were added
pub record Desk : Type 0 where
  pub served : List SiteId
  pub limits : Limits
  pub sites : List (SiteId × Site)
  pub made : ℕ

-- the sites and limits, the journals, and the number of entries of a desk
abbrev pub still_state_of : Desk → StillState
still_state_of desk = record {
  realm = record { served = desk.served; limits = desk.limits };
  world = world_of desk.sites;
  made = desk.made;
}

-- the same as its caller sees it, which is alone
abbrev pub state_of : Desk → DeskState
state_of desk = seen_by (still_state_of desk)

-- the cells are those of that site
pub record IsOfSite (served : List SiteId) (limits : Limits) (site : SiteId) (kept : Site) : Type 0 where
  pub site_is : kept.directory.site ≡ site
  pub served_are : kept.directory.served ≡ served
  pub limits_are : kept.directory.limits ≡ limits

-- the cells of each site are its own, each served site has some, and every journal is sound
pub record AreKept (served : List SiteId) (limits : Limits) (sites : List (SiteId × Site)) : Type 0 where
  pub each : (site : SiteId) → IfSome (site_at sites site) (IsOfSite served limits site)
  pub all : All (λ site. IsSome (site_at sites site)) served
  pub sound : AreSound (record { served = served; limits = limits }) (lines_at sites)

-- the site has cells, and they are its own
pub record HasCells (sites : List (SiteId × Site)) (site : SiteId) : Type 0 where
  pub kept : Site
  pub found : site_at sites site ≡ Some kept
  pub site_is : kept.directory.site ≡ site

-- a site with no name
abbrev pub empty_site : List SiteId → Limits → SiteId → Site
empty_site served limits site =
    record { directory = record { site = site; served = served; limits = limits; journal = [] }; repositories = [] }

-- each site has no name, and no journal has a line
abbrev pub AreEmpty : List SiteId → Limits → List (SiteId × Site) → Type 0
AreEmpty served limits sites = (site : SiteId)
    → IfSome (site_at sites site) (λ kept. kept ≡ empty_site served limits site)

-- the site has no name from now on, and the other sites are as before
abbrev pub Adds : List (SiteId × Site) → List (SiteId × Site) → SiteId → List SiteId → Limits → Type 0
Adds sites news site served limits = (other : SiteId)
    → site_at news other ≡ cond (is_at (site_order site) other) (Some (empty_site served limits site))
    (site_at sites other)

-- ---- turns

-- only the cells of that site changed, from the first to the second
pub record Changes (sites news : List (SiteId × Site)) (site : SiteId) (before after : Site) : Type 0 where
  pub was : site_at sites site ≡ Some before
  pub updates : (other : SiteId) → site_at news other ≡ cond (is_at (site_order site) other) (Some after)
      (site_at sites other)

-- the next turn in a cell, by caller 0: its answer, its place, and the cells of its site afterwards
pub record Turns (sites news : List (SiteId × Site)) (cell : CellKey) (ask : Ask) (told : Told)
    (place : Place) : Type 0 where
  pub before : Site
  pub after : Site
  pub changes : Changes sites news (site_of_cell cell) before after
  pub turn : IsTurn before after cell ask told place

-- no turn was made at that site, nor at another
pub record Rests (sites news : List (SiteId × Site)) (site : SiteId) : Type 0 where
  pub before : Site
  pub after : Site
  pub changes : Changes sites news site before after
  pub quiet : IsQuiet before after

-- the next turn in a cell, by caller 0: its answer, its place, and the desk afterwards, which counted its entry
pub record Took (before after : StillState) (cell : CellKey) (ask : Ask) (told : Told) (place : Place) : Type 0 where
  pub realm_stays : after.realm ≡ before.realm
  pub told_is : told ≡ (next_turn before.realm before.world cell ask).told
  pub placed : place ≡ place_of cell (next_ticket before.world cell) (next_turn before.realm before.world cell ask)
  pub left : after.world ≡ entered before.realm before.world cell (next_turn before.realm before.world cell ask).entry
  pub counted : after.made ≡ before.made + entry_count (next_turn before.realm before.world cell ask).entry

-- the place of a turn, where it was made
abbrev pub places_made : Option Place → List Place
places_made None = []
places_made (Some place) = place ∷ []
