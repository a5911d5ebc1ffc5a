-- Which desks may cross threads.
use denote.Param.Send.{IsSend, IsSync, sendable}
use Rattle.std.proofs.Crossing.{crosses}
use Rattle.std.proofs.MapsCrossing as maps
use Rattle.ecr_model.proofs.lemmas.registry.CrossingLemmas.{Line-send, Name-send, SiteId-send}
use Rattle.ecr_model.specs.contracts.names.SiteId as SiteId
use Rattle.ecr_model.specs.contracts.values.shared.SharedText as SharedText
use Rattle.ecr_site.proofs.CrossingLemmas.{SiteState-send}
use Rattle.ecr_repo.specs.contracts.state.RepoState as RepoState
use Rattle.ecr_cells.specs.contracts.site_cells.SiteCells as SiteCells
use Rattle.ecr_cells.specs.contracts.desk.SoloDesk as SoloDesk
use Rattle.ecr_cells.specs.contracts.shared.repository.SharedRepository as SharedRepository
use Rattle.ecr_cells.specs.contracts.shared.door.Door as Door
use Rattle.ecr_cells.specs.contracts.shared.directory.SharedDirectory as SharedDirectory
use Rattle.ecr_cells.specs.contracts.shared.desk.SharedDesk as SharedDesk
use Rattle.ecr_cells.specs.contracts.shared.pass.DeskPass as DeskPass
use Rattle.ecr_turn.proofs.turnstile.Turnstile.TheSendSync as turnstile
use Rattle.ecr_turn.proofs.turnstile.Pass.TheSendSync as pass

RepoState-send : IsSend RepoState.the_row
RepoState-send = search (Line-send, sendable, crosses) depth 60 fits 20000

SiteCells-send : IsSend SiteCells.the_row
SiteCells-send = search (SiteState-send, RepoState-send, Name-send, maps.crosses, sendable, crosses) depth 60 fits 20000

-- a desk of one caller may cross threads
pub SoloDesk-send : IsSend SoloDesk.the_row
SoloDesk-send = search (SiteCells-send, SiteId-send, maps.crosses, sendable, crosses) depth 60 fits 20000

SharedRepository-send : IsSend SharedRepository.the_row
SharedRepository-send = search (RepoState-send, sendable, crosses) depth 60 fits 20000

Door-send : IsSend Door.the_row
Door-send = search (SharedRepository-send, turnstile.the_send, turnstile.the_sync, pass.the_send, sendable, crosses)
    depth 60 fits 20000

SharedDirectory-send : IsSend SharedDirectory.the_row
SharedDirectory-send = search (SiteState-send, Door-send, Name-send, maps.crosses, sendable, crosses)
    depth 60 fits 20000

SharedText-sync : IsSync SharedText.the_row
SharedText-sync = search (sendable, crosses) depth 60 fits 20000

SiteId-sync : IsSync SiteId.the_row
SiteId-sync = search (SharedText-sync, sendable, crosses) depth 60 fits 20000

-- a desk of many callers may cross threads
pub SharedDesk-send : IsSend SharedDesk.the_row
SharedDesk-send = search (SharedDirectory-send, SiteId-send, turnstile.the_send, maps.crosses, sendable, crosses)
    depth 60 fits 20000

-- threads may share a desk of many callers
pub SharedDesk-sync : IsSync SharedDesk.the_row
SharedDesk-sync = search (SharedDirectory-send, SiteId-sync, turnstile.the_sync, maps.crosses, sendable, crosses)
    depth 60 fits 20000

-- passes may cross threads
pub DeskPass-send : IsSend DeskPass.the_row
DeskPass-send =
    search (SharedDirectory-send, Door-send, SiteId-send, Name-send, pass.the_send, maps.crosses, sendable, crosses)
    depth 60 fits 20000
