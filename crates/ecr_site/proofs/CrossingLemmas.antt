-- Which states may cross threads.
use denote.Param.Send.{IsSend, sendable}
use Rattle.std.proofs.Crossing.{crosses}
use Rattle.std.proofs.MapsCrossing as maps
use Rattle.ecr_model.proofs.lemmas.registry.CrossingLemmas.{Line-send, Name-send, SiteId-send}
use Rattle.ecr_site.specs.contracts.state.SiteState as SiteState

-- a site's state may cross threads
pub SiteState-send : IsSend SiteState.the_row
SiteState-send = search (Line-send, Name-send, SiteId-send, maps.crosses, sendable, crosses) depth 60 fits 20000
