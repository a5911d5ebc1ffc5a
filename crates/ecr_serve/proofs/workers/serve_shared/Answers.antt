use denote.Param.Send.{sendable}
use Rattle.std.proofs.Crossing.{crosses}
use Rattle.ecr_cells.proofs.CrossingLemmas.{DeskPass-send, SharedDesk-sync}
use Rattle.ecr_serve.proofs.workers.serve_shared.Goals as goal

pub serve_links-requires-send-D-Pass : goal.serve_links-requires-send-D-Pass
serve_links-requires-send-D-Pass g c κs within = search (DeskPass-send, sendable, crosses) depth 60 fits 20000

pub serve_links-requires-sync-D : goal.serve_links-requires-sync-D
serve_links-requires-sync-D g c κs within = search (SharedDesk-sync, sendable, crosses) depth 60 fits 20000
