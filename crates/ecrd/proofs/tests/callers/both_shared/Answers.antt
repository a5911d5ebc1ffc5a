use denote.Param.Send.{sendable}
use Rattle.std.proofs.Crossing.{crosses}
use Rattle.ecr_cells.proofs.CrossingLemmas.{DeskPass-send, SharedDesk-sync}
use Rattle.ecrd.proofs.tests.callers.both_shared.Goals as goal

pub both-requires-send-D-Pass : goal.both-requires-send-D-Pass
both-requires-send-D-Pass g c κs within = search (DeskPass-send, sendable, crosses) depth 60 fits 20000

pub both-requires-sync-D : goal.both-requires-sync-D
both-requires-sync-D g c κs within = search (SharedDesk-sync, sendable, crosses) depth 60 fits 20000
