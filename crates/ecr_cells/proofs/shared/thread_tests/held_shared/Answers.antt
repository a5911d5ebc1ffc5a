use denote.Param.Send.{sendable}
use Rattle.std.proofs.Crossing.{crosses}
use Rattle.ecr_cells.proofs.CrossingLemmas.{DeskPass-send, SharedDesk-sync}
use Rattle.ecr_cells.proofs.shared.thread_tests.held_shared.Goals as goal

pub held_beside-requires-send-D-Pass : goal.held_beside-requires-send-D-Pass
held_beside-requires-send-D-Pass g c κs within = search (DeskPass-send, sendable, crosses) depth 60 fits 20000

pub held_beside-requires-sync-D : goal.held_beside-requires-sync-D
held_beside-requires-sync-D g c κs within = search (SharedDesk-sync, sendable, crosses) depth 60 fits 20000
