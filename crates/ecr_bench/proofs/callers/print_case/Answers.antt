use denote.Param.Send.{sendable}
use Rattle.std.proofs.Crossing.{crosses}
use Rattle.ecr_cells.proofs.CrossingLemmas.{DeskPass-send, SharedDesk-sync}
use Rattle.ecr_bench.proofs.callers.print_case.Goals as goal

pub time_callers-requires-send-D-Pass : goal.time_callers-requires-send-D-Pass
time_callers-requires-send-D-Pass g c κs within = search (DeskPass-send, sendable, crosses) depth 60 fits 20000

pub time_callers-requires-sync-D : goal.time_callers-requires-sync-D
time_callers-requires-sync-D g c κs within = search (SharedDesk-sync, sendable, crosses) depth 60 fits 20000
