use Rattle.std.proofs.Common.{take}
use Rattle.ecr_cells.specs.Splits.{AreSplitting}
use Rattle.ecr_cells.proofs.shared.doors.split_doors.Given as goal

abbrev pub invariant-loop-name : goal.invariant-loop-name
invariant-loop-name g l =
    AreSplitting l.fn.doors.entries l.doors.entries l.splits.entries (take l.name-index l.name-items)
