use Rattle.std.proofs.Common.{take}
use Rattle.ecr_cells.specs.Shared.{AreOpen}
use Rattle.ecr_cells.proofs.shared.desk.SharedDesk.new.Given as goal

abbrev pub invariant-loop-site : goal.invariant-loop-site
invariant-loop-site l =
    AreOpen l.fn.sites.items l.limits l.gates.entries l.passes.entries (take l.site-index l.fn.sites.items)
