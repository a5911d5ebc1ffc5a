use Rattle.std.proofs.Common.{◌≡◌, take}
use Rattle.ecr_cells.specs.Shared.{pass_of}
use Rattle.ecr_cells.specs.Splits.{AreSitesSplitting}
use Rattle.ecr_cells.proofs.shared.desk.SharedDesk.split.Given as goal

abbrev pub invariant-loop-site : goal.invariant-loop-site
invariant-loop-site g l = record {
  kept : pass_of l.pass ≡ pass_of l.fn.pass;
  splitting : AreSitesSplitting (pass_of l.fn.pass) l.splits.entries (take l.site-index l.site-items);
}
