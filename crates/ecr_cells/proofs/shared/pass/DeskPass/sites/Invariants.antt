use Rattle.std.proofs.Common.{◌≡◌, ◌++◌}
use Rattle.std.specs.Map.{keys_of}
use Rattle.ecr_cells.proofs.shared.pass.DeskPass.sites.Given as goal

abbrev pub invariant-loop-site : goal.invariant-loop-site
invariant-loop-site l = l.sites.items ++ l.site-iterator ≡ keys_of l.fn.self.sites
