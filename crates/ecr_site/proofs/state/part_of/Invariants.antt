use Rattle.std.proofs.Common.{◌≡◌, map}
use Rattle.ecr_site.proofs.state.part_of.Given as goal

abbrev pub invariant-loop-name : goal.invariant-loop-name
invariant-loop-name l = l.page.items ≡ map (λ n. n.now) l.yielded
