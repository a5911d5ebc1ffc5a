use Rattle.std.proofs.Common.{map, take}
use Rattle.ecr_serve.specs.Words.{AreSites}
use Rattle.ecr_serve.proofs.words.read_sites.Given as goal

abbrev pub invariant-loop-i : goal.invariant-loop-i
invariant-loop-i g l = AreSites (map g.S.AsStr.text (take l.i l.words)) l.sites.items
