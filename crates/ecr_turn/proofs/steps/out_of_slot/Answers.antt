use Rattle.std.proofs.Common.{rules, arith}
use Rattle.std.proofs.lemmas.Grind.{common_steps}
use Rattle.ecr_turn.proofs.steps.out_of_slot.Goals as goal

pub returns : goal.returns
returns g c = record {
  state = (c.requires.one.0, c.requires.one.1, (first_of (search rules, grind (arith, common_steps))));
}
