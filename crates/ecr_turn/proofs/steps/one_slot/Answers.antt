use Rattle.std.proofs.Common.{rules, arith}
use Rattle.std.proofs.lemmas.Grind.{common_steps}
use Rattle.ecr_turn.proofs.steps.one_slot.Goals as goal

pub returns-in-Ok-push-clause-ok : goal.returns-in-Ok-push-clause-ok
returns-in-Ok-push-clause-ok g c = (
  c.in-Ok.state,
  (first_of (search rules, grind (arith, common_steps))),
  (first_of (search rules, grind (arith, common_steps))),
)
