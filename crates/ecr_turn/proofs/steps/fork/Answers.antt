use Rattle.std.proofs.Common.{rules, ap}
use Rattle.ecr_turn.proofs.Moves.{may_split}
use Rattle.ecr_turn.proofs.steps.fork.Goals as goal

pub split_seat-other-requires : goal.split_seat-other-requires
split_seat-other-requires g c = (
  search rules,
  search rules,
  may_split _ _ _ _ _ c.name-caller.result
      (ap (λ m. m.0.stage) c.name-caller.ensures.pass.1),
)
