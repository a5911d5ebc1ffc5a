use Rattle.std.proofs.Common.{rules}
use Rattle.ecr_turn.proofs.Moves.{may_draw}
use Rattle.ecr_turn.proofs.steps.draw_now.Goals as goal

pub compare_exchange-found-requires : goal.compare_exchange-found-requires
compare_exchange-found-requires g c =
    (search rules, search rules, may_draw _ _ _ _ _ _ _ c.requires.idle (search rules))
