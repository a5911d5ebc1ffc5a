use Rattle.ecr_turn.proofs.Points.{IsTurnstile-kept}
use Rattle.ecr_turn.proofs.laws.the_rule_is_the_seven_points.Goals as goal

pub returns : goal.returns
returns g c = record { points = IsTurnstile-kept _ _ }
