use Rattle.std.proofs.Common.{◌≤◌}
use Rattle.ecr_model.specs.registry.Journals.{past}
use Rattle.ecr_site.proofs.tests.scrambled.Given as goal

abbrev pub invariant-loop-turn : goal.invariant-loop-turn
invariant-loop-turn l = past l.state.journal ≤ l.turn
