use Rattle.std.proofs.Common.{◌≡◌}
use Rattle.ecr_turn.proofs.tests.some_turns.Given as goal

abbrev pub invariant-loop : goal.invariant-loop
invariant-loop g l = l.pass.gate ≡ l.initial.pass.gate
