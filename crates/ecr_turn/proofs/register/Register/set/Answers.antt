use Rattle.std.proofs.Common.{sym}
use Rattle.ecr_turn.proofs.RegisterLaws.{replayed-snoc}
use Rattle.ecr_turn.proofs.register.Register.set.Goals as goal

pub invariant_of-self-2 : goal.invariant_of-self-2
invariant_of-self-2 c = rw c.in_ok-push.ensures.items (sym (replayed-snoc 0 c.self.inside.lines.items c.args.line))

pub returns-clause-value : goal.returns-clause-value
returns-clause-value c = rw c.in_ok-push.ensures.items (replayed-snoc 0 c.self.inside.lines.items c.args.line)
