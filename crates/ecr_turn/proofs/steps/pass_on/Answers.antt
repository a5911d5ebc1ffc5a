use Rattle.std.proofs.Common.{rules}
use Rattle.ecr_turn.proofs.Moves.{may_pass_on}
use Rattle.ecr_turn.proofs.steps.pass_on.Goals as goal

pub fetch_add-requires : goal.fetch_add-requires
fetch_add-requires g c = let q = c.settle.ensures in (
  search rules,
  search rules,
  may_pass_on _ _ _ _ _ _ c.args.ticket q.state q.learned q.ticketed q.hand
      q.seen q.framed,
)
