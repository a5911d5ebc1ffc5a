use Rattle.ecr_repo.proofs.StateLemmas.{IsKept-first}
use Rattle.ecr_repo.proofs.state.RepoState.new.Goals as goal

pub invariant_of-result : goal.invariant_of-result
invariant_of-result c = rw (c.new-2.ensures.items, c.new.ensures) (IsKept-first c.args.key c.args.limits)
