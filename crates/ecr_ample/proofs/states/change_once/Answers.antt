use Rattle.std.proofs.Common.{suc, ◌≤◌, ◌+◌, sym, subst, arith}
use Rattle.ecr_model.specs.registry.Journals.{past}
use Rattle.ecr_repo.specs.States.{State, unsealed_turn}
use Rattle.ecr_repo.proofs.StateLemmas.{the_next_turn_is_later}
use Rattle.ecr_ample.proofs.states.change_once.Goals as goal

pub returns : goal.returns
returns c =
    let turn = unsealed_turn c.args.ticket 1700000000 c.new-nowhere.result.items in
    let later = the_next_turn_is_later c.args.state.now 0 turn c.call_of-call.result c.requires.later in
    let new : past c.change.new.self.journal ≤ suc c.args.ticket =
    subst (λ (s : State). past s.journal ≤ suc c.args.ticket) (sym c.in_ok-_outcome.ensures.entered) later in
    omega (arith, new)
