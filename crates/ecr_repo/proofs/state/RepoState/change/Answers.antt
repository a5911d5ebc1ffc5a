use Rattle.std.proofs.Common.{◌≡◌, ◌≤◌, sym, subst, arith}
use Rattle.ecr_model.specs.registry.Journals.{past}
use Rattle.ecr_model.specs.registry.Steps.{line_of}
use Rattle.ecr_repo.specs.States.{State, unsealed_turn}
use Rattle.ecr_repo.proofs.StateLemmas.{IsKept-called}
use Rattle.ecr_repo.proofs.state.RepoState.change.Goals as goal

-- on Ok
pub invariant_of-self-2 : goal.invariant_of-self-2
invariant_of-self-2 c =
    let turn = unsealed_turn c.args.ticket c.args.moment c.args.destinations.items in
    let done = c.in_ok-outcome.ensures.made c.self.inside.limits c.args.ticket c.args.destinations.items in
    let entry : c.line_of-line.result ≡ line_of c.args.caller turn c.args.call.now = grind arith in
    let later : past c.self.inside.journal.items ≤ c.args.ticket =
    subst (λ (s : State). past s.journal ≤ c.args.ticket) (sym c.self.view_is) c.requires.later in
    rw (c.enter.ensures, c.make_room.ensures.kept, done.changed, done.leaves, entry)
    (IsKept-called c.self.inside.key c.self.inside.limits c.self.inside.journal.items c.self.inside.cell
    c.args.caller turn
    c.args.call.now c.self.invariant later)

pub returns-clause-contents : goal.returns-clause-contents
returns-clause-contents c =
    (c.in_ok-outcome.ensures.made c.self.inside.limits c.args.ticket c.args.destinations.items).contents
