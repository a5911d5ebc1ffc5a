use Rattle.std.proofs.Common.{◌≡◌, [], None, Some, sym, ap, ◌∙◌, subst, arith}
use Rattle.ecr_model.specs.declared.registry.journal.CellKey.TheVariants.{Repository}
use Rattle.ecr_model.specs.declared.registry.journal.Frame.{Frame}
use Rattle.ecr_model.specs.registry.Journals.{past}
use Rattle.ecr_model.specs.registry.Views.{ExtendsView}
use Rattle.ecr_turn.specs.Passes.{Gate, Known, known_in}
use Rattle.ecr_repo.specs.States.{State}
use Rattle.ecr_cells.specs.Deeds.{ask_of, changes, told_of}
use Rattle.ecr_cells.specs.Doors.{RepositoryAt, frame_of_repository, realm_of_frame, view_of}
use Rattle.ecr_cells.specs.Turns.{turn_in_repository}
use Rattle.ecr_cells.proofs.SharedTurnLemmas.{past-rises, IsMade-turn, Comes-left, Visited-at, Visited-repository}
use Rattle.ecr_cells.proofs.WorldLemmas.{on_err_any}
use Rattle.ecr_cells.proofs.shared.door.Door.make.Goals as goal

pub make-made-requires-clause-later : goal.make-made-requires-clause-later
make-made-requires-clause-later g c =
    omega (
      arith,
      past-rises c.enter-turn.result.state.state.journal c.enter-turn.result.ticket c.enter-turn.ensures.below,
      c.ticket-ticket.ensures.ticket,
      ap (λ (r : RepositoryAt). past r.state.journal) c.change.ensures.value,
    )

pub returns-in_err-done-clause-err : goal.returns-in_err-done-clause-err
returns-in_err-done-clause-err g c =
    let known : c.args.self.now ≡ c.in-Some.pass =
    sym c.self.view_is ∙ ap known_in (sym c.take.ensures.value ∙ c.in-Some.is) in
    on_err_any c.from_residual.result
    (subst (λ (k : Known). ExtendsView (Some (view_of k)) (view_of c.leave.result) []) (sym known)
    (Comes-left c.in-Some.pass c.leave.result c.ticket-ticket.result c.change.result.now.state.journal
    (IsMade-turn c.in-Some.pass c.enter-turn.result.pass c.leave.result c.enter-turn.result.ticket
    c.ticket-ticket.result c.caller-caller.result c.enter-turn.result.state.state.journal
    c.change.result.now.state.journal c.make-made.new.self.state.journal None
    c.enter-turn.ensures.pass c.enter-turn.ensures.fresh c.enter-turn.ensures.grows c.enter-turn.ensures.below
    c.ticket-ticket.ensures.ticket (ap (λ (r : RepositoryAt). r.state.journal) c.change.ensures.value)
    c.caller-caller.ensures.caller c.leave.ensures.pass c.leave.ensures.seen
    (ap (λ (r : RepositoryAt). r.state.journal) c.in_err-done.ensures.err))))

pub returns-clause-visited : goal.returns-clause-visited
returns-clause-visited g c =
    let known : c.args.self.now ≡ c.in-Some.pass =
    sym c.self.view_is ∙ ap known_in (sym c.take.ensures.value ∙ c.in-Some.is) in
    let s = c.change.result.now in
    let turn = c.in_ok-done.ensures.turned in
    let frame : frame_of_repository s ≡ c.args.self.now.gate.frame =
    ap frame_of_repository c.change.ensures.value ∙ c.enter-turn.ensures.frame
    ∙ ap (λ (x : Gate). x.frame) (c.deref.ensures ∙ sym c.self.invariant.1)
    ∙ ap (λ (k : Known). k.gate.frame) c.self.view_is in
    let made = IsMade-turn c.in-Some.pass c.enter-turn.result.pass c.leave.result c.enter-turn.result.ticket
    c.ticket-ticket.result c.caller-caller.result c.enter-turn.result.state.state.journal s.state.journal
    c.make-made.new.self.state.journal (turn_in_repository s.state c.ticket-ticket.result (ask_of c.args.deed)).entry
    c.enter-turn.ensures.pass c.enter-turn.ensures.fresh c.enter-turn.ensures.grows c.enter-turn.ensures.below
    c.ticket-ticket.ensures.ticket (ap (λ (r : RepositoryAt). r.state.journal) c.change.ensures.value)
    c.caller-caller.ensures.caller c.leave.ensures.pass c.leave.ensures.seen
    (ap (λ (x : State). x.journal) turn.left) in
    Visited-at (realm_of_frame (frame_of_repository s)) (realm_of_frame c.args.self.now.gate.frame)
    (view_of c.in-Some.pass)
    (view_of c.args.self.now) (view_of c.leave.result) (Repository s.state.key) (Repository c.args.key)
    (ask_of c.args.deed) (told_of c.in_ok-done.done) c.ticket-ticket.result (changes c.in_ok-done.done)
    c.placed-place.result (ap realm_of_frame frame) (ap view_of (sym known))
    (ap (λ (f : Frame). f.cell) frame ∙ c.requires.at) c.placed-place.ensures
    (Visited-repository s.served s.state c.make-made.new.self.state c.in-Some.pass c.leave.result
    (ask_of c.args.deed) c.in_ok-done.done c.ticket-ticket.result c.caller-caller.result turn made)
