use Rattle.std.proofs.Common.{◌≡◌, [], None, Some, sym, ap, ◌∙◌, subst, arith}
use Rattle.ecr_model.specs.declared.registry.journal.CellKey.TheVariants.{Directory}
use Rattle.ecr_model.specs.declared.registry.journal.Frame.{Frame}
use Rattle.ecr_model.specs.registry.Journals.{past}
use Rattle.ecr_model.specs.registry.Views.{ExtendsView}
use Rattle.ecr_turn.specs.Passes.{Known, known_in}
use Rattle.ecr_site.specs.States.{SiteJournal, frame_of_journal}
use Rattle.ecr_cells.specs.Deeds.{ask_of, changes, told_of}
use Rattle.ecr_cells.specs.Doors.{DirectoryAt, frame_of_directory, realm_of_frame, view_of}
use Rattle.ecr_cells.specs.Shared.{SiteKnown}
use Rattle.ecr_cells.specs.Turns.{turn_in_directory}
use Rattle.ecr_cells.proofs.SharedTurnLemmas.{past-rises, IsMade-turn, Comes-left, Visited-at, Visited-directory}
use Rattle.ecr_cells.proofs.WorldLemmas.{on_err_any}
use Rattle.ecr_cells.proofs.shared.site.SitePass.in_directory.Goals as goal

pub make-made-requires-clause-later : goal.make-made-requires-clause-later
make-made-requires-clause-later g c =
    omega (
      arith,
      past-rises c.enter-turn.result.state.directory.journal c.enter-turn.result.ticket c.enter-turn.ensures.below,
      c.ticket-ticket.ensures.ticket,
      ap (λ (d : DirectoryAt). past d.directory.journal) c.change.ensures.value,
    )

pub returns-in_err-done-clause-err : goal.returns-in_err-done-clause-err
returns-in_err-done-clause-err g c =
    let known : c.args.self.now.directory ≡ c.in-Some.pass =
    ap (λ (s : SiteKnown). s.directory) (sym c.self.view_is)
    ∙ ap known_in (sym c.take.ensures.value ∙ c.in-Some.is) in
    on_err_any c.from_residual.result
    (subst (λ (k : Known). ExtendsView (Some (view_of k)) (view_of c.leave.result) []) (sym known)
    (Comes-left c.in-Some.pass c.leave.result c.ticket-ticket.result c.change.result.now.directory.journal
    (IsMade-turn c.in-Some.pass c.enter-turn.result.pass c.leave.result c.enter-turn.result.ticket
    c.ticket-ticket.result c.caller-caller.result c.enter-turn.result.state.directory.journal
    c.change.result.now.directory.journal c.make-made.new.self.directory.journal None
    c.enter-turn.ensures.pass c.enter-turn.ensures.fresh c.enter-turn.ensures.grows c.enter-turn.ensures.below
    c.ticket-ticket.ensures.ticket (ap (λ (d : DirectoryAt). d.directory.journal) c.change.ensures.value)
    c.caller-caller.ensures.caller c.leave.ensures.pass c.leave.ensures.seen
    (ap (λ (d : SiteJournal). d.journal) c.in_err-done.ensures.err))))

pub returns-clause-visited : goal.returns-clause-visited
returns-clause-visited g c =
    let known : c.args.self.now.directory ≡ c.in-Some.pass =
    ap (λ (s : SiteKnown). s.directory) (sym c.self.view_is)
    ∙ ap known_in (sym c.take.ensures.value ∙ c.in-Some.is) in
    let d = c.change.result.now.directory in
    let turn = c.in_ok-done.ensures.turned in
    let frame : frame_of_directory (frame_of_journal d) ≡ c.args.turnstile.now.frame =
    ap (λ (x : DirectoryAt). frame_of_directory (frame_of_journal x.directory)) c.change.ensures.value
    ∙ c.enter-turn.ensures.frame in
    let made = IsMade-turn c.in-Some.pass c.enter-turn.result.pass c.leave.result c.enter-turn.result.ticket
    c.ticket-ticket.result c.caller-caller.result c.enter-turn.result.state.directory.journal d.journal
    c.make-made.new.self.directory.journal (turn_in_directory d c.ticket-ticket.result (ask_of c.args.deed)).entry
    c.enter-turn.ensures.pass c.enter-turn.ensures.fresh c.enter-turn.ensures.grows c.enter-turn.ensures.below
    c.ticket-ticket.ensures.ticket (ap (λ (x : DirectoryAt). x.directory.journal) c.change.ensures.value)
    c.caller-caller.ensures.caller c.leave.ensures.pass c.leave.ensures.seen
    (ap (λ (x : SiteJournal). x.journal) turn.left) in
    Visited-at (realm_of_frame (frame_of_directory (frame_of_journal d))) (realm_of_frame c.args.turnstile.now.frame)
    (view_of c.in-Some.pass) (view_of c.args.self.now.directory) (view_of c.leave.result) (Directory d.site)
    (Directory c.args.site) (ask_of c.args.deed) (told_of c.in_ok-done.done) c.ticket-ticket.result
    (changes c.in_ok-done.done) c.placed-place.result (ap realm_of_frame frame) (ap view_of (sym known))
    (ap (λ (f : Frame). f.cell) frame ∙ c.requires.at) c.placed-place.ensures
    (Visited-directory d c.make-made.new.self.directory c.in-Some.pass c.leave.result (ask_of c.args.deed)
    c.in_ok-done.done c.ticket-ticket.result c.caller-caller.result turn made)
