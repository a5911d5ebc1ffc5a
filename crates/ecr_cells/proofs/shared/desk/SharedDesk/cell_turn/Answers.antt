use Rattle.std.proofs.Common.{[], ◌∷◌, refl, sym, ap, ◌∙◌, subst}
use Rattle.ecr_blob_upload.specs.Loads.{given}
use Rattle.ecr_model.specs.declared.registry.journal.CellKey.TheVariants.{Repository}
use Rattle.ecr_model.specs.declared.registry.journal.Frame.{Frame}
use Rattle.ecr_model.specs.registry.Scripts.{Realm, call}
use Rattle.ecr_model.specs.requests.Requests.{Decided, beside_of, cell_turn, reply_told}
use Rattle.ecr_desk.specs.Desks.{Gates, Ran}
use Rattle.ecr_desk.proofs.DeskLemmas.{StoppedWithin-none}
use Rattle.ecr_cells.specs.Deeds.{told_of}
use Rattle.ecr_cells.specs.Shared.{Looks, caller_state, seen_through}
use Rattle.ecr_cells.proofs.RunLemmas.{MadeTurn, Ran-cell_turn}
use Rattle.ecr_cells.proofs.SharedViewLemmas.{LeadsInto-gate, StoppedWithin-cell_turn, frame_of-gate}
use Rattle.ecr_cells.proofs.WorldLemmas.{on_err_any}
use Rattle.ecr_cells.proofs.shared.desk.SharedDesk.cell_turn.Goals as goal

pub returns-in_err-copy-clause-err : goal.returns-in_err-copy-clause-err
returns-in_err-copy-clause-err g c =
    let seen = seen_through c.args.self.now c.args.pass.now in
    on_err_any c.from_residual.result
    (StoppedWithin-none 0 seen seen (cell_turn c.args.key.now c.args.call (given c.args.load) c.args.moment) refl)

pub in_repository-requires-clause-at : goal.in_repository-requires-clause-at
in_repository-requires-clause-at g c = λ gate is.
    let desk = c.args.self.now in
    let site = c.in_ok-copy.copy.site in
    ap (λ (f : Frame). f.cell) (frame_of-gate desk.served desk.limits desk.sites site gate c.gates_are.ensures
    (sym (ap (λ (f : Gates). f site) c.requires.of) ∙ is))

pub returns-in_err-done-clause-err : goal.returns-in_err-done-clause-err
returns-in_err-done-clause-err g c =
    let desk = c.args.self.now in
    let key = c.args.key.now in
    let before = c.args.pass.now in
    let after = c.in_repository.new.self in
    let copy = c.in_ok-copy.copy in
    let at = LeadsInto-gate desk.served desk.limits desk.sites before.sites key copy c.args.door c.requires.way
    c.gates_are.ensures c.requires.of c.in_ok-copy.ensures in
    on_err_any c.from_residual-in_err-done.result
    (StoppedWithin-cell_turn _ before after key copy c.args.call (given c.args.load) c.args.moment c.in_ok-copy.ensures
    (subst (λ (r : Realm). Looks r before after (Repository copy)) at.1 (c.in_err-done.ensures.err _ at.0)))

pub returns-clause-ran : goal.returns-clause-ran
returns-clause-ran g c =
    let desk = c.args.self.now in
    let key = c.args.key.now in
    let before = c.args.pass.now in
    let after = c.in_repository.new.self in
    let copy = c.in_ok-copy.copy in
    let content = given c.args.load in
    let told = told_of c.in_ok-done.done in
    let place = c.in_ok-done.place in
    let at = LeadsInto-gate desk.served desk.limits desk.sites before.sites key copy c.args.door c.requires.way
    c.gates_are.ensures c.requires.of c.in_ok-copy.ensures in
    let ran : Ran (seen_through desk before) (seen_through desk after) (cell_turn key c.args.call content c.args.moment)
    (reply_told told) (place ∷ []) =
    Ran-cell_turn _ _ key copy c.args.call content c.args.moment told place c.in_ok-copy.ensures
    (subst (λ (r : Realm). MadeTurn (caller_state r before) (caller_state r after) (Repository copy)
    (call (beside_of content c.args.moment) c.args.call) told place) at.1 (c.in_ok-done.ensures.ran _ at.0)) in
    subst (λ (d : Decided). Ran (seen_through desk before) (seen_through desk after)
    (cell_turn key c.args.call content c.args.moment) d (place ∷ [])) (sym c.outcome_of-outcome.ensures.reply) ran
