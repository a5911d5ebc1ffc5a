use Rattle.std.proofs.Common.{refl, sym, ap, ◌∙◌, subst}
use Rattle.ecr_model.specs.declared.registry.journal.CellKey.TheVariants.{Repository}
use Rattle.ecr_model.specs.declared.registry.journal.Frame.{Frame}
use Rattle.ecr_model.specs.registry.Scripts.{Realm, knows}
use Rattle.ecr_desk.specs.Desks.{Gates}
use Rattle.ecr_desk.proofs.DeskLemmas.{StoppedWithin-none}
use Rattle.ecr_cells.specs.Deeds.{told_of}
use Rattle.ecr_cells.specs.Holds.{idle_turn}
use Rattle.ecr_cells.specs.Shared.{Looks, caller_state, seen_through}
use Rattle.ecr_cells.proofs.HoldLemmas.{Ran-idle_turn, StoppedWithin-idle_turn, made-idle_turn}
use Rattle.ecr_cells.proofs.RunLemmas.{MadeTurn}
use Rattle.ecr_cells.proofs.SharedViewLemmas.{LeadsInto-gate, frame_of-gate}
use Rattle.ecr_cells.proofs.WorldLemmas.{on_err_any}
use Rattle.ecr_cells.proofs.shared.desk.SharedDesk.hold_cell.Goals as goal

pub returns-in_err-copy-clause-err : goal.returns-in_err-copy-clause-err
returns-in_err-copy-clause-err g c =
    let seen = seen_through c.args.self.now c.args.pass.now in
    on_err_any c.from_residual.result (StoppedWithin-none 0 seen seen (idle_turn c.args.key.now) refl)

pub returns-in_err-name-clause-err : goal.returns-in_err-name-clause-err
returns-in_err-name-clause-err g c =
    let seen = seen_through c.args.self.now c.args.pass.now in
    on_err_any c.from_residual-in_err-name.result (StoppedWithin-none 0 seen seen (idle_turn c.args.key.now) refl)

pub in_repository-requires-clause-at : goal.in_repository-requires-clause-at
in_repository-requires-clause-at g c = λ gate is.
    let desk = c.args.self.now in
    let site = c.in_ok-copy.copy.site in
    ap (λ (f : Frame). f.cell) (frame_of-gate desk.served desk.limits desk.sites site gate c.gates_are.ensures
    (sym (ap (λ (f : Gates). f site) c.requires.of) ∙ is))

pub returns-in_err-place-clause-err : goal.returns-in_err-place-clause-err
returns-in_err-place-clause-err g c =
    let desk = c.args.self.now in
    let key = c.args.key.now in
    let before = c.args.pass.now in
    let after = c.in_repository.new.self in
    let copy = c.in_ok-copy.copy in
    let at = LeadsInto-gate desk.served desk.limits desk.sites before.sites key copy c.args.door c.requires.way
    c.gates_are.ensures c.requires.of c.in_ok-copy.ensures in
    on_err_any c.from_residual-in_err-place.result
    (StoppedWithin-idle_turn _ before after key copy c.in_ok-copy.ensures
    (subst (λ (r : Realm). Looks r before after (Repository copy)) at.1 (c.in_err-place.ensures.err _ at.0)))

pub returns-in_err-place-clause-no_entry : goal.returns-in_err-place-clause-no_entry
returns-in_err-place-clause-no_entry g c =
    let desk = c.args.self.now in
    let at = LeadsInto-gate desk.served desk.limits desk.sites c.args.pass.now.sites c.args.key.now c.in_ok-copy.copy
    c.args.door c.requires.way c.gates_are.ensures c.requires.of c.in_ok-copy.ensures in
    (c.in_err-place.ensures.err _ at.0).made

-- the turn was made and entered nothing
pub returns-clause-ran : goal.returns-clause-ran
returns-clause-ran g c =
    let desk = c.args.self.now in
    let key = c.args.key.now in
    let before = c.args.pass.now in
    let after = c.in_repository.new.self in
    let copy = c.in_ok-copy.copy in
    let told = told_of c.in_ok-place.field-0-0 in
    let place = c.in_ok-place.place in
    let at = LeadsInto-gate desk.served desk.limits desk.sites before.sites key copy c.args.door c.requires.way
    c.gates_are.ensures c.requires.of c.in_ok-copy.ensures in
    Ran-idle_turn _ _ key copy c.in_ok-name.name told place c.in_ok-copy.ensures c.in_ok-name.ensures
    (subst (λ (r : Realm). MadeTurn (caller_state r before) (caller_state r after) (Repository copy)
    (knows c.in_ok-name.name) told place) at.1 (c.in_ok-place.ensures.ran _ at.0))

pub returns-clause-no_entry : goal.returns-clause-no_entry
returns-clause-no_entry g c =
    let desk = c.args.self.now in
    made-idle_turn (seen_through desk c.args.pass.now) (seen_through desk c.in_repository.new.self) c.args.key.now
    c.in_ok-place.place refl (returns-clause-ran g c)
