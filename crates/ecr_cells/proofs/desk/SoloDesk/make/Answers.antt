use Rattle.std.proofs.Common.{sym, ap, ◌∙◌, subst, Contains}
use Rattle.ecr_cells.specs.Deeds.{ask_of, told_of}
use Rattle.ecr_cells.specs.Desks.{Desk, still_state_of, state_of}
use Rattle.ecr_cells.specs.SiteCells.{site_of_cell}
use Rattle.ecr_cells.proofs.WorldLemmas.{HasCells-kept, AreKept-turns, AreKept-rests, still_state_of-rests, Took-turns, on_err_any}
use Rattle.ecr_cells.proofs.RunLemmas.{MadeTurn, Ran-took}
use Rattle.ecr_cells.proofs.desk.SoloDesk.make.Goals as goal

pub make-requires-clause-served : goal.make-requires-clause-served
make-requires-clause-served c =
    let s = c.self.inside in
    let site = site_of_cell c.args.cell in
    HasCells-kept s.served s.limits s.cells.entries site c.self.invariant
    (subst (λ (d : Desk). Contains d.served site) (sym c.self.view_is) c.requires.served)

pub invariant_of-self : goal.invariant_of-self
invariant_of-self c =
    let s = c.self.inside in
    AreKept-rests s.served s.limits s.cells.entries c.make.new.cells.entries
    (site_of_cell c.args.cell) c.self.invariant c.in_err-done.ensures.err

pub returns-in_err-done-clause-err : goal.returns-in_err-done-clause-err
returns-in_err-done-clause-err c =
    let s = c.self.inside in
    on_err_any c.from_residual.result
    (still_state_of-rests s.served s.limits s.cells.entries c.make.new.cells.entries s.made
    (site_of_cell c.args.cell) c.in_err-done.ensures.err ∙ ap still_state_of c.self.view_is)

pub invariant_of-self-2 : goal.invariant_of-self-2
invariant_of-self-2 c =
    let s = c.self.inside in
    AreKept-turns s.served s.limits s.cells.entries c.make.new.cells.entries c.args.cell (ask_of c.args.deed)
    (told_of c.in_ok-done.done) c.in_ok-done.place
    c.self.invariant c.in_ok-done.ensures.turned

pub returns-clause-ran : goal.returns-clause-ran
returns-clause-ran c =
    let s = c.self.inside in
    let told = told_of c.in_ok-done.done in
    let place = c.in_ok-done.place in
    let before : Desk = record { served = s.served; limits = s.limits; sites = s.cells.entries; made = s.made } in
    let after : Desk = record {
      served = s.served;
      limits = s.limits;
      sites = c.make.new.cells.entries;
      made = c.counted-self-inside.result;
    } in
    subst (λ (d : Desk). MadeTurn (state_of d) (state_of after) c.args.cell
    (ask_of c.args.deed) told place) c.self.view_is
    (Ran-took (still_state_of before) (still_state_of after) c.args.cell (ask_of c.args.deed) told place
    c.self.invariant.sound
    (Took-turns s.served s.limits s.cells.entries c.make.new.cells.entries s.made c.counted-self-inside.result
    c.args.cell (ask_of c.args.deed) told place
    c.self.invariant c.in_ok-done.ensures.turned c.counted-self-inside.ensures))
