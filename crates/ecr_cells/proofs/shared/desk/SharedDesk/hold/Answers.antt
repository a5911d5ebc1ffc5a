use Rattle.std.proofs.Common.{◌≡◌, [], ◌∷◌, refl, sym, ◌∙◌}
use Rattle.std.proofs.lemmas.Result.{IfOk-weaker, on_err_weaker}
use Rattle.ecr_model.specs.declared.requests.call.Call.TheVariants.{Describe}
use Rattle.ecr_model.specs.requests.Requests.{first_turn}
use Rattle.ecr_desk.specs.Desks.{Ran}
use Rattle.ecr_cells.specs.Deeds.{told_of}
use Rattle.ecr_cells.specs.Holds.{Held, idle_turn}
use Rattle.ecr_cells.specs.Shared.{seen_through}
use Rattle.ecr_cells.proofs.HoldLemmas.{Held-cell, Held-first, StoppedWithin-hold, StoppedWithin-hold_first, StoppedWithin-no_hold, made-first_turn, made-none}
use Rattle.ecr_cells.proofs.WorldLemmas.{on_err_any}
use Rattle.ecr_cells.proofs.shared.desk.SharedDesk.hold.Goals as goal

-- ---- not even the turn in the directory

pub returns-in_err-told-clause-no_entry : goal.returns-in_err-told-clause-no_entry
returns-in_err-told-clause-no_entry g c =
    made-none (seen_through c.args.self.now c.args.pass.now)
    (seen_through c.args.self.now c.first_turn.new.pass) (first_turn c.args.key.now Describe)
    c.in_err-told.ensures.err

pub returns-in_err-told-clause-err : goal.returns-in_err-told-clause-err
returns-in_err-told-clause-err g c =
    on_err_any c.from_residual.result
    (StoppedWithin-no_hold (seen_through c.args.self.now c.args.pass.now)
    (seen_through c.args.self.now c.first_turn.new.pass) c.args.key.now c.in_err-told.ensures.err)

-- ---- no door

pub returns-in_err-door-in-None-clause-no_entry : goal.returns-in_err-door-in-None-clause-no_entry
returns-in_err-door-in-None-clause-no_entry g c =
    made-first_turn (seen_through c.args.self.now c.args.pass.now)
    (seen_through c.args.self.now c.first_turn.new.pass) c.args.key.now
    (told_of c.in_ok-told.told) c.in_ok-told.first refl c.in_ok-told.ensures.ran

pub returns-in_err-door-in-None-clause-err : goal.returns-in_err-door-in-None-clause-err
returns-in_err-door-in-None-clause-err g c =
    on_err_any c.from_residual-in_err-door-in-None.result
    (StoppedWithin-hold_first (seen_through c.args.self.now c.args.pass.now)
    (seen_through c.args.self.now c.first_turn.new.pass) c.args.key.now
    (told_of c.in_ok-told.told) c.in_ok-told.first c.in_ok-told.ensures.ran)

-- ---- the turn in the repository

pub returns-in-None-clause-held : goal.returns-in-None-clause-held
returns-in-None-clause-held g c =
    let desk = c.args.self.now in
    let before = seen_through desk c.args.pass.now in
    let mid = seen_through desk c.first_turn.new.pass in
    let after = seen_through desk c.hold_cell.new.pass in
    let key = c.args.key.now in
    IfOk-weaker c.hold_cell.result (λ place. Ran mid after (idle_turn key) tt (place ∷ []))
    (λ place. Held before after key place)
    (λ place ran. Held-cell before mid after key c.in_ok-told.told c.in_ok-told.first place refl
    (sym c.refusal_of.ensures ∙ c.in-None.is) c.in_ok-told.ensures.ran ran)
    c.hold_cell.ensures.ran

pub returns-in-None-clause-no_entry : goal.returns-in-None-clause-no_entry
returns-in-None-clause-no_entry g c =
    c.hold_cell.ensures.no_entry
    ∙ made-first_turn (seen_through c.args.self.now c.args.pass.now)
    (seen_through c.args.self.now c.first_turn.new.pass) c.args.key.now
    (told_of c.in_ok-told.told) c.in_ok-told.first refl c.in_ok-told.ensures.ran

pub returns-in-None-clause-err : goal.returns-in-None-clause-err
returns-in-None-clause-err g c =
    let desk = c.args.self.now in
    on_err_weaker c.hold_cell.result
    (λ stopped. StoppedWithin-hold (seen_through desk c.args.pass.now)
    (seen_through desk c.first_turn.new.pass) (seen_through desk c.hold_cell.new.pass) c.args.key.now
    c.in_ok-told.told c.in_ok-told.first (sym c.refusal_of.ensures ∙ c.in-None.is) c.in_ok-told.ensures.ran stopped)
    c.hold_cell.ensures.err

-- ---- a name that isn't registered

pub returns-clause-held : goal.returns-clause-held
returns-clause-held g c =
    Held-first (seen_through c.args.self.now c.args.pass.now)
    (seen_through c.args.self.now c.first_turn.new.pass) c.args.key.now c.in_ok-told.told
    c.in-Some.field-0 c.in_ok-told.first refl (sym c.refusal_of.ensures ∙ c.in-Some.is) c.in_ok-told.ensures.ran

pub returns-clause-no_entry : goal.returns-clause-no_entry
returns-clause-no_entry g c =
    made-first_turn (seen_through c.args.self.now c.args.pass.now)
    (seen_through c.args.self.now c.first_turn.new.pass) c.args.key.now
    (told_of c.in_ok-told.told) c.in_ok-told.first refl c.in_ok-told.ensures.ran
