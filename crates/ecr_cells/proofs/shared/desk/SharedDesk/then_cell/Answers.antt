use Rattle.std.proofs.Common.{sym, refl, ◌∙◌, subst, OnErr}
use Rattle.ecr_blob_upload.specs.Loads.{given}
use Rattle.ecr_model.specs.requests.Requests.{Decided, plain, then_cell}
use Rattle.ecr_model.specs.registry.Scripts.{Script}
use Rattle.ecr_desk.specs.Desks.{StoppedWithin}
use Rattle.ecr_desk.proofs.DeskLemmas.{StoppedWithin-none}
use Rattle.ecr_cells.specs.Deeds.{told_of}
use Rattle.ecr_cells.specs.Desks.{places_made}
use Rattle.ecr_cells.specs.Shared.{seen_through}
use Rattle.ecr_cells.proofs.RunLemmas.{Ran-goes_on, Ran-refused, then_cell-goes_on}
use Rattle.ecr_cells.proofs.WorldLemmas.{on_err_any}
use Rattle.ecr_cells.proofs.shared.desk.SharedDesk.then_cell.Goals as goal

pub returns-in_err-door-in-None-clause-err : goal.returns-in_err-door-in-None-clause-err
returns-in_err-door-in-None-clause-err g c =
    let seen = seen_through c.args.self.now c.args.pass.now in
    on_err_any c.from_residual.result
    (StoppedWithin-none 0 seen seen
    (then_cell c.args.key.now c.args.call (given c.args.load) c.args.moment (told_of c.args.told)) refl)

pub returns-in-None-clause-ran : goal.returns-in-None-clause-ran
returns-in-None-clause-ran g c =
    Ran-goes_on c.cell_turn.result _ _ _ _ _ _ c.args.told (λ t. plain t.0.reply) (λ t. places_made t.1)
    (sym c.refusal_of.ensures ∙ c.in-None.is) c.cell_turn.ensures.ran

pub returns-in-None-clause-err : goal.returns-in-None-clause-err
returns-in-None-clause-err g c =
    subst (λ (s : Script Decided). OnErr c.cell_turn.result
    (StoppedWithin 0 (seen_through c.args.self.now c.args.pass.now)
    (seen_through c.args.self.now c.cell_turn.new.pass) s))
    (then_cell-goes_on c.args.key.now c.args.call (given c.args.load) c.args.moment c.args.told
    (sym c.refusal_of.ensures ∙ c.in-None.is)) c.cell_turn.ensures.err

pub returns-clause-ran : goal.returns-clause-ran
returns-clause-ran g c =
    Ran-refused _ _ _ _ _ c.args.told c.in-Some.refusal c.refused.result.reply
    (sym c.refusal_of.ensures ∙ c.in-Some.is) c.refused.ensures.reply
