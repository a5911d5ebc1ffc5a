use Rattle.std.proofs.Common.{sym, ◌∙◌}
use Rattle.ecr_cells.specs.Desks.{places_made}
use Rattle.ecr_model.specs.requests.Requests.{plain}
use Rattle.ecr_cells.proofs.RunLemmas.{Ran-goes_on, Ran-refused}
use Rattle.ecr_cells.proofs.desk.SoloDesk.then_cell.Goals as goal

pub returns-in-None-clause-ran : goal.returns-in-None-clause-ran
returns-in-None-clause-ran c =
    Ran-goes_on c.cell_turn.result _ _ _ _ _ _ c.args.told (λ t. plain t.0.reply) (λ t. places_made t.1)
    (sym c.refusal_of.ensures ∙ c.in-None.is) c.cell_turn.ensures.ran

pub returns-clause-ran : goal.returns-clause-ran
returns-clause-ran c =
    Ran-refused _ _ _ _ _ c.args.told c.in-Some.refusal c.refused.result.reply
    (sym c.refusal_of.ensures ∙ c.in-Some.is) c.refused.ensures.reply
