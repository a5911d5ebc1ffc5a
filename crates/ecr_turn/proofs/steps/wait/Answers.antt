use Rattle.std.proofs.Common.{rules, ◌∷◌, Some, ap, ◌∙◌}
use Rattle.ecr_turn.specs.Steps.{finding}
use Rattle.ecr_turn.proofs.Moves.{may_look}
use Rattle.ecr_turn.proofs.steps.wait.Goals as goal

pub load-served-requires : goal.load-served-requires
load-served-requires g c = (
  search rules,
  search rules,
  may_look _ _ _ _ _ _ c.args.ticket
      (ap (λ m. m.0.stage) c.loop.invariant.1 ∙ c.requires.waits.0),
)

pub returns-then-served-ticket-clause-found : goal.returns-then-served-ticket-clause-found
returns-then-served-ticket-clause-found g c =
    let is = c.loop.invariant.1 in let t = c.args.ticket in let told = c.load-served.ensures.2 t
    (ap (λ m. m.0.stage) is ∙ c.requires.waits.0) in let f = told.1 (search rules) in
    let b = f.0 in let log = g.S.Journal.lines b.value in record {
      state = b;
      me = f.1 ∙ (ap (λ m. (finding t log m.0, (0, Some b) ∷ m.1)) is
          ∙ ap (λ r. (finding t log c.args.seat.now.me.0, (0, Some b) ∷ r)) c.requires.waits.1);
      framed = f.2 ∙ ap (λ m. m.0.frame) is;
    }
