use Rattle.std.proofs.Common.{rules, ◌≤◌, ◌∷◌, Some, None, ap, sym, subst, ◌∙◌}
use Rattle.atomic_table.specs.Table.{rest}
use Rattle.ecr_model.specs.registry.Growth.{Grows}
use Rattle.ecr_turn.specs.Steps.{holding}
use Rattle.ecr_turn.specs.Seats.{TakesState}
use Rattle.ecr_turn.proofs.Moves.{in_hand, may_learn}
use Rattle.ecr_turn.proofs.steps.take.Goals as goal

pub exchange-requires : goal.exchange-requires
exchange-requires g c = let f =
    c.wait.ensures.found in let h = ap (λ m. m.1) f.me in
    (search rules, (Some f.state, h ∙ ap (λ cs. (0, Some f.state) ∷ rest cs) (sym h)))

pub load-requires : goal.load-requires
load-requires g c = let f =
    c.wait.ensures.found in (
      search rules,
      search rules,
      may_learn _ _ _ _ _ _ c.args.ticket (g.S.Journal.lines f.state.value)
          (ap (λ m. m.0.stage) c.exchange.ensures.3 ∙ ap (λ m. m.0.stage) f.me),
    )

pub returns-clause-taken : goal.returns-clause-taken
returns-clause-taken g c =
    let f = c.wait.ensures.found in let t = c.args.ticket in let log = g.S.Journal.lines f.state.value in let x =
    c.exchange.ensures in
    let here = x.3 ∙ ap (λ m. (m.0, (0, None) ∷ rest m.1)) f.me in let told =
    c.load.ensures.2 t log (ap (λ m. m.0.stage) here) in
    let same = ap (in_hand f.state)
    (sym (x.2 ∙ ap (λ r. (0, r) ∷ rest c.wait.new.seat.me.1) c.unwrap-state.ensures) ∙ ap (λ m. m.1) f.me) in
    subst (TakesState (λ b. g.S.Journal.lines b.value) (λ b. g.S.Journal.frame b.value) c.args.seat.now
    c.load.new.seat t)
    (sym same) record {
      me = told.0 ∙ ap (λ m. (holding t log m.0, m.1)) here;
      framed = f.framed;
      fresh = subst (λ m. m.0.past ≤ t) here told.1;
      grows = subst (λ m. Grows m.0.caller m.0.past m.0.seen log) here told.2;
      below = told.3;
    }
