use Rattle.std.proofs.Common.{rules, ◌≡◌, [], ◌∷◌, ◌++◌, Some, ap, sym, subst, ◌∙◌}
use Rattle.atomic_table.specs.Table.{rest}
use Rattle.ecr_turn.specs.Journals.{MayFollow}
use Rattle.ecr_turn.proofs.Journals.{MayFollow-same, MayFollow-longer}
use Rattle.ecr_turn.proofs.turnstile.Turn.leave.Goals as goal

pub pass_on-requires-clause-back : goal.pass_on-requires-clause-back
pass_on-requires-clause-back g c =
    let s = c.self.inside in let now = c.exchange-empty.ensures.3 in let log =
    g.S.Journal.lines s.state.value in let seen = ap (λ m. m.0.seen) now in
    let may = subst (λ t. MayFollow t.ticket t.pass.caller t.pass.seen (g.S.Journal.lines t.state))
    (sym c.self.view_is) c.requires.journal in
    let framed = subst (λ t. g.S.Journal.frame t.state ≡ t.pass.gate.frame)
    (sym c.self.view_is) c.requires.frame in record {
      state = s.state;
      stage = ap (λ m. m.0.stage) now ∙ s.held.holds;
      hand = ap (λ m. m.1) now ∙ ap (λ h. (0, Some s.state) ∷ rest h) s.held.hand;
      framed = framed ∙ sym (ap (λ m. m.0.frame) now);
      same = λ g'. MayFollow-same _ _ c.entries.result s.held.count _ log may (search rules) s.held.counted g'
          ∙ sym seen;
      longer = λ g'. let l = MayFollow-longer _ _ c.entries.result s.held.count _ log may
          (search rules) s.held.counted g' in
          (l.0, l.1 ∙ ap (λ z. z ++ l.0 ∷ []) (sym seen), l.2, l.3 ∙ sym (ap (λ m. m.0.caller) now));
    }
