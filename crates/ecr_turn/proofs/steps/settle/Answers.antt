use Rattle.std.proofs.Common.{rules, refl, ap, sym, ◌∙◌, arith}
use Rattle.ecr_turn.specs.Turns.{has_learned, ticket_of}
use Rattle.ecr_turn.proofs.Moves.{may_record}
use Rattle.ecr_turn.proofs.steps.settle.Goals as goal

pub returns-then-not-grown : goal.returns-then-not-grown
returns-then-not-grown g c = let b = c.requires.back in record {
  pass = (refl, refl, refl, omega arith);
  state = b.state;
  was = b.hand;
  hand = b.hand;
  learned = ap has_learned b.stage;
  ticketed = ap ticket_of b.stage;
  seen = b.same (search rules);
  framed = b.framed;
}

pub fetch_add-requires : goal.fetch_add-requires
fetch_add-requires g c = let b =
    c.requires.back in let l = b.longer (search rules) in
    (search rules, search rules, may_record _ _ _ _ _ _ c.args.ticket b.state l.0 b.stage b.hand l.1 l.2 l.3)

pub returns : goal.returns
returns g c = let b = c.requires.back in let m =
    c.fetch_add.ensures.2 c.args.ticket b.state b.stage b.hand in let callers = ap (λ z. z.0.callers) m in record {
      pass = (c.fetch_add.ensures.0, ap (λ z. z.0.caller) m, ap (λ z. z.0.frame) m, omega arith);
      state = b.state;
      was = b.hand;
      hand = ap (λ z. z.1) m ∙ b.hand;
      learned = ap (λ z. has_learned z.0.stage) m;
      ticketed = ap (λ z. ticket_of z.0.stage) m;
      seen = sym (ap (λ z. z.0.seen) m);
      framed = b.framed ∙ sym (ap (λ z. z.0.frame) m);
    }
