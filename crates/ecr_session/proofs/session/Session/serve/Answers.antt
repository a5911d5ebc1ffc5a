use Rattle.std.proofs.Common.{◌∙◌, refl, sym, subst}
use Rattle.ecr_session.specs.Accounts.{noted}
use Rattle.ecr_session.specs.declared.session.Session.{Session}
use Rattle.ecr_session.proofs.ServingLemmas.{AddsExchange-by}
use Rattle.ecr_session.proofs.session.Session.serve.Goals as goal

pub returns-in-WriteFault-clause-serves : goal.returns-in-WriteFault-clause-serves
returns-in-WriteFault-clause-serves g c = λ left faults account stands.
    AddsExchange-by _ _ _ _ _ account (g.D.AnyDesk.seen c.args.desk.now)
    (g.D.AnyDesk.seen c.answer_request-answer.new.desk) _
    c.moment_of-moment.result c.answer_request-answer.result.reply c.answer_request-answer.result.places.items
    c.answer_request-answer.result.cut c.moment_of-moment.ensures c.answer_request-answer.ensures
    (subst (λ (x : Session g.row.A.Denot). g.A.Keeper.stands_for x.keeper (noted account c.moment_of-moment.result c.answer_request-answer.result.places.items c.answer_request-answer.result.cut)) (sym c.in-WriteFault.ensures.kept) (c.note.ensures.stands account stands)) refl c.in-WriteFault.ensures.sends

pub returns-then-closes-clause-serves : goal.returns-then-closes-clause-serves
returns-then-closes-clause-serves g c = λ left faults account stands. (
  AddsExchange-by _ _ _ _ _ account (g.D.AnyDesk.seen c.args.desk.now)
      (g.D.AnyDesk.seen c.answer_request-answer.new.desk) _
      c.moment_of-moment.result c.answer_request-answer.result.reply c.answer_request-answer.result.places.items
      c.answer_request-answer.result.cut c.moment_of-moment.ensures c.answer_request-answer.ensures
      (subst (λ (x : Session g.row.A.Denot). g.A.Keeper.stands_for x.keeper (noted account c.moment_of-moment.result c.answer_request-answer.result.places.items c.answer_request-answer.result.cut)) (sym c.in-Done.ensures.kept) (c.note.ensures.stands account stands)) refl c.in-Done.ensures.sends,
  sym c.closes.ensures.closes ∙ c.if-closes.true,
)

pub returns-clause-serves : goal.returns-clause-serves
returns-clause-serves g c = λ left faults account stands. (
  AddsExchange-by _ _ _ _ _ account (g.D.AnyDesk.seen c.args.desk.now)
      (g.D.AnyDesk.seen c.answer_request-answer.new.desk) _
      c.moment_of-moment.result c.answer_request-answer.result.reply c.answer_request-answer.result.places.items
      c.answer_request-answer.result.cut c.moment_of-moment.ensures c.answer_request-answer.ensures
      (subst (λ (x : Session g.row.A.Denot). g.A.Keeper.stands_for x.keeper (noted account c.moment_of-moment.result c.answer_request-answer.result.places.items c.answer_request-answer.result.cut)) (sym c.in-Done.ensures.kept) (c.note.ensures.stands account stands)) refl c.in-Done.ensures.sends,
  sym c.closes.ensures.closes ∙ c.if-closes.false,
)
