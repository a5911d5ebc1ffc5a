use Rattle.std.proofs.Common.{◌≤◌, ap, sym, ◌∙◌, arith}
use Rattle.ecr_model.specs.registry.Journals.{below}
use Rattle.ecr_turn.specs.Register.{value_of}
use Rattle.ecr_turn.proofs.JournalLaws.{Rises-below, what_stood_stays}
use Rattle.ecr_turn.proofs.register.get.Goals as goal

pub returns-clause-value : goal.returns-clause-value
returns-clause-value g c =
    let turn = c.enter-turn.result in let ticket = c.ticket-ticket.ensures.ticket in let seen = c.leave.ensures.seen in
    c.value-value.ensures ∙ (ap value_of c.value.ensures.value
    ∙ ap value_of (sym ((λ i. below (ticket i) (seen i))
    ∙ Rises-below turn.ticket turn.state c.enter-turn.ensures.below)))

pub returns-clause-stays : goal.returns-clause-stays
returns-clause-stays g c after f =
    let past = c.leave.ensures.pass.1 in let ticket =
    c.ticket-ticket.ensures.ticket in let at_most : c.ticket-ticket.result ≤ c.leave.result.past = omega arith in
    returns-clause-value g c ∙ ap value_of
    (sym (what_stood_stays c.leave.result.past c.ticket-ticket.result c.leave.result.seen after f at_most))
