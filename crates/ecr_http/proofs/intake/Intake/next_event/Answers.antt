use Rattle.std.proofs.Common.{false, sym, ap, ◌∙◌, subst}
use Rattle.ecr_http.specs.declared.events.Event.{Event}
use Rattle.ecr_http.specs.Events.{closes_after, point_of}
use Rattle.ecr_http.specs.Reading.{Nexts}
use Rattle.ecr_http.proofs.EventLemmas.{IsReady-after, event_of-ReadFault, event_of-WriteFault}
use Rattle.ecr_http.proofs.intake.Intake.next_event.Goals as goal

pub returns-clause-next : goal.returns-clause-next
returns-clause-next g c =
    subst (λ (e : Event). Nexts (g.S.Source.left c.args.source.now) (g.K.Sink.held c.args.sink.now)
    (point_of c.args.self.now false) (g.S.Source.left c.next_request-found.new.source)
    (g.K.Sink.held c.next_request-found.new.sink) (point_of c.next_request-found.new.self (closes_after e)) e)
    (sym c.event_of.ensures.event) c.next_request-found.ensures.next

pub returns-clause-ready : goal.returns-clause-ready
returns-clause-ready g c = λ stays.
    IsReady-after c.next_request-found.new.self c.next_request-found.result c.next_request-found.ensures.ready
    (sym (ap closes_after c.event_of.ensures.event) ∙ stays)

pub returns-clause-read_cause : goal.returns-clause-read_cause
returns-clause-read_cause g c = λ is.
    c.next_request-found.ensures.read_cause
    (event_of-ReadFault c.next_request-found.new.self c.next_request-found.result
    (sym c.event_of.ensures.event ∙ is))

pub returns-clause-write_cause : goal.returns-clause-write_cause
returns-clause-write_cause g c = λ is.
    c.next_request-found.ensures.write_cause
    (event_of-WriteFault c.next_request-found.new.self c.next_request-found.result
    (sym c.event_of.ensures.event ∙ is))
