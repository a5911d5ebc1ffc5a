use Rattle.std.proofs.Common.{◌≡◌, ◌∙◌, true, false, sym, ap, subst, ℕ}
use Rattle.ecr_model.specs.http.Framing.{max_body}
use Rattle.ecr_model.specs.declared.http.Section.TheVariants as sections
use Rattle.ecr_model.specs.http.Stream.{too_long, short, IsFront}
use Rattle.ecr_model.proofs.lemmas.http.FrontLemmas.{IsFront-unframed}
use Rattle.ecr_http.specs.Bodies.{FitsLimit}
use Rattle.ecr_http.specs.declared.fault.Fault.TheVariants as faults
use Rattle.ecr_http.proofs.EventLemmas.{TakesRequest-fault, TakesRequest-untold}
use Rattle.ecr_http.proofs.BehindLemmas.{IsFront-over, TakesRequest-head}
use Rattle.ecr_http.proofs.intake.Intake.with_head.Goals as goal

pub returns-in_default-clause-next : goal.returns-in_default-clause-next
returns-in_default-clause-next g c = λ before old read none.
    TakesRequest-fault before (g.K.Sink.held c.args.sink.now) old
    (g.S.Source.left c.args.source.now) c.args.self.now faults.Bad read none
    (IsFront-unframed c.args.self.now.at c.args.self.now.buffer c.args.count c.args.head c.requires.ends
    c.requires.parses (sym c.framing_of.ensures.framing ∙ c.in_default.is))

pub returns-then-not-fits_limit-clause-next : goal.returns-then-not-fits_limit-clause-next
returns-then-not-fits_limit-clause-next g c = λ before old read none.
    let limit = c.max_body-limit.result in
    let is : limit ≡ max_body c.args.head.target = c.max_body-limit.ensures.value
    ∙ ap max_body c.as_bytes.ensures.text in
    TakesRequest-fault before (g.K.Sink.held c.args.sink.now) old
    (g.S.Source.left c.args.source.now) c.args.self.now (faults.TooLong sections.Body limit) read none
    (subst (λ (n : ℕ). IsFront c.args.self.now.at c.args.self.now.buffer (short false (too_long sections.Body n)))
    (sym is)
    (IsFront-over c.args.self.now.at c.args.self.now.buffer c.args.count c.args.head c.in-Some.framing
    c.requires.ends c.requires.parses (sym c.framing_of.ensures.framing ∙ c.in-Some.is)
    (λ fits. let clash : false ≡ true = sym c.if-not-fits_limit.true ∙ c.fits_limit.ensures.fits.1
    (subst (λ (n : ℕ). FitsLimit c.in-Some.framing n) (sym is) fits) in cc)))

pub returns-in-WriteFault-clause-next : goal.returns-in-WriteFault-clause-next
returns-in-WriteFault-clause-next g c = λ before old read none.
    TakesRequest-untold before (g.K.Sink.held c.args.sink.now) (g.K.Sink.held c.tell.new.sink) old
    (g.S.Source.left c.args.source.now) c.args.self.now c.args.count c.args.head read none c.requires.ends
    c.requires.parses (c.tell.ensures.waits c.in-WriteFault.is) c.in-WriteFault.ensures.sends

pub returns-in-Done-clause-next : goal.returns-in-Done-clause-next
returns-in-Done-clause-next g c = λ before old read none.
    TakesRequest-head before (g.K.Sink.held c.args.sink.now) (g.K.Sink.held c.tell.new.sink) old
    (g.S.Source.left c.args.source.now) c.args.self.now
    (g.S.Source.left c.take_request.new.source) c.take_request.new.self c.args.count c.args.head c.take_request.result
    read none c.requires.ends c.requires.parses
    c.take_request.ensures.behind c.in-Done.ensures.sends
