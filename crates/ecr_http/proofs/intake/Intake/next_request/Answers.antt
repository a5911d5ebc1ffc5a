use Rattle.std.proofs.lemmas.Result.{err_from_is_err_and}
use Rattle.ecr_model.proofs.lemmas.http.FrontLemmas.{IsFront-no_grammar}
use Rattle.ecr_http.specs.declared.fault.Fault.TheVariants as faults
use Rattle.ecr_http.proofs.EventLemmas.{TakesRequest-fault}
use Rattle.ecr_http.proofs.intake.Intake.next_request.Goals as goal

pub returns-clause-next : goal.returns-clause-next
returns-clause-next g c =
    c.with_head.ensures.next _ c.args.self.now c.in_ok-count.ensures.finds.read c.in_ok-count.ensures.finds.none

pub returns-in_err-count-clause-next : goal.returns-in_err-count-clause-next
returns-in_err-count-clause-next g c =
    let leads = c.in_err-count.ensures.finds in
    let p = err_from_is_err_and c.from_residual.result c.from_residual.ensures.1 in
    rw (p.1, p.2) (TakesRequest-fault _ (g.K.Sink.held c.args.sink.now) c.args.self.now
    (g.S.Source.left c.find_head.new.source) c.find_head.new.self _ leads.read leads.none leads.stands)

pub returns-in_default-clause-next : goal.returns-in_default-clause-next
returns-in_default-clause-next g c =
    let leads = c.in_ok-count.ensures.finds in
    let now = c.find_head.new.self in
    TakesRequest-fault _ (g.K.Sink.held c.args.sink.now) c.args.self.now (g.S.Source.left c.find_head.new.source) now
    faults.Bad leads.read leads.none
    (IsFront-no_grammar now.at now.buffer c.in_ok-count.count leads.stands
    (rw (c.in_default.is, c.as_slice.ensures.bytes) at c.in_ok-head.ensures.parses))

pub returns-in_err-head-clause-next : goal.returns-in_err-head-clause-next
returns-in_err-head-clause-next g c =
    let leads = c.in_ok-count.ensures.finds in
    let left = g.S.Source.left c.find_head.new.source in
    let p = err_from_is_err_and c.from_residual-in_err-head.result c.from_residual-in_err-head.ensures.1 in
    rw (p.1, p.2) (TakesRequest-fault _ (g.K.Sink.held c.args.sink.now) c.args.self.now left c.find_head.new.self
    faults.Mem leads.read leads.none tt)
