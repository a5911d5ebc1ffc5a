use Rattle.std.proofs.Common.{arith}
use Rattle.std.proofs.lemmas.Result.{err_from_is_err_and}
use Rattle.ecr_model.specs.http.Framing.{max_head}
use Rattle.ecr_model.specs.sessions.Sessions.{max_read}
use Rattle.ecr_http.proofs.BehindLemmas.{taken-small, Behind-body, Behind-fault}
use Rattle.ecr_http.proofs.intake.Intake.take_request.Goals as goal

pub overflow_add-self : goal.overflow_add-self
unfolding max_head max_read
overflow_add-self g c =
    let few = taken-small _ c.args.self.now _ c.take_body.new.self c.args.count c.args.framing c.args.limit
    c.skip.new.self _ _
    c.skip.ensures.rest c.requires.ready c.in_ok-body.ensures.takes in
    let short = c.requires.head.ends.not_long in
    omega (arith, few.0)

pub overflow_add-self-2 : goal.overflow_add-self-2
unfolding max_head max_read
overflow_add-self-2 g c =
    let few = taken-small _ c.args.self.now _ c.take_body.new.self c.args.count c.args.framing c.args.limit
    c.skip.new.self _ _
    c.skip.ensures.rest c.requires.ready c.in_ok-body.ensures.takes in
    let short = c.requires.head.ends.not_long in
    omega (arith, few.0, few.1, few.2)

pub returns-clause-behind : goal.returns-clause-behind
returns-clause-behind g c =
    Behind-body _ c.args.self.now _ c.take_body.new.self c.args.count c.args.head c.args.framing c.args.limit
    c.skip.new.self _ _
    c.request_of.result c.skip.ensures.rest c.requires.ready c.requires.head c.in_ok-body.ensures.takes
    c.request_of.ensures

pub returns-in_err-body-clause-behind : goal.returns-in_err-body-clause-behind
returns-in_err-body-clause-behind g c =
    let p = err_from_is_err_and c.from_residual.result c.from_residual.ensures.1 in
    rw (p.1, p.2) (Behind-fault _ c.args.self.now _ c.take_body.new.self c.args.count c.args.head c.args.framing
    c.args.limit c.skip.new.self _ c.skip.ensures.rest c.requires.head c.in_err-body.ensures.takes)
