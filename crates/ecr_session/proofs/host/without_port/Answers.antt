use Rattle.std.proofs.Common.{◌∙◌, ◌+◌, sym, ap, rules}
use Rattle.std.proofs.lemmas.Bool.{cond-true, cond-false}
use Rattle.std.proofs.lemmas.List.{take_rest}
use Rattle.ecr_model.specs.http.Hosts.{is_port}
use Rattle.ecr_session.proofs.HostLemmas.{without_port-last, without_port-none}
use Rattle.ecr_session.proofs.host.without_port.Goals as goal

pub returns-in_default : goal.returns-in_default
returns-in_default c = sym (without_port-none c.args.host.now (search rules))

pub returns-then-is_port : goal.returns-then-is_port
returns-then-is_port c =
    let host = c.args.host.now in
    let colon = c.in-Some.colon in
    let found = without_port-last host colon (search rules) (search rules) (search rules) in
    sym (found ∙ cond-true _ _ _
    (ap is_port (sym (take_rest host (colon + 1))) ∙ sym c.is_port.ensures ∙ c.if-is_port.true))

pub returns-else-is_port : goal.returns-else-is_port
returns-else-is_port c =
    let host = c.args.host.now in
    let colon = c.in-Some.colon in
    let found = without_port-last host colon (search rules) (search rules) (search rules) in
    sym (found ∙ cond-false _ _ _
    (ap is_port (sym (take_rest host (colon + 1))) ∙ sym c.is_port.ensures ∙ c.if-is_port.false))
