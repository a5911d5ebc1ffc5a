use Rattle.std.proofs.Common.{◌≡◌, Some, map, option_map, sym, ap, subst, ◌∙◌}
use Rattle.serde_json.specs.View.{view}
use Rattle.ecr_model.specs.requests.Actions.{Reading, reading, action_reading, action_of}
use Rattle.ecr_model.specs.documents.Documents.{document}
use Rattle.ecr_api.specs.Readings.{HasReading}
use Rattle.ecr_api.proofs.ThinLemmas.{body_reading-thin}
use Rattle.ecr_api.proofs.read.read_call_in.Goals as goal

-- the kept members ask for the same as the whole body
pub returns-in_ok-document-in-Some-clause-exact : goal.returns-in_ok-document-in-Some-clause-exact
unfolding reading
returns-in_ok-document-in-Some-clause-exact c =
    let base = c.args.base.now in
    let served = c.args.served.now in
    let body = c.args.body.now in
    let action = c.in-Some.action in
    let names = map (λ n. n.now) c.member_names.result.now in
    let kept = option_map view c.in_ok-document-in-Some.document in
    let same = body_reading-thin base served names action kept
    (document body) c.member_names.ensures c.in_ok-document-in-Some.ensures in
    let named : action_of c.args.target.now ≡ Some action = sym c.action_of.ensures ∙ c.in-Some.is in
    subst (λ (r : Reading). HasReading c.read_body.result r)
    (same ∙ ap (λ o. action_reading base served o body) (sym named)) c.read_body.ensures.exact
