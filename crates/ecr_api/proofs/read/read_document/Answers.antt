use Rattle.std.proofs.Common.{◌≡◌, ◌∙◌, Option, IfOk, option_map, ap, sym, subst, map}
use Rattle.serde_json.specs.Data.{Data}
use Rattle.serde_json.specs.Read.{read}
use Rattle.serde_json.specs.View.{view}
use Rattle.ecr_json.specs.Thin.{IsThinOf}
use Rattle.ecr_model.specs.documents.Documents.{document}
use Rattle.ecr_model.proofs.lemmas.documents.DocumentLemmas.{document-IsUtf8}
use Rattle.ecr_api.proofs.read.read_document.Goals as goal

-- the text is the body
pub returns-in-Ok : goal.returns-in-Ok
returns-in-Ok c =
    let utf8 = c.in-Ok.ensures.cases in
    let same : read c.in-Ok.text.now ≡ document c.args.body.now =
    ap read utf8.0 ∙ sym (document-IsUtf8 c.args.body.now utf8.1) in
    subst (λ (d : Option Data). IfOk c.read_thin.result
    (λ o. IsThinOf (map (λ n. n.now) c.args.names.now) (option_map view o) d)) same c.read_thin.ensures.exact
