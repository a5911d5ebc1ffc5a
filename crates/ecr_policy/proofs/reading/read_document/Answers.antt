use Rattle.std.proofs.Common.{◌≡◌, Option, IfOk, option_map, sym, subst}
use Rattle.serde_json.specs.Data.{Data}
use Rattle.serde_json.specs.View.{view}
use Rattle.ecr_model.proofs.lemmas.documents.DocumentLemmas.{document-IsUtf8}
use Rattle.ecr_policy.proofs.reading.read_document.Goals as goal

-- a text is UTF-8
pub returns : goal.returns
returns c =
    subst (λ (d : Option Data). IfOk c.read_json.result (λ o. option_map view o ≡ d))
    (sym (document-IsUtf8 c.args.text.now c.utf8.text)) c.read_json.ensures
