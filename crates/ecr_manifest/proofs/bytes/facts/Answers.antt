use Rattle.std.proofs.Common.{◌≡◌, Some, option_map, ap, sym, ◌∙◌, arith}
use Rattle.serde_json.specs.View.{view}
use Rattle.ecr_model.specs.documents.Documents.{document}
use Rattle.ecr_manifest.proofs.CountLemmas.{document-size}
use Rattle.ecr_manifest.proofs.bytes.facts.Goals as goal

pub reading-requires : goal.reading-requires
reading-requires c =
    let there : document c.args.bytes.now ≡ Some (view c.in-Some.value) =
    sym c.in_ok-value.ensures ∙ ap (option_map view) c.in-Some.is in
    omega (arith, c.requires, document-size c.args.bytes.now (view c.in-Some.value) there)
