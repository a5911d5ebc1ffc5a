use Rattle.std.proofs.Common.{rules, ◌≡◌, Some, sym}
use Rattle.serde_json.specs.View.{view}
use Rattle.ecr_model.specs.documents.Manifests.{entries_of}
use Rattle.ecr_manifest.proofs.CountLemmas.{entries_of-length}
use Rattle.ecr_manifest.proofs.manifest.entries_of.Goals as goal

pub returns-in_ok-descriptors-in-Some-clause-few : goal.returns-in_ok-descriptors-in-Some-clause-few
returns-in_ok-descriptors-in-Some-clause-few c =
    let items = c.in_ok-descriptors-in-Some.field-0.items in
    let same : Some items ≡ entries_of c.args.list (view c.args.value.now) = search rules in
    entries_of-length c.args.list (view c.args.value.now) items (sym same)
