use Rattle.std.proofs.Common.{◌≡◌, List, Option, IfOk, sym, subst}
use Rattle.ecr_model.specs.declared.registry.manifest.Descriptor.{Descriptor}
use Rattle.ecr_manifest.proofs.ManifestLemmas.{descriptors-items_view}
use Rattle.ecr_manifest.proofs.manifest.descriptors.Goals as goal

pub returns : goal.returns
returns c =
    subst (λ (ds : List (Option Descriptor)). IfOk c.read_each.result (λ v. v.items ≡ ds))
    (sym (descriptors-items_view c.args.values.now)) c.read_each.ensures
