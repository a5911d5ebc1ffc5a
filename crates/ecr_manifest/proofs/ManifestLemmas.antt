-- What a manifest names.
use Rattle.std.proofs.Common.{◌≡◌, List, [], ◌∷◌, map, Option, refl, ap}
use Rattle.serde_json.specs.View.{items_view, view}
use Rattle.serde_json.specs.declared.value.Value.{Value}
use Rattle.ecr_model.specs.declared.registry.manifest.Descriptor.{Descriptor}
use Rattle.ecr_model.specs.documents.Manifests.{descriptor_of, descriptors}

-- the entries of a list of values
pub descriptors-items_view : (values : List Value)
    → descriptors (items_view values) ≡ map (λ v. descriptor_of (view v)) values
descriptors-items_view [] = refl
descriptors-items_view (v ∷ rest) =
    ap (λ (ds : List (Option Descriptor)). descriptor_of (view v) ∷ ds) (descriptors-items_view rest)
