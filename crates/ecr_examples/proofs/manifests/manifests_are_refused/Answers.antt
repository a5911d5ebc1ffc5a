use Rattle.std.proofs.Common.{refl}
use Rattle.ecr_model.specs.documents.Manifests.{is_list, is_image, is_foreign, descriptor_of, manifest_fault, blobs_fault}
use Rattle.ecr_model.specs.names.Digests.{digest_of}
use Rattle.hex.proofs.OnLiterals.{hex_on_literals}
use Rattle.hex.specs.Hex.{encode_with, decode_pairs}
use Rattle.ecr_examples.proofs.manifests.manifests_are_refused.Goals as goal

pub returns : goal.returns
unfolding is_list is_image is_foreign digest_of descriptor_of hex_on_literals encode_with decode_pairs manifest_fault
    blobs_fault
returns c = record {
  refused = record {
    first = refl;
    none = refl;
    holds = refl;
    not = refl;
    other_type = refl;
    same_type = refl;
    ungiven = refl;
    no_text = refl;
    unstated = refl;
    number = refl;
    versions = refl;
    no_object = refl;
    no_type = refl;
    mistyped = refl;
    unknown = refl;
    version = refl;
    well = refl;
    third = refl;
    nothing = refl;
    something = refl;
    no_list = refl;
    second = refl;
    sound = refl;
    size = refl;
    no_size = refl;
    no_config = refl;
    needs_none = refl;
    most = refl;
    too_large = refl;
  };
}
