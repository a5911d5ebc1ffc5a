use Rattle.std.proofs.Common.{refl}
use Rattle.ecr_model.specs.documents.Manifests.{is_list, is_image, is_foreign, descriptor_of}
use Rattle.ecr_model.specs.names.Digests.{digest_of}
use Rattle.hex.proofs.OnLiterals.{hex_on_literals}
use Rattle.hex.specs.Hex.{encode_with, decode_pairs}
use Rattle.ecr_examples.proofs.manifests.members_are_read.Goals as goal

pub returns : goal.returns
unfolding is_list is_image is_foreign digest_of descriptor_of hex_on_literals encode_with decode_pairs
returns c = record {
  read = record {
    stated = refl;
    given = refl;
    neither = refl;
    media = refl;
    media_given = refl;
    store = refl;
    config_is = refl;
    no_config = refl;
    names = refl;
    layers_are = refl;
    no_layers = refl;
    manifests_are = refl;
    itself = refl;
    in_order = refl;
    config_alone = refl;
  };
}
