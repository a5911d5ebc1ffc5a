use Rattle.std.proofs.Common.{refl}
use Rattle.ecr_model.specs.documents.Manifests.{is_list, is_image, is_foreign, descriptor_of}
use Rattle.ecr_model.specs.names.Digests.{digest_of}
use Rattle.hex.proofs.OnLiterals.{hex_on_literals}
use Rattle.hex.specs.Hex.{encode_with, decode_pairs}
use Rattle.ecr_examples.proofs.manifests.descriptors_are_read.Goals as goal

pub returns : goal.returns
unfolding is_list is_image is_foreign digest_of descriptor_of hex_on_literals encode_with decode_pairs
returns c = record {
  read = record {
    text_is = refl;
    no_text = refl;
    whole_is = refl;
    no_whole = refl;
    sizes = refl;
    all = refl;
    no_media = refl;
    no_digest = refl;
    no_size = refl;
    read = refl;
    unread = refl;
    each = refl;
  };
}
