use Rattle.std.proofs.Common.{refl}
use Rattle.ecr_model.specs.documents.Manifests.{is_list, is_image, is_foreign, descriptor_of, manifest_fault, blobs_fault, each_once, judged, manifest_reading, facts, given_type}
use Rattle.ecr_model.specs.names.Digests.{digest_of}
use Rattle.hex.proofs.OnLiterals.{hex_on_literals}
use Rattle.hex.specs.Hex.{encode_with, decode_pairs}
use Rattle.ecr_model.specs.documents.Documents.{document}
use Rattle.std.specs.Str.Lossy.{utf8_valid_len}
use Rattle.std.specs.Str.{is_utf8, chars}
use Rattle.serde_json.proofs.OnLiterals.{serde_json_on_literals}
use Rattle.ecr_examples.proofs.manifests.facts_are_told.Goals as goal

pub returns : goal.returns
unfolding is_list is_image is_foreign digest_of descriptor_of hex_on_literals encode_with decode_pairs manifest_fault
    blobs_fault each_once judged manifest_reading facts given_type document utf8_valid_len is_utf8 chars lib.Utf8.encode
    serde_json_on_literals
returns c = record {
  told = record {
    new = refl;
    known = refl;
    once = refl;
    must = refl;
    of_image = refl;
    of_list = refl;
    well = refl;
    ill = refl;
    judged_well = refl;
    judged_ill = refl;
    itself = refl;
    its_fault = refl;
    image_is = refl;
    index_is = refl;
    no_json = refl;
    json = refl;
    bytes = refl;
    no_bytes = refl;
  };
}
