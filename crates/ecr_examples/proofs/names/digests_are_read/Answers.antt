use Rattle.std.proofs.Common.{refl}
use Rattle.ecr_model.specs.names.Digests.{digest_text, digest_of}
use Rattle.ecr_model.specs.names.Uploads.{upload_id}
use Rattle.hex.proofs.OnLiterals.{hex_on_literals}
use Rattle.hex.specs.Hex.{encode_with, decode_pairs}
use Rattle.ecr_examples.proofs.names.digests_are_read.Goals as goal

pub returns : goal.returns
unfolding digest_text digest_of upload_id hex_on_literals encode_with decode_pairs
returns c = record {
  read = record {
    digits = refl;
    written = refl;
    read = refl;
    bare = refl;
    taken = refl;
    other = refl;
    long = refl;
    short = refl;
    capital = refl;
    no_digit = refl;
    number = refl;
    upload = refl;
    first_upload = refl;
    last_upload = refl;
  };
}
