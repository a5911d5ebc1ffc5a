use Rattle.std.proofs.Common.{refl}
use Rattle.ecr_model.specs.documents.Manifests.{is_list, is_image, is_foreign, given_type}
use Rattle.ecr_examples.proofs.manifests.media_types_are_these.Goals as goal

pub returns : goal.returns
unfolding is_list is_image is_foreign given_type
returns c = record {
  these = record {
    docker = refl;
    docker_lists = refl;
    oci = refl;
    oci_lists = refl;
    docker_layer = refl;
    oci_layer = refl;
    lists = refl;
    images = refl;
    foreign = refl;
    through = refl;
    before = refl;
    after = refl;
    given = refl;
    blank = refl;
  };
}
