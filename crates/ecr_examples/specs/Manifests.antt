-- The reading of manifests at examples (OCI Image 1.1, image manifest, image index, descriptor; Docker Image Manifest
-- Version 2, Schema 2). Sizes are in bytes. Causes are of this registry: docs/PROTOCOL.md.
use Rattle.std.specs.Prelude.{◌≡◌, ℕ, true, false, List, [], ◌∷◌, ◌++◌, map, replicate, Option, None, Some, Ok, Err, codes}
use Rattle.serde_json.specs.Data.{Data, null, number, unsigned, string, array, object, Items, no_items, item, member, no_members}
use Rattle.ecr_model.specs.declared.names.Digest.{Digest}
use Rattle.ecr_model.specs.declared.registry.manifest.Descriptor.{Descriptor}
use Rattle.ecr_model.specs.declared.registry.manifest.Facts.{Facts}
use Rattle.ecr_model.specs.declared.registry.manifest.ManifestFault.{ManifestFault}
use Rattle.ecr_model.specs.documents.Conditions.{first_of}
use Rattle.ecr_model.specs.documents.Manifests.{docker_manifest, docker_list, oci_manifest, oci_index, docker_foreign, oci_foreign, is_list, is_image, is_foreign, through_last, before_spaces, after_spaces, given_type, text_of, whole_of, size_from, described, descriptor_of, descriptors, media_from, media_of, stored, config_of, entries_name, entries_of, some_of, named, fault_if, differs, is_mistyped, is_two, manifest_fault, entry_fault, is_no_descriptor, entries_fault, size_of, blobs_fault, with_digest, each_once, stored_digests, facts_of, facts_or_fault, judged, unless_fault, manifest_reading, of_document, facts}
use Rattle.ecr_examples.specs.Names.{of_abc, abc_digits}

-- the digest of 64 zeros
abbrev zeros : Digest
zeros = record { bytes = replicate 32 0 }

-- media types by their published names; a type that was given with a request ends before its parameters
pub record MediaTypesAreThese : Type 0 where
  pub docker : docker_manifest ≡ codes "application/vnd.docker.distribution.manifest.v2+json"
  pub docker_lists : docker_list ≡ codes "application/vnd.docker.distribution.manifest.list.v2+json"
  pub oci : oci_manifest ≡ codes "application/vnd.oci.image.manifest.v1+json"
  pub oci_lists : oci_index ≡ codes "application/vnd.oci.image.index.v1+json"
  pub docker_layer : docker_foreign ≡ codes "application/vnd.docker.image.rootfs.foreign.diff.tar.gzip"
  pub oci_layer : oci_foreign ≡ codes "application/vnd.oci.image.layer.nondistributable.v1."
  pub lists : map is_list (codes "application/vnd.docker.distribution.manifest.list.v2+json"
      ∷ codes "application/vnd.oci.image.index.v1+json" ∷ codes "application/vnd.oci.image.manifest.v1+json" ∷ [])
      ≡ true ∷ true ∷ false ∷ []
  pub images : map is_image (codes "application/vnd.docker.distribution.manifest.v2+json"
      ∷ codes "application/vnd.oci.image.manifest.v1+json" ∷ codes "application/vnd.oci.image.index.v1+json" ∷ [])
      ≡ true ∷ true ∷ false ∷ []
  pub foreign : map is_foreign (codes "application/vnd.docker.image.rootfs.foreign.diff.tar.gzip"
      ∷ codes "application/vnd.oci.image.layer.nondistributable.v1.tar"
      ∷ codes "application/vnd.oci.image.layer.nondistributable.v1.tar+gzip"
      ∷ codes "application/vnd.docker.image.rootfs.foreign.diff.tar"
      ∷ codes "application/vnd.oci.image.layer.v1.tar+gzip" ∷ []) ≡ true ∷ true ∷ true ∷ false ∷ false ∷ []
  pub through : through_last (codes " a b  ") ≡ 4
  pub before : before_spaces (codes " a b  ") ≡ codes " a b"
  pub after : after_spaces (codes "  a b ") ≡ codes "a b "
  pub given : given_type (codes " application/json ; charset=utf-8; q=1") ≡ codes "application/json"
  pub blank : given_type (codes "   ") ≡ []

-- a descriptor as JSON
abbrev descriptor : List ℕ → List ℕ → ℕ → Data
descriptor media digest size = object (member (codes "digest") (string digest)
    (member (codes "mediaType") (string media) (member (codes "size") (number (unsigned size)) no_members)))

abbrev abc : List ℕ
abc = codes "sha256:" ++ abc_digits

abbrev nought : List ℕ
nought = codes "sha256:" ++ replicate 64 48

abbrev layer_type : List ℕ
layer_type = codes "application/vnd.oci.image.layer.v1.tar+gzip"

abbrev foreign_type : List ℕ
foreign_type = codes "application/vnd.oci.image.layer.nondistributable.v1.tar"

-- the descriptor that is read, of a layer of that size
abbrev layer : Digest → ℕ → Descriptor
layer digest size = record { digest = digest; size = size; foreign = false }

-- a descriptor has a media type, a digest, and a size below 2^63
pub record DescriptorsAreRead : Type 0 where
  pub text_is : text_of (codes "mediaType") (descriptor layer_type abc 3) ≡ Some layer_type
  pub no_text : text_of (codes "size") (descriptor layer_type abc 3) ≡ None
  pub whole_is : whole_of (codes "size") (descriptor layer_type abc 3) ≡ Some 3
  pub no_whole : whole_of (codes "digest") (descriptor layer_type abc 3) ≡ None
  pub sizes : map size_from (None ∷ Some 0 ∷ Some 9223372036854775807 ∷ Some 9223372036854775808 ∷ [])
      ≡ None ∷ Some 0 ∷ Some 9223372036854775807 ∷ None ∷ []
  pub all : described (Some foreign_type) (Some of_abc) (Some 3)
      ≡ Some (record { digest = of_abc; size = 3; foreign = true })
  pub no_media : described None (Some of_abc) (Some 3) ≡ None
  pub no_digest : described (Some layer_type) None (Some 3) ≡ None
  pub no_size : described (Some layer_type) (Some of_abc) None ≡ None
  pub read : descriptor_of (descriptor layer_type abc 3) ≡ Some (layer of_abc 3)
  pub unread : descriptor_of (descriptor layer_type (codes "sha256:0") 3) ≡ None
  pub each : descriptors (item (descriptor layer_type abc 3) (item null no_items)) ≡ Some (layer of_abc 3) ∷ None ∷ []

-- an image: a config of 7 bytes, and layers of 3, 5, 3 and 4 bytes, of which the third is the first once more and the
-- fourth needn't be stored
abbrev layers : Items
layers = item (descriptor layer_type abc 3) (item (descriptor layer_type nought 5)
    (item (descriptor layer_type abc 3) (item (descriptor foreign_type nought 4) no_items)))

abbrev image : Data
image = object (member (codes "config") (descriptor foreign_type nought 7) (member (codes "layers") (array layers)
    (member (codes "mediaType") (string oci_manifest)
    (member (codes "schemaVersion") (number (unsigned 2)) no_members))))

-- a list of two manifests, and the first once more
abbrev entries : Items
entries = item (descriptor oci_manifest nought 5) (item (descriptor docker_manifest abc 3)
    (item (descriptor oci_manifest nought 5) no_items))

abbrev index : Data
index = object (member (codes "manifests") (array entries)
    (member (codes "schemaVersion") (number (unsigned 2)) no_members))

abbrev config : Descriptor
config = layer zeros 7

abbrev read_layers : List (Option Descriptor)
read_layers = Some (layer of_abc 3) ∷ Some (layer zeros 5) ∷ Some (layer of_abc 3)
    ∷ Some (record { digest = zeros; size = 4; foreign = true }) ∷ []

-- the members of a manifest
pub record MembersAreRead : Type 0 where
  pub stated : media_from (Some (codes "a")) (Some (codes "b")) ≡ codes "a"
  pub given : media_from None (Some (codes "b")) ≡ codes "b"
  pub neither : media_from None None ≡ []
  pub media : media_of (Some (codes "b")) image ≡ oci_manifest
  pub media_given : media_of (Some (codes "b")) index ≡ codes "b"
  pub store : stored (record { digest = zeros; size = 7; foreign = true }) ≡ config
  pub config_is : config_of false image ≡ Some config
  pub no_config : config_of true image ≡ None
  pub names : map entries_name (false ∷ true ∷ []) ≡ codes "layers" ∷ codes "manifests" ∷ []
  pub layers_are : entries_of false image ≡ Some read_layers
  pub no_layers : entries_of false index ≡ None
  pub manifests_are : entries_of true index
      ≡ Some (Some (layer zeros 5) ∷ Some (layer of_abc 3) ∷ Some (layer zeros 5) ∷ [])
  pub itself : some_of (Some config) ≡ Some config
  pub in_order : named (Some config) (Some (Some (layer of_abc 3) ∷ None ∷ [])) ≡ config ∷ layer of_abc 3 ∷ []
  pub config_alone : named (Some config) None ≡ config ∷ []

abbrev fault : ℕ → ℕ → ManifestFault
fault cause entry = record { cause = cause; entry = entry }

-- the image with that member in place of the stated type and version
abbrev versioned : Data → Data → Data
versioned media version = object (member (codes "mediaType") media (member (codes "schemaVersion") version no_members))

abbrev two : Data
two = number (unsigned 2)

-- the causes in their order
pub record ManifestsAreRefused : Type 0 where
  pub first : first_of {A = ℕ} (None ∷ Some 3 ∷ Some 4 ∷ []) ≡ Some 3
  pub none : first_of {A = ℕ} (None ∷ None ∷ []) ≡ None
  pub holds : fault_if 4 true ≡ Some (fault 4 0)
  pub not : fault_if 4 false ≡ None
  pub other_type : differs (Some (codes "a")) (Some (codes "b")) ≡ true
  pub same_type : differs (Some (codes "a")) (Some (codes "a")) ≡ false
  pub ungiven : differs None (Some (codes "b")) ≡ false
  pub no_text : differs (Some (codes "a")) None ≡ true
  pub unstated : is_mistyped (Some (codes "a")) None ≡ false
  pub number : is_mistyped None (Some two) ≡ true
  pub versions : map is_two (None ∷ Some 2 ∷ Some 1 ∷ []) ≡ false ∷ true ∷ false ∷ []
  pub no_object : manifest_fault (Some oci_manifest) (array no_items) ≡ Some (fault 1 0)
  pub no_type : manifest_fault None index ≡ Some (fault 2 0)
  pub mistyped : manifest_fault (Some oci_index) (versioned (string oci_manifest) two) ≡ Some (fault 3 0)
  pub unknown : manifest_fault None (versioned (string (codes "a")) two) ≡ Some (fault 4 0)
  pub version : manifest_fault None (versioned (string oci_manifest) (string (codes "2"))) ≡ Some (fault 5 0)
  pub well : manifest_fault (Some oci_index) index ≡ None
  pub third : entry_fault 2 ≡ fault 7 3
  pub nothing : is_no_descriptor None ≡ true
  pub something : is_no_descriptor (Some config) ≡ false
  pub no_list : entries_fault None ≡ Some (fault 7 0)
  pub second : entries_fault (Some (Some config ∷ None ∷ None ∷ [])) ≡ Some (fault 7 2)
  pub sound : entries_fault (Some []) ≡ None
  pub size : size_of false (config ∷ layer of_abc 3 ∷ []) ≡ 10
  pub no_size : size_of true (config ∷ []) ≡ 0
  pub no_config : blobs_fault false None (Some []) ≡ Some (fault 6 0)
  pub needs_none : blobs_fault true None (Some []) ≡ None
  pub most : blobs_fault false (Some (layer zeros 9223372036854775807)) (Some []) ≡ None
  pub too_large : blobs_fault false (Some (layer zeros 9223372036854775807)) (Some (Some (layer of_abc 1) ∷ []))
      ≡ Some (fault 8 0)

-- the facts of the image: what must be stored, each once and in the order of config and layers
abbrev image_facts : Facts
image_facts = record { list = false; media = oci_manifest; required = zeros ∷ of_abc ∷ []; children = []; size = 22 }

-- the facts of the list: its manifests, each once and in its order
abbrev index_facts : Facts
index_facts = record { list = true; media = oci_index; required = []; children = zeros ∷ of_abc ∷ []; size = 0 }

-- the facts of manifests, or their first cause
pub record FactsAreTold : Type 0 where
  pub new : with_digest (of_abc ∷ []) zeros ≡ of_abc ∷ zeros ∷ []
  pub known : with_digest (of_abc ∷ zeros ∷ []) of_abc ≡ of_abc ∷ zeros ∷ []
  pub once : each_once (zeros ∷ of_abc ∷ zeros ∷ []) ≡ zeros ∷ of_abc ∷ []
  pub must : stored_digests (layer zeros 5 ∷ record { digest = of_abc; size = 4; foreign = true } ∷ []) ≡ zeros ∷ []
  pub of_image : facts_of false oci_manifest (named (Some config) (Some read_layers)) ≡ image_facts
  pub of_list : facts_of true oci_index (layer zeros 5 ∷ layer of_abc 3 ∷ layer zeros 5 ∷ []) ≡ index_facts
  pub well : facts_or_fault None image_facts ≡ Ok image_facts
  pub ill : facts_or_fault (Some (fault 7 2)) image_facts ≡ Err (fault 7 2)
  pub judged_well : judged false oci_manifest (Some config) (Some read_layers) ≡ Ok image_facts
  pub judged_ill : judged false oci_manifest None (Some read_layers) ≡ Err (fault 6 0)
  pub itself : unless_fault None (Ok image_facts) ≡ Ok image_facts
  pub its_fault : unless_fault (Some (fault 3 0)) (Ok image_facts) ≡ Err (fault 3 0)
  pub image_is : manifest_reading None image ≡ Ok image_facts
  pub index_is : manifest_reading (Some oci_index) index ≡ Ok index_facts
  pub no_json : of_document None None ≡ Err (fault 1 0)
  pub json : of_document None (Some image) ≡ Ok image_facts
  pub bytes : facts (codes "{\"schemaVersion\":2,\"manifests\":[]}")
      (Some (codes " application/vnd.oci.image.index.v1+json;a"))
      ≡ Ok (record { list = true; media = oci_index; required = []; children = []; size = 0 })
  pub no_bytes : facts [] None ≡ Err (fault 1 0)
