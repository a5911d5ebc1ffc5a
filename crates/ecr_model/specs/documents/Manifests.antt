-- The reading of a manifest (OCI Image 1.1, image manifest, image index, descriptor; Docker Image Manifest Version 2,
-- Schema 2). Sizes are in bytes. Causes and entries count from 1, and 0 is no entry.
use Rattle.std.specs.Prelude.{ℕ, suc, ◌+◌, ◌^◌, Bool, true, false, not, ◌&&◌, ◌||◌, ◌==◌, nat_lt, List, [], ◌∷◌, ◌++◌, take, map, filter, codes, Option, Some, None, option_map, option_and_then, is_some, Result, Ok, Err, if◌then◌else◌, bytes_eq}
use Rattle.std.specs.List.{before_first, filter_map, fold, list_any, position, sum_by}
use Rattle.serde_json.specs.Data.{Data, Items, no_items, item}
use Rattle.serde_json.specs.Find.{get, as_array, as_number, as_object, as_str, as_u64}
use Rattle.ecr_model.specs.documents.Conditions.{first_of}
use Rattle.ecr_model.specs.declared.registry.manifest.Descriptor.{Descriptor}
use Rattle.ecr_model.specs.declared.registry.manifest.Facts.{Facts}
use Rattle.ecr_model.specs.declared.registry.manifest.ManifestFault.{ManifestFault}
use Rattle.ecr_model.specs.declared.names.Digest.{Digest}
use Rattle.ecr_model.specs.documents.Documents.{document}
use Rattle.ecr_model.specs.names.Digests.{digest_of}

-- ---- media types

abbrev pub docker_manifest : List ℕ
docker_manifest = codes "application/vnd.docker.distribution.manifest.v2+json"

abbrev pub docker_list : List ℕ
docker_list = codes "application/vnd.docker.distribution.manifest.list.v2+json"

abbrev pub oci_manifest : List ℕ
oci_manifest = codes "application/vnd.oci.image.manifest.v1+json"

abbrev pub oci_index : List ℕ
oci_index = codes "application/vnd.oci.image.index.v1+json"

-- a layer of Windows, which its maker alone gives out
abbrev pub docker_foreign : List ℕ
docker_foreign = codes "application/vnd.docker.image.rootfs.foreign.diff.tar.gzip"

-- how the types of other layers begin that their makers alone give out
abbrev pub oci_foreign : List ℕ
oci_foreign = codes "application/vnd.oci.image.layer.nondistributable.v1."

-- the type is one of a list of manifests
unfoldable pub is_list : List ℕ → Bool
is_list media = bytes_eq media docker_list || bytes_eq media oci_index

-- the type is one of an image
unfoldable pub is_image : List ℕ → Bool
is_image media = bytes_eq media docker_manifest || bytes_eq media oci_manifest

-- a layer of the type needn't be stored
unfoldable pub is_foreign : List ℕ → Bool
is_foreign media = bytes_eq media docker_foreign || bytes_eq (take 52 media) oci_foreign

-- how many bytes there are through the last one that isn't a space
abbrev pub through_last : List ℕ → ℕ
through_last [] = 0
through_last (b ∷ rest) = if (through_last rest == 0) && b == 32 then 0 else suc (through_last rest)

-- without the spaces at the end
abbrev pub before_spaces : List ℕ → List ℕ
before_spaces text = take (through_last text) text

-- without the spaces at the beginning
abbrev pub after_spaces : List ℕ → List ℕ
after_spaces [] = []
after_spaces (b ∷ rest) = if b == 32 then after_spaces rest else b ∷ rest

-- a type that was given with a request: up to the first `;`, without the spaces at its ends
unfoldable pub given_type : List ℕ → List ℕ
given_type text = after_spaces (before_spaces (before_first (λ b. b == 59) text))

-- ---- descriptors

-- a member's text
abbrev pub text_of : List ℕ → Data → Option (List ℕ)
text_of name value = option_and_then as_str (get name value)

-- a member's whole number
abbrev pub whole_of : List ℕ → Data → Option ℕ
whole_of name value = option_and_then as_u64 (option_and_then as_number (get name value))

-- a size that is stated is below 2^63
abbrev pub size_from : Option ℕ → Option ℕ
size_from None = None
size_from (Some n) = if nat_lt n (2 ^ 63) then Some n else None

-- the descriptor of these members, which must all be there
abbrev pub described : Option (List ℕ) → Option Digest → Option ℕ → Option Descriptor
described None digest size = None
described (Some media) None size = None
described (Some media) (Some digest) None = None
described (Some media) (Some digest) (Some size) =
    Some (record { digest = digest; size = size; foreign = is_foreign media })

-- the descriptor that the value is
unfoldable pub descriptor_of : Data → Option Descriptor
descriptor_of value =
    described (text_of (codes "mediaType") value) (option_and_then digest_of (text_of (codes "digest") value))
    (size_from (whole_of (codes "size") value))

-- each entry as the descriptor that it is
abbrev pub descriptors : Items → List (Option Descriptor)
descriptors no_items = []
descriptors (item value rest) = descriptor_of value ∷ descriptors rest

-- ---- the members of a manifest

-- the media type: the stated one, or else the given one
abbrev pub media_from : Option (List ℕ) → Option (List ℕ) → List ℕ
media_from (Some stated) given = stated
media_from None (Some given) = given
media_from None None = []

abbrev pub media_of : Option (List ℕ) → Data → List ℕ
media_of given value = media_from (text_of (codes "mediaType") value) given

-- the config, which must be stored whatever its type
abbrev pub stored : Descriptor → Descriptor
stored descriptor = record descriptor { foreign = false }

-- an image's config; a list has none
abbrev pub config_of : Bool → Data → Option Descriptor
config_of true value = None
config_of false value = option_map stored (option_and_then descriptor_of (get (codes "config") value))

-- the member that has the entries
abbrev pub entries_name : Bool → List ℕ
entries_name true = codes "manifests"
entries_name false = codes "layers"

-- an image's layers, a list's manifests
abbrev pub entries_of : Bool → Data → Option (List (Option Descriptor))
entries_of list value = option_map descriptors (option_and_then as_array (get (entries_name list) value))

-- the descriptors that a manifest has: the config and the entries
abbrev pub some_of : Option Descriptor → Option Descriptor
some_of entry = entry

abbrev pub named : Option Descriptor → Option (List (Option Descriptor)) → List Descriptor
named config None = filter_map some_of (config ∷ [])
named config (Some entries) = filter_map some_of (config ∷ entries)

-- ---- the conditions

-- the cause, where it holds
abbrev pub fault_if : ℕ → Bool → Option ManifestFault
fault_if cause true = Some (record { cause = cause; entry = 0 })
fault_if cause false = None

-- the member `mediaType` isn't a text, or differs from the given one
abbrev pub differs : Option (List ℕ) → Option (List ℕ) → Bool
differs given None = true
differs None (Some stated) = false
differs (Some given) (Some stated) = not (bytes_eq stated given)

abbrev pub is_mistyped : Option (List ℕ) → Option Data → Bool
is_mistyped given None = false
is_mistyped given (Some stated) = differs given (as_str stated)

-- `schemaVersion` is the whole number 2
abbrev pub is_two : Option ℕ → Bool
is_two None = false
is_two (Some n) = n == 2

-- the fault of the manifest itself
unfoldable pub manifest_fault : Option (List ℕ) → Data → Option ManifestFault
manifest_fault given value = first_of (
    fault_if 1 (not (is_some (as_object value)))
    ∷ fault_if 2 (not (is_some (get (codes "mediaType") value)) && not (is_some given))
    ∷ fault_if 3 (is_mistyped given (get (codes "mediaType") value))
    ∷ fault_if 4 (not (is_image (media_of given value)) && not (is_list (media_of given value)))
    ∷ fault_if 5 (not (is_two (whole_of (codes "schemaVersion") value)))
    ∷ [])

-- the entry that is no descriptor
abbrev pub entry_fault : ℕ → ManifestFault
entry_fault at = record { cause = 7; entry = at + 1 }

abbrev pub is_no_descriptor : Option Descriptor → Bool
is_no_descriptor entry = not (is_some entry)

-- the entries aren't a list, or one is no descriptor
abbrev pub entries_fault : Option (List (Option Descriptor)) → Option ManifestFault
entries_fault None = fault_if 7 true
entries_fault (Some entries) = option_map entry_fault (position is_no_descriptor entries)

-- the stated sizes, added up; 0 for a list
abbrev pub size_of : Bool → List Descriptor → ℕ
size_of true blobs = 0
size_of false blobs = sum_by (λ d. d.size) blobs

-- the fault of a descriptor in it
unfoldable pub blobs_fault : Bool → Option Descriptor → Option (List (Option Descriptor)) → Option ManifestFault
blobs_fault list config entries = first_of (
    fault_if 6 (not list && not (is_some config))
    ∷ entries_fault entries
    ∷ fault_if 8 (not (nat_lt (size_of list (named config entries)) (2 ^ 63)))
    ∷ [])

-- ---- the facts

-- a digest is added where it isn't there yet
abbrev pub with_digest : List Digest → Digest → List Digest
with_digest digests digest =
    if list_any (λ d. bytes_eq digest.bytes d.bytes) digests then digests else digests ++ digest ∷ []

-- each once, in order
unfoldable pub each_once : List Digest → List Digest
each_once digests = fold with_digest [] digests

-- the digests of those that must be stored
abbrev pub stored_digests : List Descriptor → List Digest
stored_digests blobs = map (λ d. d.digest) (filter (λ d. not d.foreign) blobs)

abbrev pub facts_of : Bool → List ℕ → List Descriptor → Facts
facts_of true media blobs =
    record { list = true; media = media; required = []; children = each_once (map (λ d. d.digest) blobs); size = 0 }
facts_of false media blobs =
    record {
      list = false;
      media = media;
      required = each_once (stored_digests blobs);
      children = [];
      size = size_of false blobs;
    }

-- ---- the reading

-- the facts, where nothing is wrong
abbrev pub facts_or_fault : Option ManifestFault → Facts → Result Facts ManifestFault
facts_or_fault (Some fault) facts = Err fault
facts_or_fault None facts = Ok facts

-- of the type and what the manifest names
unfoldable pub judged : Bool → List ℕ → Option Descriptor → Option (List (Option Descriptor))
    → Result Facts ManifestFault
judged list media config entries =
    facts_or_fault (blobs_fault list config entries) (facts_of list media (named config entries))

-- of the manifest, where nothing is wrong with it itself
abbrev pub unless_fault : Option ManifestFault → Result Facts ManifestFault → Result Facts ManifestFault
unless_fault (Some fault) facts = Err fault
unless_fault None facts = facts

unfoldable pub manifest_reading : Option (List ℕ) → Data → Result Facts ManifestFault
manifest_reading given value =
    let media = media_of given value in
    let list = is_list media in
    unless_fault (manifest_fault given value) (judged list media (config_of list value) (entries_of list value))

-- of the JSON reading
abbrev pub of_document : Option (List ℕ) → Option Data → Result Facts ManifestFault
of_document given None = Err (record { cause = 1; entry = 0 })
of_document given (Some value) = manifest_reading given value

-- the facts of the bytes under the media type that was given, or the first cause that holds
unfoldable pub facts : List ℕ → Option (List ℕ) → Result Facts ManifestFault
facts bytes given = of_document (option_map given_type given) (document bytes)
