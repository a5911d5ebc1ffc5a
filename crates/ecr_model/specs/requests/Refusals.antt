-- What is said of a refusal (Amazon ECR API Reference, "Common Errors" and the actions' errors): its `__type` and its
-- message, which is of this registry, as JSON. Keys stand in byte order.
use Rattle.std.specs.Prelude.{ℕ, List, [], ◌∷◌, ◌++◌, Option, Some, codes, decimal, nat_lt, ◌-◌, if◌then◌else◌}
use Rattle.serde_json.specs.Data.{Data, number, unsigned, string, object, Members, member, no_members}
use Rattle.serde_json.specs.Written.{compact_text}
use Rattle.ecr_model.specs.declared.names.Digest.{Digest}
use Rattle.ecr_model.specs.declared.names.RepoKey.{RepoKey}
use Rattle.ecr_model.specs.declared.requests.refusal.Parameter.{Parameter}
use Rattle.ecr_model.specs.declared.requests.refusal.Parameter.TheVariants as parameters
use Rattle.ecr_model.specs.declared.requests.refusal.ConfigurationFault.{ConfigurationFault}
use Rattle.ecr_model.specs.declared.requests.refusal.ConfigurationFault.TheVariants as faults
use Rattle.ecr_model.specs.declared.requests.refusal.Refusal.{Refusal}
use Rattle.ecr_model.specs.declared.requests.refusal.Refusal.TheVariants.{InvalidParameter, RepositoryAlreadyExists, RepositoryNotFound, RepositoryNotEmpty, UploadNotFound, InvalidLayerPart, EmptyUpload, LayerPartTooSmall, InvalidLayer, LayerAlreadyExists, LayersNotFound, ReferencedImagesNotFound, ImageAlreadyExists, ImageTagAlreadyExists, ImageDigestDoesNotMatch, ImageNotFound, LimitExceeded, LifecyclePolicyNotFound, PreviewInProgress, PreviewNotFound, Validation, UnknownOperation, Serialization}
use Rattle.ecr_model.specs.names.Digests.{digest_text}
use Rattle.ecr_model.specs.names.Sites.{utf8_or_empty}
use Rattle.ecr_model.specs.names.Uploads.{upload_id}

-- the name of a member, or the first cause of a manifest or a policy; entries and rules count from 1, and 0 is none
unfoldable pub parameter_text : Parameter → List ℕ
parameter_text parameters.RegistryId = codes "registryId"
parameter_text parameters.RepositoryName = codes "repositoryName"
parameter_text parameters.ImageTagMutability = codes "imageTagMutability"
parameter_text parameters.Force = codes "force"
parameter_text parameters.RepositoryNames = codes "repositoryNames"
parameter_text parameters.MaxResults = codes "maxResults"
parameter_text parameters.NextToken = codes "nextToken"
parameter_text parameters.UploadId = codes "uploadId"
parameter_text parameters.PartFirstByte = codes "partFirstByte"
parameter_text parameters.PartLastByte = codes "partLastByte"
parameter_text parameters.LayerPartBlob = codes "layerPartBlob"
parameter_text parameters.LayerDigests = codes "layerDigests"
parameter_text parameters.LayerDigest = codes "layerDigest"
parameter_text parameters.ImageManifest = codes "imageManifest"
parameter_text parameters.ImageManifestMediaType = codes "imageManifestMediaType"
parameter_text parameters.ImageTag = codes "imageTag"
parameter_text parameters.ImageDigest = codes "imageDigest"
parameter_text parameters.ImageIds = codes "imageIds"
parameter_text parameters.ImageId = codes "imageId"
parameter_text parameters.Filter = codes "filter"
parameter_text parameters.LifecyclePolicyText = codes "lifecyclePolicyText"
parameter_text parameters.ReplicationConfiguration = codes "replicationConfiguration"
parameter_text (parameters.Manifest fault) =
    codes "imageManifest cause " ++ decimal fault.cause ++ codes " entry " ++ decimal fault.entry
parameter_text (parameters.Policy fault) =
    codes "lifecyclePolicyText rule " ++ decimal fault.rule ++ codes " cause " ++ decimal fault.cause

-- the fault of a replication configuration, in a word
abbrev pub fault_text : ConfigurationFault → List ℕ
fault_text faults.Rules = codes "rules"
fault_text faults.RepositoryFilters = codes "repositoryFilters"
fault_text faults.Destinations = codes "destinations"

-- the digests with a `,` between each two
abbrev pub digests_text : List Digest → List ℕ
digests_text [] = []
digests_text (d ∷ []) = digest_text d
digests_text (d ∷ e ∷ ds) = digest_text d ++ codes "," ++ digests_text (e ∷ ds)

-- the refusal's `__type`
unfoldable pub type_text : Refusal → List ℕ
type_text (InvalidParameter which) = codes "InvalidParameterException"
type_text RepositoryAlreadyExists = codes "RepositoryAlreadyExistsException"
type_text RepositoryNotFound = codes "RepositoryNotFoundException"
type_text RepositoryNotEmpty = codes "RepositoryNotEmptyException"
type_text UploadNotFound = codes "UploadNotFoundException"
type_text (InvalidLayerPart received) = codes "InvalidLayerPartException"
type_text EmptyUpload = codes "EmptyUploadException"
type_text (LayerPartTooSmall part) = codes "LayerPartTooSmallException"
type_text (InvalidLayer got) = codes "InvalidLayerException"
type_text LayerAlreadyExists = codes "LayerAlreadyExistsException"
type_text (LayersNotFound digests) = codes "LayersNotFoundException"
type_text (ReferencedImagesNotFound digests) = codes "ReferencedImagesNotFoundException"
type_text ImageAlreadyExists = codes "ImageAlreadyExistsException"
type_text (ImageTagAlreadyExists holder) = codes "ImageTagAlreadyExistsException"
type_text (ImageDigestDoesNotMatch got) = codes "ImageDigestDoesNotMatchException"
type_text ImageNotFound = codes "ImageNotFoundException"
type_text (LimitExceeded limit count) = codes "LimitExceededException"
type_text LifecyclePolicyNotFound = codes "LifecyclePolicyNotFoundException"
type_text (PreviewInProgress ticket) = codes "LifecyclePolicyPreviewInProgressException"
type_text PreviewNotFound = codes "LifecyclePolicyPreviewNotFoundException"
type_text (Validation fault) = codes "ValidationException"
type_text UnknownOperation = codes "UnknownOperationException"
type_text Serialization = codes "SerializationException"

-- the refusal's message
unfoldable pub message_text : Refusal → List ℕ
message_text (InvalidParameter which) = codes "invalid parameter: " ++ parameter_text which
message_text RepositoryAlreadyExists = codes "repository already exists"
message_text RepositoryNotFound = codes "repository not found"
message_text RepositoryNotEmpty = codes "repository not empty"
message_text UploadNotFound = codes "upload not found"
message_text (InvalidLayerPart received) = codes "invalid layer part"
message_text EmptyUpload = codes "empty upload"
message_text (LayerPartTooSmall part) = codes "layer part too small: " ++ decimal part
message_text (InvalidLayer got) = codes "layer digest is " ++ digest_text got
message_text LayerAlreadyExists = codes "layer already exists"
message_text (LayersNotFound digests) = codes "layers not found: " ++ digests_text digests
message_text (ReferencedImagesNotFound digests) = codes "referenced images not found: " ++ digests_text digests
message_text ImageAlreadyExists = codes "image already exists"
message_text (ImageTagAlreadyExists holder) = codes "image tag already exists on " ++ digest_text holder
message_text (ImageDigestDoesNotMatch got) = codes "image digest is " ++ digest_text got
message_text ImageNotFound = codes "image not found"
message_text (LimitExceeded limit count) = codes "limit exceeded: " ++ decimal limit
message_text LifecyclePolicyNotFound = codes "lifecycle policy not found"
message_text (PreviewInProgress ticket) = codes "lifecycle policy preview in progress"
message_text PreviewNotFound = codes "lifecycle policy preview not found"
message_text (Validation fault) = codes "invalid replication configuration: " ++ fault_text fault
message_text UnknownOperation = codes "unknown operation"
message_text Serialization = codes "serialization"

-- `__type` and `message` alone
abbrev pub plain_data : Refusal → Data
plain_data refusal =
    object (member (codes "__type") (string (type_text refusal))
    (member (codes "message") (string (message_text refusal)) no_members))

-- the member of the last byte received, where one was
abbrev pub with_last_byte : ℕ → Members → Members
with_last_byte received members = if nat_lt 0 received
    then member (codes "lastValidByteReceived") (number (unsigned (received - 1))) members
    else members

-- a refused part's: with the upload and its repository too
abbrev pub part_data : Refusal → ℕ → RepoKey → ℕ → Data
part_data refusal received key upload =
    object (member (codes "__type") (string (type_text refusal))
    (with_last_byte received
    (member (codes "message") (string (message_text refusal))
    (member (codes "registryId") (string (utf8_or_empty key.site.account))
    (member (codes "repositoryName") (string (utf8_or_empty key.name.text))
    (member (codes "uploadId") (string (upload_id upload)) no_members))))))

-- a refusal as JSON, where the call was one on that repository and that upload
unfoldable pub refusal_data : Refusal → Option RepoKey → Option ℕ → Data
refusal_data (InvalidLayerPart received) (Some key) (Some upload) =
    part_data (InvalidLayerPart received) received key upload
refusal_data refusal key upload = plain_data refusal

-- the body of a refusal
unfoldable pub refusal_body : Refusal → Option RepoKey → Option ℕ → List ℕ
refusal_body refusal key upload = compact_text (refusal_data refusal key upload)
