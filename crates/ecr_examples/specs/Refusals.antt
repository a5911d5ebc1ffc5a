-- The bodies of refusals at examples (Amazon ECR API Reference, "Common Errors" and the actions' errors). Messages are
-- of this registry: docs/PROTOCOL.md, "Refusals".
use Rattle.std.specs.Prelude.{◌≡◌, ℕ, List, [], ◌∷◌, ◌++◌, map, None, Some, codes}
use Rattle.serde_json.specs.Data.{number, unsigned, string, object, member, no_members}
use Rattle.ecr_model.specs.declared.requests.refusal.ConfigurationFault.TheVariants as faults
use Rattle.ecr_model.specs.declared.requests.refusal.Parameter.{Parameter}
use Rattle.ecr_model.specs.declared.requests.refusal.Parameter.TheVariants as parameters
use Rattle.ecr_model.specs.declared.requests.refusal.Refusal.{Refusal}
use Rattle.ecr_model.specs.declared.requests.refusal.Refusal.TheVariants.{InvalidParameter, RepositoryAlreadyExists, RepositoryNotFound, RepositoryNotEmpty, UploadNotFound, InvalidLayerPart, EmptyUpload, LayerPartTooSmall, InvalidLayer, LayerAlreadyExists, LayersNotFound, ReferencedImagesNotFound, ImageAlreadyExists, ImageTagAlreadyExists, ImageDigestDoesNotMatch, ImageNotFound, LimitExceeded, LifecyclePolicyNotFound, PreviewInProgress, PreviewNotFound, Validation, UnknownOperation, Serialization}
use Rattle.ecr_model.specs.requests.Refusals.{parameter_text, fault_text, digests_text, type_text, message_text, plain_data, with_last_byte, part_data, refusal_data, refusal_body}
use Rattle.ecr_examples.specs.Names.{of_abc, abc_digits}
use Rattle.ecr_examples.specs.States.{app}

-- every parameter, the last two with the first cause of a manifest and of a policy
abbrev all_parameters : List Parameter
all_parameters = parameters.RegistryId ∷ parameters.RepositoryName ∷ parameters.ImageTagMutability ∷ parameters.Force
    ∷ parameters.RepositoryNames ∷ parameters.MaxResults ∷ parameters.NextToken ∷ parameters.UploadId
    ∷ parameters.PartFirstByte
    ∷ parameters.PartLastByte ∷ parameters.LayerPartBlob ∷ parameters.LayerDigests ∷ parameters.LayerDigest
    ∷ parameters.ImageManifest ∷ parameters.ImageManifestMediaType ∷ parameters.ImageTag ∷ parameters.ImageDigest
    ∷ parameters.ImageIds ∷ parameters.ImageId ∷ parameters.Filter ∷ parameters.LifecyclePolicyText
    ∷ parameters.ReplicationConfiguration ∷ parameters.Manifest (record { cause = 7; entry = 12 })
    ∷ parameters.Policy (record { rule = 3; cause = 15 }) ∷ []

abbrev their_texts : List (List ℕ)
their_texts = codes "registryId" ∷ codes "repositoryName" ∷ codes "imageTagMutability" ∷ codes "force"
    ∷ codes "repositoryNames" ∷ codes "maxResults" ∷ codes "nextToken" ∷ codes "uploadId" ∷ codes "partFirstByte"
    ∷ codes "partLastByte" ∷ codes "layerPartBlob" ∷ codes "layerDigests" ∷ codes "layerDigest"
    ∷ codes "imageManifest" ∷ codes "imageManifestMediaType" ∷ codes "imageTag" ∷ codes "imageDigest"
    ∷ codes "imageIds" ∷ codes "imageId" ∷ codes "filter" ∷ codes "lifecyclePolicyText"
    ∷ codes "replicationConfiguration" ∷ codes "imageManifest cause 7 entry 12"
    ∷ codes "lifecyclePolicyText rule 3 cause 15" ∷ []

-- the whole body for a parameter of that text
abbrev invalid : List ℕ → List ℕ
invalid text = codes "{\"__type\":\"InvalidParameterException\",\"message\":\"invalid parameter: " ++ text
    ++ codes "\"}"

-- every other refusal
abbrev all_refusals : List Refusal
all_refusals = RepositoryAlreadyExists ∷ RepositoryNotFound ∷ RepositoryNotEmpty ∷ UploadNotFound ∷ InvalidLayerPart 5
    ∷ EmptyUpload ∷ LayerPartTooSmall 3 ∷ InvalidLayer of_abc ∷ LayerAlreadyExists
    ∷ LayersNotFound (of_abc ∷ of_abc ∷ [])
    ∷ ReferencedImagesNotFound (of_abc ∷ []) ∷ ImageAlreadyExists ∷ ImageTagAlreadyExists of_abc
    ∷ ImageDigestDoesNotMatch of_abc ∷ ImageNotFound ∷ LimitExceeded 4200 4201 ∷ LifecyclePolicyNotFound
    ∷ PreviewInProgress 8 ∷ PreviewNotFound ∷ Validation faults.Rules ∷ Validation faults.RepositoryFilters
    ∷ Validation faults.Destinations ∷ UnknownOperation ∷ Serialization ∷ []

abbrev their_types : List (List ℕ)
their_types = codes "RepositoryAlreadyExistsException" ∷ codes "RepositoryNotFoundException"
    ∷ codes "RepositoryNotEmptyException" ∷ codes "UploadNotFoundException" ∷ codes "InvalidLayerPartException"
    ∷ codes "EmptyUploadException" ∷ codes "LayerPartTooSmallException" ∷ codes "InvalidLayerException"
    ∷ codes "LayerAlreadyExistsException" ∷ codes "LayersNotFoundException" ∷ codes "ReferencedImagesNotFoundException"
    ∷ codes "ImageAlreadyExistsException" ∷ codes "ImageTagAlreadyExistsException"
    ∷ codes "ImageDigestDoesNotMatchException" ∷ codes "ImageNotFoundException" ∷ codes "LimitExceededException"
    ∷ codes "LifecyclePolicyNotFoundException" ∷ codes "LifecyclePolicyPreviewInProgressException"
    ∷ codes "LifecyclePolicyPreviewNotFoundException" ∷ codes "ValidationException" ∷ codes "ValidationException"
    ∷ codes "ValidationException" ∷ codes "UnknownOperationException" ∷ codes "SerializationException" ∷ []

abbrev abc : List ℕ
abc = codes "sha256:" ++ abc_digits

abbrev their_messages : List (List ℕ)
their_messages = codes "repository already exists" ∷ codes "repository not found" ∷ codes "repository not empty"
    ∷ codes "upload not found" ∷ codes "invalid layer part" ∷ codes "empty upload" ∷ codes "layer part too small: 3"
    ∷ (codes "layer digest is " ++ abc) ∷ codes "layer already exists"
    ∷ (codes "layers not found: " ++ abc ++ codes "," ++ abc) ∷ (codes "referenced images not found: " ++ abc)
    ∷ codes "image already exists" ∷ (codes "image tag already exists on " ++ abc) ∷ (codes "image digest is " ++ abc)
    ∷ codes "image not found" ∷ codes "limit exceeded: 4200" ∷ codes "lifecycle policy not found"
    ∷ codes "lifecycle policy preview in progress" ∷ codes "lifecycle policy preview not found"
    ∷ codes "invalid replication configuration: rules" ∷ codes "invalid replication configuration: repositoryFilters"
    ∷ codes "invalid replication configuration: destinations" ∷ codes "unknown operation" ∷ codes "serialization" ∷ []

-- the whole body of that type and message
abbrev body_of : List ℕ → List ℕ → List ℕ
body_of type message = codes "{\"__type\":\"" ++ type ++ codes "\",\"message\":\"" ++ message ++ codes "\"}"

abbrev bodies_of : List (List ℕ) → List (List ℕ) → List (List ℕ)
bodies_of [] messages = []
bodies_of (t ∷ ts) [] = []
bodies_of (t ∷ ts) (m ∷ ms) = body_of t m ∷ bodies_of ts ms

-- the text of each parameter, and the whole body of a refusal for it
pub record ParametersAreSaid : Type 0 where
  pub texts : map parameter_text all_parameters ≡ their_texts
  pub bodies : map (λ p. refusal_body (InvalidParameter p) None None) all_parameters ≡ map invalid their_texts

-- the type and message of each other refusal, and its whole body
pub record RefusalsAreSaid : Type 0 where
  pub faults_are : map fault_text (faults.Rules ∷ faults.RepositoryFilters ∷ faults.Destinations ∷ [])
      ≡ codes "rules" ∷ codes "repositoryFilters" ∷ codes "destinations" ∷ []
  pub no_digests : digests_text [] ≡ []
  pub two_digests : digests_text (of_abc ∷ of_abc ∷ []) ≡ abc ++ codes "," ++ abc
  pub types : map type_text all_refusals ≡ their_types
  pub messages : map message_text all_refusals ≡ their_messages
  pub bodies : map (λ r. refusal_body r None None) all_refusals ≡ bodies_of their_types their_messages

-- the parameter's refusal names no repository; a refused part names its upload where that is known
pub record RefusedPartsAreSaid : Type 0 where
  pub plain : plain_data EmptyUpload
      ≡ object (member (codes "__type") (string (codes "EmptyUploadException"))
      (member (codes "message") (string (codes "empty upload")) no_members))
  pub last : with_last_byte 5 no_members ≡ member (codes "lastValidByteReceived") (number (unsigned 4)) no_members
  pub no_last : with_last_byte 0 no_members ≡ no_members
  pub part : refusal_data (InvalidLayerPart 5) (Some app) (Some 1) ≡ part_data (InvalidLayerPart 5) 5 app 1
  pub no_upload : refusal_data (InvalidLayerPart 5) (Some app) None ≡ plain_data (InvalidLayerPart 5)
  pub other : refusal_data EmptyUpload (Some app) (Some 1) ≡ plain_data EmptyUpload
  pub body : refusal_body (InvalidLayerPart 1) (Some app) (Some 2)
      ≡ codes "{\"__type\":\"InvalidLayerPartException\",\"lastValidByteReceived\":0,\"message\":\"invalid layer part\",\"registryId\":\"111122223333\",\"repositoryName\":\"team/app\",\"uploadId\":\"00000000-0000-0000-0000-000000000002\"}"
