-- Some bodies as they are read, and some replies as they are written.
use Rattle.std.specs.Prelude.{◌≡◌, ℕ, List, [], ◌∷◌, ◌++◌, true, false, None, Some, codes}
use Rattle.ecr_model.specs.declared.requests.call.Call.TheVariants.{Create, Delete, SetMutability}
use Rattle.ecr_model.specs.declared.names.RepoKey.{RepoKey}
use Rattle.ecr_model.specs.declared.names.SiteId.{SiteId}
use Rattle.ecr_model.specs.declared.requests.refusal.Parameter.TheVariants as parameters
use Rattle.ecr_model.specs.declared.requests.refusal.Refusal.{Refusal}
use Rattle.ecr_model.specs.declared.requests.refusal.Refusal.TheVariants.{InvalidParameter, InvalidLayerPart, LimitExceeded, UnknownOperation, Serialization}
use Rattle.ecr_model.specs.declared.requests.reply.Reply.TheVariants as replies
use Rattle.ecr_model.specs.declared.registry.repository.Mutability.TheVariants.{Mutable, Immutable}
use Rattle.ecr_model.specs.requests.Actions.{Reading, asks, refuses, cell, many, reading, service}
use Rattle.ecr_model.specs.requests.Refusals.{refusal_body}
use Rattle.ecr_model.specs.requests.Rendered.{json}
use Rattle.ecr_model.specs.names.Texts.{crlf}
use Rattle.ecr_model.specs.examples.JournalExample.{name}

-- `us-east-1/111122223333`
abbrev pub home : SiteId
home = record { region = codes "us-east-1"; account = codes "111122223333" }

-- another account of its region
abbrev pub neighbour : SiteId
neighbour = record { region = codes "us-east-1"; account = codes "444455556666" }

-- the repository of that name at the site
abbrev pub key : SiteId → List ℕ → RepoKey
key site text = record { site = site; name = name text }

-- the reading of that body for that action, at the first of the two sites
abbrev pub read_as : List ℕ → List ℕ → Reading
read_as action body = reading (service ++ action) body home (home ∷ neighbour ∷ [])

-- the body is refused for that cause
abbrev pub bad : Refusal → List ℕ → List ℕ → Type 0
bad refusal action body = read_as action body ≡ refuses refusal

-- six bodies that ask for something, and ten that don't
pub record BodiesAreRead : Type 0 where
  pub created : read_as (codes "CreateRepository") (codes "{\"repositoryName\":\"team/app\"}") ≡ asks
      (cell (key home (codes "team/app")) (Create Mutable) None)
  pub immutable : read_as (codes "PutImageTagMutability")
      (codes "{\"registryId\":\"444455556666\",\"repositoryName\":\"ab\",\"imageTagMutability\":\"IMMUTABLE\"}")
      ≡ asks (cell (key neighbour (codes "ab")) (SetMutability Immutable) None)
  pub forced : read_as (codes "DeleteRepository") (codes "{\"repositoryName\":\"ab\",\"force\":true,\"x\":1}") ≡ asks
      (cell (key home (codes "ab")) (Delete true) None)
  pub all : read_as (codes "DescribeRepositories") (codes "{\"nextToken\":null}") ≡ asks
      (many home None (record { from = 0; max = 100 }))
  pub page : read_as (codes "DescribeRepositories") (codes "{\"maxResults\":1,\"nextToken\":\"7\"}") ≡ asks
      (many home None (record { from = 7; max = 1 }))
  pub named : read_as (codes "DescribeRepositories") (codes "{\"repositoryNames\":[\"ab\"]}") ≡ asks
      (many home (Some (name (codes "ab") ∷ [])) (record { from = 0; max = 100 }))
  pub no_action : bad UnknownOperation (codes "createRepository") (codes "{}")
  pub no_object : bad Serialization (codes "CreateRepository") (codes "[1]")
  pub no_text : bad Serialization (codes "CreateRepository") (codes "{\"repositoryName\":1}")
  pub type_first : bad Serialization (codes "DescribeRepositories")
      (codes "{\"maxResults\":0,\"repositoryNames\":[null]}")
  pub no_name : bad (InvalidParameter parameters.RepositoryName) (codes "CreateRepository") (codes "{}")
  pub in_order : bad (InvalidParameter parameters.RegistryId) (codes "CreateRepository")
      (codes "{\"registryId\":\"000000000000\"}")
  pub none_named : bad (InvalidParameter parameters.RepositoryNames) (codes "DescribeRepositories")
      (codes "{\"repositoryNames\":[]}")
  pub beside : bad (InvalidParameter parameters.MaxResults) (codes "DescribeRepositories")
      (codes "{\"maxResults\":1,\"repositoryNames\":[\"ab\"]}")
  pub too_many : bad (InvalidParameter parameters.MaxResults) (codes "DescribeRepositories")
      (codes "{\"maxResults\":1001}")
  pub token : bad (InvalidParameter parameters.NextToken) (codes "DescribeRepositories")
      (codes "{\"nextToken\":\"01\"}")

-- three refusals' bodies, and a whole reply to DescribeRepositories
pub record RepliesAreWritten : Type 0 where
  pub part : refusal_body (InvalidLayerPart 10) (Some (key home (codes "team/app"))) (Some 1)
      ≡ codes "{\"__type\":\"InvalidLayerPartException\",\"lastValidByteReceived\":9,\"message\":\"invalid layer part\",\"registryId\":\"111122223333\",\"repositoryName\":\"team/app\",\"uploadId\":\"00000000-0000-0000-0000-000000000001\"}"
  pub first_part : refusal_body (InvalidLayerPart 0) (Some (key home (codes "team/app"))) (Some 4294967297)
      ≡ codes "{\"__type\":\"InvalidLayerPartException\",\"message\":\"invalid layer part\",\"registryId\":\"111122223333\",\"repositoryName\":\"team/app\",\"uploadId\":\"00000000-0000-0000-0000-000100000001\"}"
  pub limit : refusal_body (LimitExceeded 2 2) None None
      ≡ codes "{\"__type\":\"LimitExceededException\",\"message\":\"limit exceeded: 2\"}"
  pub rows : json (many home None (record { from = 0; max = 1 }))
      (replies.Described (record { name = name (codes "a1"); created = 7; mutability = Immutable } ∷ [])
      (Some 1)) [] false
      ≡ codes "HTTP/1.1 200 OK" ++ crlf ++ codes "Content-Length: 266" ++ crlf
      ++ codes "Content-Type: application/x-amz-json-1.1" ++ crlf ++ crlf
      ++ codes "{\"nextToken\":\"1\",\"repositories\":[{\"createdAt\":7,\"imageTagMutability\":\"IMMUTABLE\",\"registryId\":\"111122223333\",\"repositoryArn\":\"arn:aws:ecr:us-east-1:111122223333:repository/a1\",\"repositoryName\":\"a1\",\"repositoryUri\":\"111122223333.dkr.ecr.us-east-1.amazonaws.com/a1\"}]}"
