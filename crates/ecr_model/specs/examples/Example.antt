-- The first repository of a site, by example: the bytes of a request, and the bytes of its answer.
use Rattle.std.specs.Prelude.{◌≡◌, ℕ, Bool, List, [], ◌∷◌, ◌++◌, Some, None, codes}
use Rattle.ecr_model.specs.declared.http.Head.{Head}
use Rattle.ecr_model.specs.declared.http.Request.{Request}
use Rattle.ecr_model.specs.declared.registry.journal.CellKey.TheVariants.{Directory, Repository}
use Rattle.ecr_model.specs.declared.registry.journal.Place.{Place}
use Rattle.ecr_model.specs.declared.names.RepoKey.{RepoKey}
use Rattle.ecr_model.specs.declared.names.SiteId.{SiteId}
use Rattle.ecr_model.specs.declared.outcome.Cut.{Cut}
use Rattle.ecr_model.specs.names.Texts.{crlf}
use Rattle.ecr_model.specs.declared.http.Framing.TheVariants.{Chunked}
use Rattle.ecr_model.specs.http.Framing.{framing_of, max_body}
use Rattle.ecr_model.specs.http.Stream.{complete, IsBody, Reads, Tail, ended}
use Rattle.ecr_model.specs.registry.Limits.{standard}
use Rattle.ecr_model.specs.registry.Scripts.{Realm, fresh}
use Rattle.ecr_model.specs.sessions.Sessions.{written, Exchange, Standing, AreServed}
use Rattle.ecr_model.specs.laws.SessionLaws.{output_of}

-- the bytes of a request that creates `team/app`
abbrev pub first_bytes : List ℕ
first_bytes =
    codes "POST / HTTP/1.1" ++ crlf
    ++ codes "Host: localhost" ++ crlf
    ++ codes "Content-Length: 29" ++ crlf
    ++ codes "X-Amz-Target: AmazonEC2ContainerRegistry_V20150921.CreateRepository" ++ crlf ++ crlf
    ++ codes "{\"repositoryName\":\"team/app\"}"

-- the request in these bytes
abbrev pub first_request : Request
first_request = record {
  at = 0;
  method = codes "POST";
  target = codes "/";
  minor = 1;
  fields =
      record { name = codes "Host"; value = codes "localhost" }
      ∷ record { name = codes "Content-Length"; value = codes "29" }
      ∷ record { name = codes "X-Amz-Target"; value = codes "AmazonEC2ContainerRegistry_V20150921.CreateRepository" }
      ∷ [];
  body = codes "{\"repositoryName\":\"team/app\"}";
}

-- `team/app` at `us-east-1/111122223333`
abbrev pub first_key : RepoKey
first_key = record {
  site = record { region = codes "us-east-1"; account = codes "111122223333" };
  name = record { text = codes "team/app" };
}

-- the one site that is served
abbrev pub example_sites : List SiteId
example_sites = first_key.site ∷ []

-- the program's limits, at that site
abbrev pub example_realm : Realm
example_realm = record { served = example_sites; limits = standard }

-- it adds two entries: the name's, and the repository's
abbrev pub first_cut : Cut
first_cut = record { entries = 2; failed = Bool.false; sealed = None }

-- the answer to it, 1,700,000,000 seconds after 1970 began
abbrev pub first_answer : List ℕ
first_answer =
    codes "HTTP/1.1 200 OK" ++ crlf
    ++ codes "Content-Length: 271" ++ crlf
    ++ codes "Content-Type: application/x-amz-json-1.1" ++ crlf ++ crlf
    ++ codes "{\"repository\":{\"createdAt\":1700000000,\"imageTagMutability\":\"MUTABLE\",\"registryId\":\"111122223333\",\"repositoryArn\":\"arn:aws:ecr:us-east-1:111122223333:repository/team/app\",\"repositoryName\":\"team/app\",\"repositoryUri\":\"111122223333.dkr.ecr.us-east-1.amazonaws.com/team/app\"}}"

-- a site without repositories answers it like that
abbrev pub AFirstCreationIsAnswered : Type 0
AFirstCreationIsAnswered = written example_realm fresh 1700000000 first_cut first_request [] ≡ first_answer

-- the input ends between two requests
abbrev pub the_end : Tail
the_end = record { due = Bool.false; ending = ended }

-- the bytes are that request and no more
abbrev pub AFirstRequestIsRead : Type 0
AFirstRequestIsRead = Reads first_bytes Bool.true (first_request ∷ []) the_end

-- the places of its turns: in the site's directory, and in the repository
abbrev pub first_places : List Place
first_places = record { cell = Directory first_key.site; ticket = 0; changed = Bool.true }
    ∷ record { cell = Repository first_key; ticket = 0; changed = Bool.true } ∷ []

-- the request's exchange
abbrev pub first_exchange : Exchange
first_exchange = record {
  request = first_request;
  moment = 1700000000;
  places = first_places;
  cut = first_cut;
  contents = [];
  bytes = first_answer;
}

-- a session's standing where no request came yet
abbrev pub first_standing : Standing
first_standing = record { realm = example_realm; world = fresh; fixed = Some 1700000000; told = None }

-- the exchange is one of a session over a fresh registry, and the session writes that answer
abbrev pub AFirstSessionIsWritten : Type 0
AFirstSessionIsWritten =
    ((last : Standing) × AreServed first_standing (first_exchange ∷ []) last)
    × (output_of (first_exchange ∷ []) the_end ≡ first_answer)

-- the head of a request whose body comes in chunks
abbrev pub chunked_head : Head
chunked_head = record {
  method = codes "POST";
  target = codes "/";
  minor = 1;
  fields =
      record { name = codes "Host"; value = codes "localhost" }
      ∷ record { name = codes "transfer-encoding"; value = codes "Chunked" }
      ∷ [];
}

-- the body of the first request in one chunk, and the last chunk without trailers
abbrev pub chunked_bytes : List ℕ
chunked_bytes =
    codes "1d" ++ crlf ++ codes "{\"repositoryName\":\"team/app\"}" ++ crlf
    ++ codes "0" ++ crlf ++ crlf

-- behind that head the bytes are that body, and no more
abbrev pub AChunkedBodyIsRead : Type 0
AChunkedBodyIsRead =
    (framing_of chunked_head ≡ Some Chunked)
    × IsBody (max_body chunked_head.target) chunked_bytes Chunked (complete first_request.body 40)
