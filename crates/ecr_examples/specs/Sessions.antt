-- Replies of the JSON API, what requests pose, and sessions at examples (Amazon ECR API Reference; RFC 8259; RFC 9112).
-- The commands and their ends are of this registry.
use Rattle.std.specs.Prelude.{◌≡◌, ℕ, true, false, List, [], ◌∷◌, ◌++◌, map, None, Some, codes}
use Rattle.serde_json.specs.Data.{number, unsigned, string, array, object, no_items, item, member, no_members}
use Rattle.ecr_model.specs.declared.http.Request.{Request}
use Rattle.ecr_model.specs.declared.http.Section.TheVariants as sections
use Rattle.ecr_model.specs.declared.names.SiteId.{SiteId}
use Rattle.ecr_model.specs.declared.outcome.Cut.{Cut}
use Rattle.ecr_model.specs.declared.outcome.End.TheVariants as ends
use Rattle.ecr_model.specs.declared.registry.repository.Mutability.TheVariants.{Mutable, Immutable}
use Rattle.ecr_model.specs.declared.requests.call.Call.TheVariants.{Describe}
use Rattle.ecr_model.specs.declared.requests.call.SiteCall.TheVariants as site_calls
use Rattle.ecr_model.specs.declared.requests.refusal.Refusal.TheVariants.{RepositoryNotFound, UnknownOperation, Serialization}
use Rattle.ecr_model.specs.declared.requests.reply.Described.{Described as Row}
use Rattle.ecr_model.specs.declared.requests.reply.Reply.TheVariants.{Created, Deleted, Described, MutabilitySet, Refused}
use Rattle.ecr_model.specs.http.Stream.{request_of, ended, closed, truncated, bad_at, long_at, more}
use Rattle.ecr_model.specs.names.Texts.{crlf}
use Rattle.ecr_model.specs.registry.Limits.{standard}
use Rattle.ecr_model.specs.registry.Scripts.{Realm, fresh, run}
use Rattle.ecr_model.specs.requests.Actions.{Asked, cell, site, many, asks, refuses}
use Rattle.ecr_model.specs.requests.Posed.{api, unrouted, is_json_call, target_of, base_of, posed_of, posed_script, posed_bytes}
use Rattle.ecr_model.specs.requests.Rendered.{mutability_text, repository_data, site_asked, key_asked, row_data, rows_data, with_token, reply_data, status_of, with_head, json, refused}
use Rattle.ecr_model.specs.requests.Requests.{plain}
use Rattle.ecr_model.specs.sessions.Commands.{clock_words, usage_lines, ready_line, fresh_session, exit_status}
use Rattle.ecr_model.specs.sessions.Sessions.{script_of, outcome_of, written, named_to, left_by, Exchange, requests_of, is_waiting, answer_to, sent_to, ending_reply, last_words, account_of, stands}
use Rattle.ecr_examples.specs.Heads.{head}
use Rattle.ecr_examples.specs.States.{app}

abbrev row : Row
row = record { name = record { text = codes "a1" }; created = 7; mutability = Immutable }

abbrev asked : Asked
asked = cell app Describe None

-- the JSON of replies, its keys in byte order
pub record BodiesAreRendered : Type 0 where
  pub words : map mutability_text (Mutable ∷ Immutable ∷ []) ≡ codes "MUTABLE" ∷ codes "IMMUTABLE" ∷ []
  pub repository : repository_data app 5 Mutable ≡ object
      (member (codes "createdAt") (number (unsigned 5)) (member (codes "imageTagMutability") (string (codes "MUTABLE"))
      (member (codes "registryId") (string (codes "111122223333"))
      (member (codes "repositoryArn") (string (codes "arn:aws:ecr:us-east-1:111122223333:repository/team/app"))
      (member (codes "repositoryName") (string (codes "team/app"))
      (member (codes "repositoryUri")
      (string (codes "111122223333.dkr.ecr.us-east-1.amazonaws.com/team/app")) no_members))))))
  pub site_is : map site_asked (asked ∷ site app.site (site_calls.Names (record { from = 0; max = 1 }))
      ∷ many app.site None (record { from = 0; max = 1 }) ∷ []) ≡ app.site ∷ app.site ∷ app.site ∷ []
  pub key_is : key_asked asked ≡ app
  pub no_key : key_asked (many app.site None (record { from = 0; max = 1 }))
      ≡ record app { name = record { text = [] } }
  pub row_is : row_data app.site row ≡ repository_data (record app { name = record { text = codes "a1" } }) 7 Immutable
  pub rows : rows_data app.site (row ∷ []) ≡ item (row_data app.site row) no_items
  pub no_rows : rows_data app.site [] ≡ no_items
  pub token : with_token (Some 10) no_members ≡ member (codes "nextToken") (string (codes "10")) no_members
  pub no_token : with_token None no_members ≡ no_members
  pub created : reply_data asked (Created 5 Mutable)
      ≡ object (member (codes "repository") (repository_data app 5 Mutable) no_members)
  pub deleted : reply_data asked (Deleted 5 Mutable)
      ≡ object (member (codes "repository") (repository_data app 5 Mutable) no_members)
  pub described : reply_data asked (Described [] None)
      ≡ object (member (codes "repositories") (array no_items) no_members)
  pub set : json asked (MutabilitySet Immutable) [] true
      ≡ codes "HTTP/1.1 200 OK" ++ crlf ++ codes "Connection: close" ++ crlf
      ++ codes "Content-Length: 90" ++ crlf ++ codes "Content-Type: application/x-amz-json-1.1" ++ crlf ++ crlf
      ++ codes "{\"imageTagMutability\":\"IMMUTABLE\",\"registryId\":\"111122223333\",\"repositoryName\":\"team/app\"}"
  pub good : status_of (Described [] None) ≡ codes "200 OK"
  pub bad : status_of (Refused RepositoryNotFound) ≡ codes "400 Bad Request"
  pub headed : with_head false (codes "200 OK") (codes "{}")
      ≡ codes "HTTP/1.1 200 OK" ++ crlf ++ codes "Content-Length: 2" ++ crlf
      ++ codes "Content-Type: application/x-amz-json-1.1" ++ crlf ++ crlf ++ codes "{}"
  pub unread : refused Serialization false
      ≡ codes "HTTP/1.1 400 Bad Request" ++ crlf ++ codes "Content-Length: 61" ++ crlf
      ++ codes "Content-Type: application/x-amz-json-1.1" ++ crlf ++ crlf
      ++ codes "{\"__type\":\"SerializationException\",\"message\":\"serialization\"}"

abbrev posted : Request
posted = request_of 0 (head 1
    (record { name = codes "x-amz-target"; value = codes "AmazonEC2ContainerRegistry_V20150921.Nothing" } ∷ [])) []

abbrev sites : List SiteId
sites = app.site ∷ []

abbrev realm : Realm
realm = record { served = sites; limits = standard }

-- only a POST of `/` is a call of the JSON API
pub record RequestsArePosed : Type 0 where
  pub call : is_json_call posted ≡ true
  pub asked_too : is_json_call (record posted { target = codes "/?a" }) ≡ true
  pub get : is_json_call (record posted { method = codes "GET" }) ≡ false
  pub below : is_json_call (record posted { target = codes "/v2/" }) ≡ false
  pub target : target_of posted ≡ codes "AmazonEC2ContainerRegistry_V20150921.Nothing"
  pub no_target : target_of (record posted { fields = [] }) ≡ []
  pub base : base_of sites posted ≡ app.site
  pub unknown : posed_of sites posted ≡ api (refuses UnknownOperation)
  pub elsewhere : posed_of sites (record posted { target = codes "/v2/" }) ≡ unrouted
  pub of_refusal : (run realm fresh (posed_script (api (refuses Serialization)) 5)).answer
      ≡ plain (Refused Serialization)
  pub of_none : (run realm fresh (posed_script unrouted 5)).answer ≡ plain (Refused UnknownOperation)
  pub of_call : (run realm fresh (posed_script (api (asks asked)) 5)).answer ≡ plain (Refused RepositoryNotFound)
  pub bytes : posed_bytes (api (refuses Serialization)) true (Refused Serialization) [] ≡ refused Serialization true
  pub bytes_asked : posed_bytes (api (asks asked)) true (MutabilitySet Immutable) []
      ≡ json asked (MutabilitySet Immutable) [] true
  pub bytes_none : posed_bytes unrouted false (Refused UnknownOperation) []
      ≡ codes "HTTP/1.1 404 Not Found" ++ crlf ++ codes "Content-Length: 0" ++ crlf ++ crlf

abbrev expecting : Request
expecting = request_of 0 (head 1 (record { name = codes "Expect"; value = codes "100-continue" }
    ∷ record { name = codes "Content-Length"; value = codes "1" } ∷ [])) (codes "x")

abbrev exchange : Request → List ℕ → Exchange
exchange request bytes = record {
  request = request;
  moment = 5;
  places = [];
  cut = record { entries = 1; failed = false; sealed = None };
  contents = [];
  bytes = bytes;
}

abbrev both : List Exchange
both = exchange posted (codes "A") ∷ exchange expecting (codes "B") ∷ []

abbrev failed : Cut
failed = record { entries = 0; failed = true; sealed = None }

-- what is written to requests in their order and at the end, and the account of a session
pub record SessionsAreWritten : Type 0 where
  pub outcome : (outcome_of realm fresh 5 posted).answer ≡ plain (Refused UnknownOperation)
  pub script : (run realm fresh (script_of realm 5 posted)).places ≡ []
  pub whole : written realm fresh 5 (record { entries = 0; failed = false; sealed = None }) posted []
      ≡ refused UnknownOperation false
  pub no_memory : written realm fresh 5 failed posted []
      ≡ codes "HTTP/1.1 500 Internal Server Error" ++ crlf ++ codes "Content-Length: 53" ++ crlf
      ++ codes "Content-Type: application/x-amz-json-1.1" ++ crlf ++ crlf
      ++ codes "{\"__type\":\"ServerException\",\"message\":\"server error\"}"
  pub names_none : named_to realm fresh 5 failed posted ≡ []
  pub left : left_by realm fresh 5 failed posted ≡ fresh
  pub requests : requests_of both ≡ posted ∷ expecting ∷ []
  pub waiting : map is_waiting (posted ∷ expecting ∷ []) ≡ false ∷ true ∷ []
  pub answered : answer_to (exchange posted (codes "A")) ≡ codes "A"
  pub told : answer_to (exchange expecting (codes "B")) ≡ codes "HTTP/1.1 100 Continue" ++ crlf ++ crlf ++ codes "B"
  pub sent : sent_to both ≡ codes "AHTTP/1.1 100 Continue" ++ crlf ++ crlf ++ codes "B"
  pub ending : map ending_reply (ended ∷ closed ∷ truncated 5 ∷ more ∷ []) ≡ [] ∷ [] ∷ [] ∷ [] ∷ []
  pub bad : ending_reply (bad_at 5) ≡ codes "HTTP/1.1 400 Bad Request" ++ crlf ++ codes "Connection: close" ++ crlf
      ++ codes "Content-Length: 0" ++ crlf ++ crlf
  pub long : ending_reply (long_at 5 sections.Trailers 65536)
      ≡ codes "HTTP/1.1 431 Request Header Fields Too Large" ++ crlf
      ++ codes "Connection: close" ++ crlf ++ codes "Content-Length: 0" ++ crlf ++ crlf
  pub last : last_words (record { due = true; ending = truncated 5 }) ≡ codes "HTTP/1.1 100 Continue" ++ crlf ++ crlf
  pub account : account_of (exchange posted (codes "A") ∷ [])
      ≡ record { moments = 5 ∷ []; places = [] ∷ []; cuts = (exchange posted []).cut ∷ [] }
  pub standing : stands (record { realm = realm; first = fresh; fixed = Some 3 }) fresh (Some (4 ∷ []))
      ≡ record { realm = realm; world = fresh; fixed = Some 3; told = Some (4 ∷ []) }

-- the words of a command, and its exit status
pub record CommandsEnd : Type 0 where
  pub clock : clock_words (Some 1700000000) ≡ codes "--clock" ∷ codes "1700000000" ∷ []
  pub no_clock : clock_words None ≡ []
  pub usage : usage_lines
      ≡ codes "usage: ecrd session [--control] [--clock S] SITE...\n       ecrd bulk SEED COUNT\n       ecrd serve [--workers N] [--copiers N] ADDRESS SITE...\n"
  pub fresh_is : fresh_session sites (Some 3) ≡ record { realm = realm; first = fresh; fixed = Some 3 }
  pub statuses : map exit_status (ends.Whole ∷ ends.Usage ∷ ends.ReadFault ∷ ends.WriteFault ∷ ends.Mem
      ∷ ends.AcceptFault ∷ ends.Truncated 9
      ∷ ends.Bad 9 ∷ ends.TooLong 9 10 ∷ ends.Spent ∷ []) ≡ 0 ∷ 2 ∷ 3 ∷ 4 ∷ 5 ∷ 6 ∷ 7 ∷ 8 ∷ 8 ∷ 9 ∷ []
  pub ready : ready_line ≡ codes "ready\n"
