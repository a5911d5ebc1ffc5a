-- What a request poses: its route, and what it asks of it (RFC 9112, section 3.2; Amazon ECR API Reference, "Actions").
use Rattle.std.specs.Prelude.{ℕ, Bool, ◌&&◌, List, [], if◌then◌else◌, codes, bytes_eq, unwrap_or}
use Rattle.ecr_model.specs.declared.http.Request.{Request}
use Rattle.ecr_model.specs.declared.names.SiteId.{SiteId}
use Rattle.ecr_model.specs.declared.requests.refusal.Refusal.TheVariants.{UnknownOperation}
use Rattle.ecr_model.specs.declared.requests.reply.Reply.{Reply}
use Rattle.ecr_model.specs.declared.requests.reply.Reply.TheVariants.{Refused}
use Rattle.ecr_model.specs.requests.Actions.{Reading, asks, refuses, reading}
use Rattle.ecr_model.specs.http.Fields.{first_value}
use Rattle.ecr_model.specs.http.Framing.{path_of}
use Rattle.ecr_model.specs.http.Hosts.{site_for}
use Rattle.ecr_model.specs.requests.Rendered.{json, refused}
use Rattle.ecr_model.specs.http.Replies.{empty_reply}
use Rattle.ecr_model.specs.requests.Requests.{Decided, plain, asked_script}
use Rattle.ecr_model.specs.registry.Scripts.{Script, ends}

-- a call of the JSON API, or a target at which nothing is served
pub data Posed : Type 0 where
  api : Reading → Posed
  unrouted : Posed

-- the request is one of the JSON API
unfoldable pub is_json_call : Request → Bool
is_json_call request = bytes_eq request.method (codes "POST") && bytes_eq (path_of request.target) (codes "/")

-- the value of X-Amz-Target; where it isn't there, no bytes
abbrev pub target_of : Request → List ℕ
target_of request = unwrap_or (first_value (codes "x-amz-target") request.fields) []

-- the site that the request is for, of those that are served
abbrev pub base_of : List SiteId → Request → SiteId
base_of served request = site_for served (first_value (codes "host") request.fields)

-- the request as it is posed to the sites that are served
unfoldable pub posed_of : List SiteId → Request → Posed
posed_of served request = if is_json_call request
    then api (reading (target_of request) request.body (base_of served request) served)
    else unrouted

-- its turns, at that moment; a request that is refused as it is read, or isn't served, has none
unfoldable pub posed_script : Posed → ℕ → Script Decided
posed_script (api (asks asked)) moment = asked_script asked moment
posed_script (api (refuses refusal)) moment = ends (plain (Refused refusal))
posed_script unrouted moment = ends (plain (Refused UnknownOperation))

-- the reply to it as bytes, where its turns come to that reply, which carries that content
unfoldable pub posed_bytes : Posed → Bool → Reply → List (List ℕ) → List ℕ
posed_bytes (api (asks asked)) close reply contents = json asked reply contents close
posed_bytes (api (refuses refusal)) close reply contents = refused refusal close
posed_bytes unrouted close reply contents = empty_reply close (codes "404 Not Found")
