-- The sites that hosts name, and replies as bytes, at examples (RFC 9110, sections 7.2 and 15; RFC 9112, sections 4 and
-- 6; RFC 6585, section 5; Amazon ECR API Reference). Which hosts name a site is of this registry.
use Rattle.std.specs.Prelude.{◌≡◌, ℕ, true, false, List, [], ◌∷◌, ◌++◌, map, None, Some, codes}
use Rattle.ecr_model.specs.declared.http.Section.TheVariants as sections
use Rattle.ecr_model.specs.declared.names.SiteId.{SiteId}
use Rattle.ecr_model.specs.http.Hosts.{is_colon, is_port, without_port, registry_host, api_host, first_with, named_site, first_site, site_for}
use Rattle.ecr_model.specs.http.Replies.{connection_line, json_head, empty_reply, is_head, failed_body, failed_reply, continue_reply, interim, bad_reply, long_status, long_reply}
use Rattle.ecr_model.specs.http.Stream.{request_of}
use Rattle.ecr_model.specs.names.Texts.{crlf}
use Rattle.ecr_examples.specs.Heads.{head}

abbrev site : List ℕ → List ℕ → SiteId
site region account = record { region = region; account = account }

abbrev ours : SiteId
ours = site (codes "us-east-1") (codes "111122223333")

-- the same region for another account, and another region
abbrev beside : SiteId
beside = site (codes "us-east-1") (codes "444455556666")

abbrev abroad : SiteId
abroad = site (codes "eu-west-2") (codes "111122223333")

abbrev sites : List SiteId
sites = ours ∷ beside ∷ abroad ∷ []

abbrev to : List ℕ → SiteId
to host = site_for sites (Some host)

-- the registry's host names its site, the API's the first site of its region, and any other host the first site
pub record HostsNameSites : Type 0 where
  pub colon : map is_colon (codes ":.") ≡ true ∷ false ∷ []
  pub port : map is_port (codes "5000" ∷ codes "0" ∷ [] ∷ codes "50a" ∷ []) ≡ true ∷ true ∷ false ∷ false ∷ []
  pub bare : without_port (codes "localhost:5000") ≡ codes "localhost"
  pub no_port : without_port (codes "localhost:") ≡ codes "localhost:"
  pub last : without_port (codes "a:1:2") ≡ codes "a:1"
  pub registry : registry_host beside ≡ codes "444455556666.dkr.ecr.us-east-1.amazonaws.com"
  pub api : api_host beside ≡ codes "api.ecr.us-east-1.amazonaws.com"
  pub first : first_with api_host (codes "API.ecr.us-east-1.amazonaws.com") sites ≡ Some ours
  pub named : named_site sites (codes "444455556666.DKR.ecr.us-east-1.amazonaws.com") ≡ Some beside
  pub unnamed : named_site sites (codes "444455556666.dkr.ecr.eu-west-2.amazonaws.com") ≡ None
  pub to_registry : to (codes "111122223333.dkr.ecr.eu-west-2.amazonaws.com:443") ≡ abroad
  pub to_api : to (codes "api.ecr.eu-west-2.amazonaws.com") ≡ abroad
  pub to_other : to (codes "localhost:5000") ≡ ours
  pub to_none : site_for sites None ≡ ours
  pub front : first_site (beside ∷ ours ∷ []) ≡ beside

-- how replies begin, and those that have no body of their own
pub record RepliesAreThese : Type 0 where
  pub closing : connection_line true ≡ codes "Connection: close" ++ crlf
  pub open_ : connection_line false ≡ []
  pub api : json_head true (codes "400 Bad Request") 71 ≡ codes "HTTP/1.1 400 Bad Request" ++ crlf
      ++ codes "Connection: close" ++ crlf ++ codes "Content-Length: 71" ++ crlf
      ++ codes "Content-Type: application/x-amz-json-1.1" ++ crlf ++ crlf
  pub empty : empty_reply false (codes "404 Not Found")
      ≡ codes "HTTP/1.1 404 Not Found" ++ crlf ++ codes "Content-Length: 0" ++ crlf ++ crlf
  pub head_is : is_head (record (request_of 0 (head 1 []) []) { method = codes "HEAD" }) ≡ true
  pub post : is_head (request_of 0 (head 1 []) []) ≡ false
  pub small : is_head (record (request_of 0 (head 1 []) []) { method = codes "head" }) ≡ false
  pub body : failed_body ≡ codes "{\"__type\":\"ServerException\",\"message\":\"server error\"}"
  pub failed : failed_reply false true
      ≡ codes "HTTP/1.1 500 Internal Server Error" ++ crlf ++ codes "Connection: close" ++ crlf
      ++ codes "Content-Length: 53" ++ crlf ++ codes "Content-Type: application/x-amz-json-1.1" ++ crlf ++ crlf
      ++ codes "{\"__type\":\"ServerException\",\"message\":\"server error\"}"
  pub bare : failed_reply true false ≡ codes "HTTP/1.1 500 Internal Server Error" ++ crlf
      ++ codes "Content-Length: 53" ++ crlf ++ codes "Content-Type: application/x-amz-json-1.1" ++ crlf ++ crlf
  pub goes_on : continue_reply ≡ codes "HTTP/1.1 100 Continue" ++ crlf ++ crlf
  pub due : interim true ≡ codes "HTTP/1.1 100 Continue" ++ crlf ++ crlf
  pub undue : interim false ≡ []
  pub none : bad_reply
      ≡ codes "HTTP/1.1 400 Bad Request" ++ crlf ++ codes "Connection: close" ++ crlf ++ codes "Content-Length: 0"
      ++ crlf ++ crlf
  pub statuses : map long_status (sections.Head ∷ sections.Body ∷ sections.Trailers ∷ [])
      ≡ codes "431 Request Header Fields Too Large" ∷ codes "413 Content Too Large"
      ∷ codes "431 Request Header Fields Too Large" ∷ []
  pub long : long_reply sections.Body
      ≡ codes "HTTP/1.1 413 Content Too Large" ++ crlf ++ codes "Connection: close" ++ crlf
      ++ codes "Content-Length: 0" ++ crlf ++ crlf
