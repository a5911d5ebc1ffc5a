-- The site that a request is for, by the value of its Host (RFC 9110, section 7.2). Which hosts name which site is of
-- this registry: docs/DECISIONS.md, "Host".
use Rattle.std.specs.Prelude.{ℕ, Bool, ◌&&◌, ◌==◌, List, [], ◌∷◌, ◌++◌, Option, length, nat_lt, find, unwrap_or, option_and_then, codes, if◌then◌else◌}
use Rattle.std.specs.Char.{is_ascii_digit}
use Rattle.std.specs.List.{list_all, list_any, before_last, after_last}
use Rattle.std.specs.Option.{option_or}
use Rattle.std.specs.Str.{str_eq_ignore_ascii_case}
use Rattle.ecr_model.specs.declared.names.SiteId.{SiteId}

-- `:`
abbrev pub is_colon : ℕ → Bool
is_colon c = c == 58

-- a port of at least one digit (RFC 3986, section 3.2.3)
abbrev pub is_port : List ℕ → Bool
is_port text = nat_lt 0 (length text) && list_all is_ascii_digit text

-- the host without its last `:`, where a port stands behind that
unfoldable pub without_port : List ℕ → List ℕ
without_port host = if list_any is_colon host && is_port
    (after_last is_colon host) then before_last is_colon host else host

-- `ACCOUNT.dkr.ecr.REGION.amazonaws.com`
abbrev pub registry_host : SiteId → List ℕ
registry_host site = site.account ++ codes ".dkr.ecr." ++ site.region ++ codes ".amazonaws.com"

-- `api.ecr.REGION.amazonaws.com`
abbrev pub api_host : SiteId → List ℕ
api_host site = codes "api.ecr." ++ site.region ++ codes ".amazonaws.com"

-- the first of the sites whose host, in that form, is this one; ASCII letters are compared without case
abbrev pub first_with : (SiteId → List ℕ) → List ℕ → List SiteId → Option SiteId
first_with host_of host sites = find (λ site. str_eq_ignore_ascii_case host (host_of site)) sites

-- the site that the host names, where it is a site's registry or the API of a site's region
unfoldable pub named_site : List SiteId → List ℕ → Option SiteId
named_site sites host = option_or (first_with registry_host host sites) (first_with api_host host sites)

-- the first site; no session has no site
abbrev pub first_site : List SiteId → SiteId
first_site [] = record { region = []; account = [] }
first_site (site ∷ sites) = site

-- the site that a request is for, of those that are served: the one that its Host names, or else the first
unfoldable pub site_for : List SiteId → Option (List ℕ) → SiteId
site_for sites host = unwrap_or (option_and_then (λ value. named_site sites (without_port value)) host)
    (first_site sites)
