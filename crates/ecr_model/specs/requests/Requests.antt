-- The scripts of requests (Amazon ECR API Reference, "Actions"): the cells in which a call is decided, and their order.
use Rattle.std.specs.Prelude.{ℕ, ◌+◌, Bool, true, false, List, [], ◌∷◌, ◌++◌, length, Option, None, Some, if◌then◌else◌}
use Rattle.ecr_model.specs.declared.requests.call.Call.{Call}
use Rattle.ecr_model.specs.declared.requests.call.Call.TheVariants.{Create, Describe}
use Rattle.ecr_model.specs.declared.requests.call.Page.{Page}
use Rattle.ecr_model.specs.declared.requests.call.SiteCall.{SiteCall}
use Rattle.ecr_model.specs.declared.requests.call.SiteCall.TheVariants as site_calls
use Rattle.ecr_model.specs.declared.registry.directory.Registered.TheVariants.{Full}
use Rattle.ecr_model.specs.declared.registry.journal.CellKey.TheVariants.{Directory, Repository}
use Rattle.ecr_model.specs.declared.names.Digest.{Digest}
use Rattle.ecr_model.specs.declared.names.Name.{Name}
use Rattle.ecr_model.specs.declared.names.RepoKey.{RepoKey}
use Rattle.ecr_model.specs.declared.names.SiteId.{SiteId}
use Rattle.ecr_model.specs.declared.requests.refusal.Refusal.TheVariants.{RepositoryNotFound, LimitExceeded, UnknownOperation}
use Rattle.ecr_model.specs.declared.requests.reply.Described.{Described as Row}
use Rattle.ecr_model.specs.declared.requests.reply.Reply.{Reply}
use Rattle.ecr_model.specs.declared.requests.reply.Reply.TheVariants.{Described, Refused}
use Rattle.ecr_model.specs.declared.requests.reply.SiteReply.{SiteReply}
use Rattle.ecr_model.specs.declared.requests.reply.SiteReply.TheVariants as site_replies
use Rattle.ecr_model.specs.requests.Actions.{Asked, cell, site, many}
use Rattle.ecr_model.specs.registry.Scripts.{Ask, knows, register, site_call, call, Told, known, registered, listed, replied, Script, ends, turn, then_do}
use Rattle.ecr_model.specs.registry.Steps.{Beside}

-- the reply to a call, and the digest of all parts with which an upload's completion was decided; none of another call
pub record Decided : Type 0 where
  pub reply : Reply
  pub sealed : Option Digest

-- a reply of no completed upload
abbrev pub plain : Reply → Decided
plain reply = record { reply = reply; sealed = None }

-- the values beside a call of that moment with that content; no push has destinations yet
abbrev pub beside_of : Option (List ℕ) → ℕ → Beside
beside_of given moment = record { moment = moment; destinations = []; given = given }

-- whether the call registers its name: CreateRepository does
abbrev pub is_registering : Call → Bool
is_registering (Create mutability) = true
is_registering _ = false

-- the question of a call's first turn to the directory
abbrev pub first_ask : Name → Call → Ask
first_ask name c = if is_registering c then register name else knows name

-- the turn in the directory
unfoldable pub first_turn : RepoKey → Call → Script Told
first_turn key c = turn (Directory key.site) (first_ask key.name c) (λ told. ends told)

-- the reply that a turn in a repository told
abbrev pub reply_told : Told → Decided
reply_told (replied reply sealed) = record { reply = reply; sealed = sealed }
reply_told _ = plain (Refused RepositoryNotFound)

-- the turn in the repository
abbrev pub cell_turn : RepoKey → Call → Option (List ℕ) → ℕ → Script Decided
cell_turn key c given moment = turn (Repository key) (call (beside_of given moment) c) (λ told. ends (reply_told told))

-- the call after the directory's turn: a name that isn't registered has no repository, and one too many is refused
unfoldable pub then_cell : RepoKey → Call → Option (List ℕ) → ℕ → Told → Script Decided
then_cell key c given moment (known true) = cell_turn key c given moment
then_cell key c given moment (registered (Full limit count)) = ends (plain (Refused (LimitExceeded limit count)))
then_cell key c given moment (registered _) = cell_turn key c given moment
then_cell key c given moment _ = ends (plain (Refused RepositoryNotFound))

-- a call on a repository with the content that comes with it: a turn in its site's directory, and then, where the name
-- is registered, one in the repository
unfoldable pub call_script : RepoKey → Call → Option (List ℕ) → ℕ → Script Decided
call_script key c given moment = then_do (first_turn key c) (then_cell key c given moment)

-- the reply that a turn in a directory told
abbrev pub site_told : Told → SiteReply
site_told (listed reply) = reply
site_told _ = site_replies.Names [] false

-- a call on a site: a turn in its directory
unfoldable pub site_script : SiteId → SiteCall → Script SiteReply
site_script s c = turn (Directory s) (site_call c) (λ told. ends (site_told told))

-- ---- DescribeRepositories

-- the repository of that name at the site
abbrev pub key_at : SiteId → Name → RepoKey
key_at s name = record { site = s; name = name }

-- the rows of a reply to one description; none where it was refused
abbrev pub rows_in : Reply → List Row
rows_in (Described rows next) = rows
rows_in _ = []

-- whether a reply is a refusal
abbrev pub is_refused : Reply → Bool
is_refused (Refused refusal) = true
is_refused _ = false

-- the description of one repository of the site
abbrev pub one_script : SiteId → ℕ → Name → Script Decided
one_script s moment name = call_script (key_at s name) Describe None moment

-- the named repositories in order, behind the rows before them, up to the first that is refused
unfoldable pub named_script : SiteId → ℕ → List Row → List Name → Script Reply
named_script s moment rows [] = ends (Described rows None)
named_script s moment rows (name ∷ names) = then_do (one_script s moment name)
    (λ d. if is_refused d.reply then ends d.reply else named_script s moment (rows ++ rows_in d.reply) names)

-- the listed repositories in order, behind the rows before them; those that are absent are left out
unfoldable pub listed_script : SiteId → ℕ → Option ℕ → List Row → List Name → Script Reply
listed_script s moment next rows [] = ends (Described rows next)
listed_script s moment next rows (name ∷ names) =
    then_do (one_script s moment name) (λ d. listed_script s moment next (rows ++ rows_in d.reply) names)

-- the place of the next name, where some remain
abbrev pub next_place : Page → List Name → Bool → Option ℕ
next_place page names more = if more then Some (page.from + length names) else None

-- the repositories of the page that the directory told
abbrev pub page_script : SiteId → ℕ → Page → SiteReply → Script Reply
page_script s moment page (site_replies.Names names more) =
    listed_script s moment (next_place page names more) [] names
page_script s moment page (site_replies.Refused refusal) = ends (Refused refusal)

-- DescribeRepositories: the named ones, or those of a page of the site's names
unfoldable pub describe_script : SiteId → Option (List Name) → Page → ℕ → Script Reply
describe_script s (Some names) page moment = named_script s moment [] names
describe_script s None page moment =
    then_do (site_script s (site_calls.Names page)) (λ reply. page_script s moment page reply)

-- ---- a request's turns

-- the reply to a call on a site; the names of a site are no action
abbrev pub of_site : SiteReply → Reply
of_site (site_replies.Names names more) = Refused UnknownOperation
of_site (site_replies.Refused refusal) = Refused refusal

-- the turns of a request of the JSON API, at that moment
unfoldable pub asked_script : Asked → ℕ → Script Decided
asked_script (cell key c given) moment = call_script key c given moment
asked_script (site s c) moment = then_do (site_script s c) (λ reply. ends (plain (of_site reply)))
asked_script (many s names page) moment = then_do (describe_script s names page moment) (λ reply. ends (plain reply))
