-- What a request's turns came to on a desk, with their places behind those of earlier turns.
use Rattle.std.specs.Prelude.{◌≡◌, ◌<◌, ℕ, ◌^◌, Bool, List, ◌++◌, Option, None, Some, Contains}
use Rattle.ecr_model.specs.declared.registry.journal.Place.{Place}
use Rattle.ecr_model.specs.declared.names.Digest.{Digest}
use Rattle.ecr_model.specs.declared.names.Name.{Name}
use Rattle.ecr_model.specs.declared.names.SiteId.{SiteId}
use Rattle.ecr_model.specs.declared.requests.refusal.Refusal.{Refusal}
use Rattle.ecr_model.specs.declared.requests.reply.Described.{Described as Row}
use Rattle.ecr_model.specs.declared.requests.reply.Reply.{Reply}
use Rattle.ecr_model.specs.declared.requests.reply.Reply.TheVariants.{Refused}
use Rattle.ecr_model.specs.requests.Actions.{Asked, cell, site, many}
use Rattle.ecr_model.specs.registry.Contents.{AreContents}
use Rattle.ecr_model.specs.requests.Posed.{Posed, posed_bytes, posed_script}
use Rattle.ecr_model.specs.requests.Rendered.{site_asked}
use Rattle.ecr_model.specs.requests.Requests.{Decided, one_script, rows_in}
use Rattle.ecr_model.specs.registry.Scripts.{Script}
use Rattle.ecr_model.specs.registry.Views.{places_of}
use Rattle.ecr_desk.specs.Desks.{DeskState, Ran, Stopped}
use Rattle.ecr_http.specs.Replies.{message_bytes}
use Rattle.ecr_http.specs.declared.reply.HttpReply.{HttpReply}

-- all turns of the script were made and came to that answer, and their places stand behind those before
pub record RanWith {A : Type 0} (before after : DeskState) (script : Script A) (answer : A)
    (old now : List Place) : Type 0 where
  pub places : List Place
  pub added : now ≡ old ++ places
  pub ran : Ran before after script answer places

-- some turns of the script were made, the first ones, and the places of some of these, the first ones, stand behind
-- those before
pub record StoppedWith {A : Type 0} (before after : DeskState) (script : Script A)
    (old now : List Place) : Type 0 where
  pub places : List Place
  pub rest : List Place
  pub added : now ≡ old ++ places
  pub stopped : Stopped before after script
  pub parts : places_of stopped.turns ≡ places ++ rest

-- the turns that were posed came to these bytes, with the content that their reply names, and to this digest of a
-- completed upload
pub record IsReplied (before after : DeskState) (posed : Posed) (moment : ℕ) (close : Bool) (reply : HttpReply)
    (sealed : Option Digest) (old now : List Place) : Type 0 where
  pub answer : Decided
  pub ran : RanWith before after (posed_script posed moment) answer old now
  pub contents : List (List ℕ)
  pub carries : AreContents answer.reply contents
  pub bytes : message_bytes reply ≡ posed_bytes posed close answer.reply contents
  pub sealed_is : sealed ≡ answer.sealed

-- after these turns the rest of the whole script is left: it ends as that does
pub record LeadsTo {A : Type 0} (before now : DeskState) (whole rest : Script A)
    (old places : List Place) : Type 0 where
  pub ran : (later : DeskState) (answer : A) (last : List Place) → RanWith now later rest answer places last
      → RanWith before later whole answer old last
  pub stopped : (later : DeskState) (last : List Place) → StoppedWith now later rest places last
      → StoppedWith before later whole old last

-- ---- what may be asked of a desk

-- the first place of a page, where one is asked for, has a number
abbrev pub IsPlain : Asked → Type 0
IsPlain (cell key call given) = Unit {0}
IsPlain (site s call) = Unit {0}
IsPlain (many s names page) = page.from < 2 ^ 63

-- the site is served, and the page is one
pub record IsAskable (served : List SiteId) (asked : Asked) : Type 0 where
  pub at : Contains served (site_asked asked)
  pub page : IsPlain asked

-- ---- DescribeRepositories

-- the refusal of a description, where it is refused
abbrev pub refusal_in : Reply → Option Refusal
refusal_in (Refused refusal) = Some refusal
refusal_in _ = None

-- one repository was described: its row stands behind those before, or it was refused like that
pub record IsDescribed (before after : DeskState) (s : SiteId) (name : Name) (moment : ℕ)
    (rows_before rows_after : List Row) (refusal : Option Refusal) (old now : List Place) : Type 0 where
  pub decided : Decided
  pub ran : RanWith before after (one_script s moment name) decided old now
  pub rows : rows_after ≡ rows_before ++ rows_in decided.reply
  pub refused : refusal ≡ refusal_in decided.reply
