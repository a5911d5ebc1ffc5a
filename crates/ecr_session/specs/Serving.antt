-- How far a session has come, and the bytes as which a request's answer is sent. Moments are in seconds.
use Rattle.std.specs.Prelude.{◌≡◌, ◌+◌, ℕ, ◌≤◌, Bool, true, false, List, [], ◌∷◌, ◌++◌, ◌⊎◌, Option, None, Some, length}
use Rattle.std.specs.Io.KnownBytes.{Consumes, Appends}
use Rattle.ecr_model.specs.declared.http.Request.{Request}
use Rattle.ecr_model.specs.declared.registry.journal.Place.{Place}
use Rattle.ecr_model.specs.declared.names.Digest.{Digest}
use Rattle.ecr_model.specs.declared.outcome.Cut.{Cut}
use Rattle.ecr_model.specs.declared.outcome.End.{End}
use Rattle.ecr_model.specs.declared.outcome.End.TheVariants as ends
use Rattle.ecr_model.specs.http.Replies.{failed_reply, is_head}
use Rattle.ecr_model.specs.registry.Contents.{AreContents}
use Rattle.ecr_model.specs.requests.Posed.{posed_bytes, posed_of}
use Rattle.ecr_model.specs.requests.Requests.{Decided}
use Rattle.ecr_model.specs.registry.Scripts.{count_changed}
use Rattle.ecr_model.specs.registry.Views.{places_of}
use Rattle.ecr_model.specs.sessions.Sessions.{Account, Outside, SettingOf, Exchange, IsTime, ServicedBy, ServesBy, StandingOf, max_read, requests_of, script_of, sent_to}
use Rattle.ecr_model.specs.http.Stream.{Point, start, closes, Begins}
use Rattle.ecr_desk.specs.Desks.{DeskState, Ran, Stopped}
use Rattle.ecr_http.specs.Replies.{message_bytes}
use Rattle.ecr_http.specs.Sends.{Sends}
use Rattle.ecr_http.specs.declared.reply.HttpReply.{HttpReply}
use Rattle.ecr_http.specs.declared.write.Sent.{Sent}
use Rattle.ecr_http.specs.declared.write.Sent.TheVariants.{Done, WriteFault}
use Rattle.ecr_session.specs.Accounts.{entries_in, noted}

-- the bytes of a reply; none stands for the one where there was no memory
abbrev pub reply_bytes : Bool → Bool → Option HttpReply → List ℕ
reply_bytes bare close None = failed_reply bare close
reply_bytes bare close (Some reply) = message_bytes reply

-- the cut of an answered request
abbrev pub cut_of : ℕ → Bool → Option Digest → Cut
cut_of entries failed sealed = record { entries = entries; failed = failed; sealed = sealed }

-- all turns of the request were made: the reply is that of their answer with its content, and the places and the cut
-- are theirs
pub record IsAnswered (before after : DeskState) (moment : ℕ) (request : Request) (contents : List (List ℕ))
    (bytes : List ℕ) (places : List Place) (cut : Cut) : Type 0 where
  pub answer : Decided
  pub ran : Ran before after (script_of before.realm moment request) answer places
  pub carries : AreContents answer.reply contents
  pub bytes_are : bytes ≡ posed_bytes (posed_of before.realm.served request) (closes request) answer.reply contents
  pub entries : cut.entries ≡ count_changed places
  pub served : cut.failed ≡ false
  pub sealed_is : cut.sealed ≡ answer.sealed

-- the first turns of the request were made, and there was no memory for more, or for the reply: the reply is the fixed
-- one, and the places are the first of theirs
pub record IsFailed (before after : DeskState) (moment : ℕ) (request : Request) (contents : List (List ℕ))
    (bytes : List ℕ) (places : List Place) (cut : Cut) : Type 0 where
  pub stopped : Stopped before after (script_of before.realm moment request)
  pub rest : List Place
  pub parts : places_of stopped.turns ≡ places ++ rest
  pub carries_none : contents ≡ []
  pub bytes_are : bytes ≡ failed_reply (is_head request) (closes request)
  pub entries : cut.entries ≡ count_changed (places_of stopped.turns)
  pub failed : cut.failed ≡ true
  pub none_sealed : cut.sealed ≡ None

-- the reply with its content, as bytes, the places and the cut are those of the request's turns
abbrev pub Answers : DeskState → DeskState → ℕ → Request → List (List ℕ) → List ℕ → List Place → Cut → Type 0
Answers before after moment request contents bytes places cut =
    IsAnswered before after moment request contents bytes places cut
    ⊎ IsFailed before after moment request contents bytes places cut

-- a request was answered by the turns that it has on a desk
pub record IsServedOver (was : StandingOf DeskState) (e : Exchange) (now : StandingOf DeskState) : Type 0 where
  pub realm_stays : now.realm ≡ was.realm
  pub fixed_stays : now.fixed ≡ was.fixed
  pub timed : IsTime was.fixed was.told now.told e.moment
  pub answers : Answers was.world now.world e.moment e.request e.contents e.bytes e.places e.cut

-- a session over a desk, from its end
abbrev pub ServesOver : SettingOf DeskState → Outside → Outside → Account → DeskState → End → Type 0
ServesOver set before after account last end = ServesBy IsServedOver set before after account last end

-- ---- what a session says

-- the account with one exchange more
abbrev pub with_exchange : Account → Exchange → Account
with_exchange account e = noted account e.moment e.places e.cut

-- ---- how far a session has come

-- all requests that were read were answered, and the replies were sent: the reader stands there, and this was said of
-- them and left
pub record SoFar (set : SettingOf DeskState) (before after : Outside) (point : Point) (account : Account)
    (last : DeskState) : Type 0 where
  pub read : List ℕ
  pub exchanges : List Exchange
  pub consumed : Consumes before.left after.left read
  pub within : length read ≤ max_read
  pub begins : Begins (start read) (requests_of exchanges) point
  pub serviced : ServicedBy IsServedOver set before after exchanges account last
  pub sent : Appends before.held after.held (sent_to exchanges)
  pub reads_later : before.read_faults ≤ after.read_faults
  pub writes_later : before.write_faults ≤ after.write_faults

-- the same of a session over a desk, whose entries are those that were added there
pub record HasCome (set : SettingOf DeskState) (before after : Outside) (point : Point) (account : Account)
    (seen : DeskState) : Type 0 where
  pub realm_stays : seen.realm ≡ set.realm
  pub counted : seen.made ≡ set.first.made + entries_in account.cuts
  pub so_far : SoFar set before after point account seen

-- the session ended like that, and its entries are those that were added there
pub record HasEnded (set : SettingOf DeskState) (before after : Outside) (account : Account) (seen : DeskState)
    (end : End) : Type 0 where
  pub realm_stays : seen.realm ≡ set.realm
  pub counted : seen.made ≡ set.first.made + entries_in account.cuts
  pub serves : ServesOver set before after account seen end

-- the session ended like that, by an account for which its keeper may stand
abbrev pub EndsBy : (Account → Type 0) → SettingOf DeskState → Outside → Outside → DeskState → End → Type 0
EndsBy stands set before after seen end =
    (account : Account) × stands account × HasEnded set before after account seen end

-- the session goes on, and isn't closed, or ends like that, by an account for which its keeper may stand
abbrev pub GoesOn : (Account → Type 0) → SettingOf DeskState → Outside → Outside → Point → DeskState → Option End
    → Type 0
GoesOn stands set before after point seen None =
    (account : Account) × stands account × HasCome set before after point account seen × (point.closed ≡ false)
GoesOn stands set before after point seen (Some end) = EndsBy stands set before after seen end

-- the standing of a session over a desk, between two requests
abbrev pub standing_of : Option ℕ → Outside → DeskState → StandingOf DeskState
standing_of fixed outside seen = record { realm = seen.realm; world = seen; fixed = fixed; told = outside.told }

-- a request was answered, the keeper may stand for the account with its exchange behind the others, and the reply was
-- sent, or a part of it
pub record AddsExchange (stands : Account → Type 0) (fixed : Option ℕ) (request : Request) (before : Outside)
    (account : Account) (seen : DeskState) (after : Outside) (later : DeskState) (sent : Sent) : Type 0 where
  pub exchange : Exchange
  pub request_is : exchange.request ≡ request
  pub served : IsServedOver (standing_of fixed before seen) exchange (standing_of fixed after later)
  pub added : stands (with_exchange account exchange)
  pub left : after.left ≡ before.left
  pub sends : Sends before.held after.held exchange.bytes sent

-- the reply was sent, and the session ends where the request closes it; or a part of the reply was
abbrev pub ServesRequest : (Account → Type 0) → Option ℕ → Request → Outside → Account → DeskState → Outside
    → DeskState → Option End → Type 0
ServesRequest stands fixed request before account seen after later None =
    AddsExchange stands fixed request before account seen after later Done × (closes request ≡ false)
ServesRequest stands fixed request before account seen after later (Some ends.Whole) =
    AddsExchange stands fixed request before account seen after later Done × (closes request ≡ true)
ServesRequest stands fixed request before account seen after later (Some ends.WriteFault) =
    AddsExchange stands fixed request before account seen after later WriteFault
ServesRequest stands fixed request before account seen after later (Some _) = ⊥

-- the reply to bytes that are no request was sent, and the session ends like that, or a part of the reply was
abbrev pub SendsLast : Option (List ℕ) → Option (List ℕ) → List ℕ → End → End → Type 0
SendsLast before after reply last end = ((end ≡ last) × Appends before after reply)
    ⊎ ((end ≡ ends.WriteFault) × Sends before after reply WriteFault)
