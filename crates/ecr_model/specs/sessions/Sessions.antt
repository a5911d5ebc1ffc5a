-- A session: its exchanges, all that it writes, and how it ends. Moments are in seconds.
use Rattle.std.specs.Prelude.{◌≡◌, ℕ, ◌^◌, ◌<◌, ◌≤◌, ◌⊎◌, Bool, true, false, List, [], ◌∷◌, ◌++◌, length, map, Option, None, Some, if◌then◌else◌}
use Rattle.std.specs.Io.KnownBytes.{Consumes, Appends, Keeps, IsAtEnd}
use Rattle.ecr_model.specs.declared.http.Request.{Request}
use Rattle.ecr_model.specs.declared.registry.journal.Place.{Place}
use Rattle.ecr_model.specs.declared.names.Digest.{Digest}
use Rattle.ecr_model.specs.declared.names.TheConstants.{MAX_MOMENT}
use Rattle.ecr_model.specs.declared.outcome.Cut.{Cut}
use Rattle.ecr_model.specs.declared.outcome.End.{End}
use Rattle.ecr_model.specs.declared.outcome.End.TheVariants as ends
use Rattle.ecr_model.specs.registry.Content.{content_digest}
use Rattle.ecr_model.specs.registry.Contents.{named_by}
use Rattle.ecr_model.specs.http.Framing.{waits}
use Rattle.ecr_model.specs.declared.http.Section.{Section}
use Rattle.ecr_model.specs.http.Stream.{Point, start, head_part, closes, Begins, Reads, Ending, Tail, ended, closed, truncated, bad_at, long_at, more, AwaitsBody}
use Rattle.ecr_model.specs.requests.Posed.{posed_of, posed_script, posed_bytes}
use Rattle.ecr_model.specs.http.Replies.{failed_reply, continue_reply, interim, bad_reply, long_reply, is_head}
use Rattle.ecr_model.specs.requests.Requests.{Decided}
use Rattle.ecr_model.specs.registry.Scripts.{Realm, World, Script, Run, run, run_to, count_changed}

-- ---- one request of one caller

-- the turns of a request, at that moment
abbrev pub script_of : Realm → ℕ → Request → Script Decided
script_of realm moment request = posed_script (posed_of realm.served request) moment

-- the result of a request's turns
abbrev pub outcome_of : Realm → World → ℕ → Request → Run Decided
outcome_of realm world moment request = run realm world (script_of realm moment request)

-- the reply to a request with the content that it carries, as bytes
unfoldable pub written : Realm → World → ℕ → Cut → Request → List (List ℕ) → List ℕ
written realm world moment cut request contents = if cut.failed then failed_reply (is_head request) (closes request)
    else posed_bytes (posed_of realm.served request) (closes request)
    (outcome_of realm world moment request).answer.reply contents

-- the digests that the reply to a request names; the reply of one that failed names none
abbrev pub named_to : Realm → World → ℕ → Cut → Request → List Digest
named_to realm world moment cut request =
    if cut.failed then [] else named_by (outcome_of realm world moment request).answer.reply

-- the world after a request; one that failed made its turns up to so many entries
unfoldable pub left_by : Realm → World → ℕ → Cut → Request → World
left_by realm world moment cut request = if cut.failed
    then run_to cut.entries realm world (script_of realm moment request)
    else (outcome_of realm world moment request).world

-- a cut has the number of its request's entries, and the digest with which an upload was completed; one that failed has
-- no more entries than the request would have added, and that digest or none
pub record Counts (realm : Realm) (world : World) (moment : ℕ) (request : Request) (cut : Cut) : Type 0 where
  pub at_most : cut.entries ≤ (outcome_of realm world moment request).entries
  pub all : cut.failed ≡ false → cut.entries ≡ (outcome_of realm world moment request).entries
  pub sealed : cut.failed ≡ false → cut.sealed ≡ (outcome_of realm world moment request).answer.sealed
  pub no_other : (cut.sealed ≡ None) ⊎ (cut.sealed ≡ (outcome_of realm world moment request).answer.sealed)

-- the places of a request are those of its turns in order; of one that failed, the first of them, and no more of these
-- say that an entry was added than were
pub record IsPlaced (realm : Realm) (world : World) (moment : ℕ) (cut : Cut) (request : Request)
    (places : List Place) : Type 0 where
  pub all : cut.failed ≡ false → places ≡ (outcome_of realm world moment request).places
  pub first : (rest : List Place) × ((outcome_of realm world moment request).places ≡ places ++ rest)
  pub changed : count_changed places ≤ cut.entries

-- ---- exchanges

-- an answered request: its moment, its places and its cut, the content that its reply carries, and the reply's bytes
pub record Exchange : Type 0 where
  pub request : Request
  pub moment : ℕ
  pub places : List Place
  pub cut : Cut
  pub contents : List (List ℕ)
  pub bytes : List ℕ

-- exchanges one after another, each of which leads from one standing to the next
module _ {S : Type 0} (serves : S → Exchange → S → Type 0) where
  abbrev pub Chain : S → List Exchange → S → Type 0
  Chain first [] last = last ≡ first
  Chain first (e ∷ es) last = (next : S) × serves first e next × Chain next es last

-- the standing of a session between two requests: the sites and limits, the journals as they are seen, the moment of
-- each request where it is fixed, and the moments that the clock has given, where it tells them
pub record StandingOf (W : Type 0) : Type 0 where
  pub realm : Realm
  pub world : W
  pub fixed : Option ℕ
  pub told : Option (List ℕ)

-- that of one caller's session, over the journals with the parts of uploads
abbrev pub Standing : Type 0
Standing = StandingOf World

-- the moment of an exchange: the fixed one, or the one that the clock gave for it
abbrev pub IsTime : Option ℕ → Option (List ℕ) → Option (List ℕ) → ℕ → Type 0
IsTime (Some fixed) before after moment = (moment ≡ fixed) × Keeps before after
IsTime None before after moment = Appends before after (moment ∷ []) × (moment ≤ MAX_MOMENT)

-- a request was answered by the turns that it has on one caller's journals
pub record IsServed (was : Standing) (e : Exchange) (now : Standing) : Type 0 where
  pub realm_stays : now.realm ≡ was.realm
  pub fixed_stays : now.fixed ≡ was.fixed
  pub timed : IsTime was.fixed was.told now.told e.moment
  pub counts : Counts was.realm was.world e.moment e.request e.cut
  pub placed : IsPlaced was.realm was.world e.moment e.cut e.request e.places
  pub carries : map content_digest e.contents ≡ named_to was.realm was.world e.moment e.cut e.request
  pub bytes : e.bytes ≡ written was.realm was.world e.moment e.cut e.request e.contents
  pub leaves : now.world ≡ left_by was.realm was.world e.moment e.cut e.request

-- the exchanges are those of one caller, one after another
abbrev pub AreServed : Standing → List Exchange → Standing → Type 0
AreServed first exchanges last = Chain IsServed first exchanges last

-- the requests of exchanges
abbrev pub requests_of : List Exchange → List Request
requests_of exchanges = map (λ e. e.request) exchanges

-- the client waits for a 100 before it sends the request's body
abbrev pub is_waiting : Request → Bool
is_waiting request = waits (head_part request)

-- the bytes that are written to a request: the 100 that is due, and the reply
abbrev pub answer_to : Exchange → List ℕ
answer_to e = interim (is_waiting e.request) ++ e.bytes

-- the bytes that are written to requests, one after another
abbrev pub sent_to : List Exchange → List ℕ
sent_to [] = []
sent_to (e ∷ es) = answer_to e ++ sent_to es

-- ---- the end

-- the reply to bytes that are no request
abbrev pub ending_reply : Ending → List ℕ
ending_reply (bad_at at) = bad_reply
ending_reply (long_at at section limit) = long_reply section
ending_reply _ = []

-- the bytes that are written at the end
abbrev pub last_words : Tail → List ℕ
last_words tail = interim tail.due ++ ending_reply tail.ending

-- of this registry: the number of bytes that a session may read
unfoldable pub max_read : ℕ
max_read = 2 ^ 40

-- the end of a session, by how the bytes that were read, so many, go on
abbrev pub Ends : End → Ending → ℕ → Type 0
Ends ends.Whole ending size = (ending ≡ ended) ⊎ (ending ≡ closed)
Ends ends.Usage ending size = ⊥
Ends ends.ReadFault ending size = ending ≡ more
Ends ends.WriteFault ending size = ⊥
Ends ends.Mem ending size = ⊥
Ends ends.AcceptFault ending size = ⊥
Ends (ends.Truncated at) ending size = ending ≡ truncated at
Ends (ends.Bad at) ending size = ending ≡ bad_at at
Ends (ends.TooLong at limit) ending size = (section : Section) × (ending ≡ long_at at section limit)
Ends ends.Spent ending size = (ending ≡ more) × (size ≡ max_read)

-- a read that told the end was made with fewer bytes read than a session may read
abbrev pub IsUnspent : End → Ending → ℕ → Type 0
IsUnspent ends.Whole ended size = size < max_read
IsUnspent ends.Whole _ size = Unit {0}
IsUnspent ends.ReadFault ending size = size < max_read
IsUnspent (ends.Truncated at) ending size = size < max_read
IsUnspent _ ending size = Unit {0}

-- ---- a whole session

-- the source, the sink and the clock of a session: the bytes that the first has left, those that the second holds and
-- the moments that the third has given, where they tell them, and how often the first two have failed
pub record Outside : Type 0 where
  pub left : Option (List ℕ)
  pub held : Option (List ℕ)
  pub told : Option (List ℕ)
  pub read_faults : ℕ
  pub write_faults : ℕ

-- the account of a session's answered requests, one item for each: the moment in seconds, the places and the cut
pub record Account : Type 0 where
  pub moments : List ℕ
  pub places : List (List Place)
  pub cuts : List Cut

-- the account of exchanges
abbrev pub account_of : List Exchange → Account
account_of exchanges = record {
  moments = map (λ e. e.moment) exchanges;
  places = map (λ e. e.places) exchanges;
  cuts = map (λ e. e.cut) exchanges;
}

-- the beginning of a session: the sites and limits, the journals as they are seen, and the moment in seconds where it
-- is fixed
pub record SettingOf (W : Type 0) : Type 0 where
  pub realm : Realm
  pub first : W
  pub fixed : Option ℕ

-- that of one caller's session
abbrev pub Setting : Type 0
Setting = SettingOf World

-- the standing of a session with these journals and told moments
abbrev pub stands : {W : Type 0} → SettingOf W → W → Option (List ℕ) → StandingOf W
stands set world told = record { realm = set.realm; world = world; fixed = set.fixed; told = told }

-- the piece that was being written, and all that was written before it: the reply to the last of the requests, the 100
-- to the one that comes next, or the reply to bytes that are no request
abbrev pub IsLast : List ℕ → List Exchange → Point → List ℕ → List ℕ → Type 0
IsLast read exchanges point done piece =
    ((earlier : List Exchange) × (last : Exchange) × (exchanges ≡ earlier ++ last ∷ [])
    × (done ≡ sent_to earlier ++ interim (is_waiting last.request)) × (piece ≡ last.bytes))
    ⊎ (((point.closed ≡ false) × AwaitsBody point × (done ≡ sent_to exchanges) × (piece ≡ continue_reply))
    ⊎ ((over : Bool) × (tail : Tail) × Reads read over (requests_of exchanges) tail
    × (done ≡ sent_to exchanges ++ interim tail.due) × (piece ≡ ending_reply tail.ending)))

-- of sessions in which each exchange leads from one standing to the next by that relation
module _ {W : Type 0} (serves : StandingOf W → Exchange → StandingOf W → Type 0) where
  -- the account is that of these exchanges, which led from the first journals to these
  pub record ServicedBy (set : SettingOf W) (before after : Outside) (exchanges : List Exchange) (account : Account)
      (last : W) : Type 0 where
    pub says : account ≡ account_of exchanges
    pub served : Chain serves (stands set set.first before.told) exchanges (stands set last after.told)

  -- the bytes that were read begin with these requests, each of which was answered, and no other; the 100 to the
  -- request that comes next may have been written
  pub record AnsweredBy (set : SettingOf W) (before after : Outside) (account : Account) (last : W) : Type 0 where
    pub read : List ℕ
    pub exchanges : List Exchange
    pub point : Point
    pub further : List ℕ
    pub consumed : Consumes before.left after.left read
    pub within : length read ≤ max_read
    pub begins : Begins (start read) (requests_of exchanges) point
    pub goes_on : point.closed ≡ false
    pub serviced : ServicedBy set before after exchanges account last
    pub told_to : (further ≡ []) ⊎ (AwaitsBody point × (further ≡ continue_reply))
    pub sent : Appends before.held after.held (sent_to exchanges ++ further)

  -- all requests in the bytes that were read were answered, and the end came after them
  pub record CompletedBy (set : SettingOf W) (before after : Outside) (account : Account) (last : W)
      (end : End) : Type 0 where
    pub read : List ℕ
    pub over : Bool
    pub exchanges : List Exchange
    pub tail : Tail
    pub consumed : Consumes before.left after.left read
    pub within : length read ≤ max_read
    pub at_end : over ≡ true → IsAtEnd after.left
    pub reads : Reads read over (requests_of exchanges) tail
    pub serviced : ServicedBy set before after exchanges account last
    pub sent : Appends before.held after.held (sent_to exchanges ++ last_words tail)
    pub ends : Ends end tail.ending (length read)
    pub unspent : IsUnspent end tail.ending (length read)

  -- a write failed: the sink got all that was written before, and a part of the piece that was being written, but not
  -- all
  pub record CutOffBy (set : SettingOf W) (before after : Outside) (account : Account) (last : W) : Type 0 where
    pub read : List ℕ
    pub exchanges : List Exchange
    pub point : Point
    pub done : List ℕ
    pub piece : List ℕ
    pub taken : List ℕ
    pub lost : List ℕ
    pub consumed : Consumes before.left after.left read
    pub within : length read ≤ max_read
    pub begins : Begins (start read) (requests_of exchanges) point
    pub serviced : ServicedBy set before after exchanges account last
    pub is_last : IsLast read exchanges point done piece
    pub parts : piece ≡ taken ++ lost
    pub some : 1 ≤ length lost
    pub sent : Appends before.held after.held (done ++ taken)

  -- a session from its end: the bytes that it read and wrote, its account, and the journals that it left
  abbrev pub ServesBy : SettingOf W → Outside → Outside → Account → W → End → Type 0
  ServesBy set before after account last ends.Usage = ⊥
  ServesBy set before after account last ends.AcceptFault = ⊥
  ServesBy set before after account last ends.Mem = AnsweredBy set before after account last
  ServesBy set before after account last ends.ReadFault =
      (before.read_faults < after.read_faults) × CompletedBy set before after account last ends.ReadFault
  ServesBy set before after account last ends.WriteFault =
      (before.write_faults < after.write_faults) × CutOffBy set before after account last
  ServesBy set before after account last end = CompletedBy set before after account last end

-- ---- a whole session of one caller, whose requests are answered over its own journals

-- `ServicedBy`, of one caller
abbrev pub Serviced : Setting → Outside → Outside → List Exchange → Account → World → Type 0
Serviced set before after exchanges account last = ServicedBy IsServed set before after exchanges account last

-- `AnsweredBy`, of one caller
abbrev pub Answered : Setting → Outside → Outside → Account → World → Type 0
Answered set before after account last = AnsweredBy IsServed set before after account last

-- `CompletedBy`, of one caller
abbrev pub Completed : Setting → Outside → Outside → Account → World → End → Type 0
Completed set before after account last end = CompletedBy IsServed set before after account last end

-- `CutOffBy`, of one caller
abbrev pub CutOff : Setting → Outside → Outside → Account → World → Type 0
CutOff set before after account last = CutOffBy IsServed set before after account last

-- `ServesBy`, of one caller
abbrev pub Serves : Setting → Outside → Outside → Account → World → End → Type 0
Serves set before after account last end = ServesBy IsServed set before after account last end
