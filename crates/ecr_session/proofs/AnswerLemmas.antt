-- What a request's turns come to as an answer.
use Rattle.std.proofs.Common.{◌≡◌, ◌+◌, ◌-◌, ◌∙◌, inl, inr, ℕ, Bool, true, false, List, [], ◌++◌, Option, None, Err, codes, refl, sym, ap, subst, arith}
use Rattle.std.proofs.lemmas.Bool.{cond-true, cond-false}
use Rattle.ecr_model.specs.declared.requests.call.Call.{Call}
use Rattle.ecr_model.specs.declared.requests.call.Page.{Page}
use Rattle.ecr_model.specs.declared.requests.call.SiteCall.{SiteCall}
use Rattle.ecr_model.specs.declared.requests.call.SiteCall.TheVariants as site_calls
use Rattle.ecr_model.specs.declared.http.Request.{Request}
use Rattle.ecr_model.specs.declared.registry.journal.Place.{Place}
use Rattle.ecr_model.specs.declared.names.Digest.{Digest}
use Rattle.ecr_model.specs.declared.names.Name.{Name}
use Rattle.ecr_model.specs.declared.names.RepoKey.{RepoKey}
use Rattle.ecr_model.specs.declared.names.SiteId.{SiteId}
use Rattle.ecr_model.specs.declared.outcome.Cut.{Cut}
use Rattle.ecr_model.specs.declared.requests.refusal.Refusal.{Refusal}
use Rattle.ecr_model.specs.declared.requests.refusal.Refusal.TheVariants.{UnknownOperation}
use Rattle.ecr_model.specs.declared.requests.reply.Reply.{Reply}
use Rattle.ecr_model.specs.declared.requests.reply.Reply.TheVariants.{Refused}
use Rattle.ecr_model.specs.declared.requests.reply.SiteReply.{SiteReply}
use Rattle.ecr_model.specs.requests.Actions.{Asked, cell, site, many, Reading, asks, refuses, reading}
use Rattle.ecr_model.specs.registry.Contents.{AreContents}
use Rattle.ecr_model.specs.requests.Posed.{Posed, api, unrouted, base_of, is_json_call, posed_of, posed_script, posed_bytes, target_of}
use Rattle.ecr_model.specs.requests.Rendered.{json, refused}
use Rattle.ecr_model.specs.http.Replies.{empty_reply, failed_reply, is_head}
use Rattle.ecr_model.specs.requests.Requests.{Decided, plain, asked_script, call_script, describe_script, of_site, page_script, site_script}
use Rattle.ecr_model.specs.registry.Scripts.{ends, count_changed}
use Rattle.ecr_model.specs.registry.Views.{places_of}
use Rattle.ecr_model.specs.http.Stream.{closes}
use Rattle.ecr_api.specs.Readings.{HasReading}
use Rattle.ecr_api.specs.declared.asked.ApiRefusal.{ApiRefusal}
use Rattle.ecr_api.specs.declared.asked.ApiRefusal.TheVariants as api_refusals
use Rattle.ecr_desk.specs.Desks.{DeskState}
use Rattle.ecr_http.specs.Replies.{message_bytes}
use Rattle.ecr_http.specs.declared.reply.HttpReply.{HttpReply}
use Rattle.ecr_session.specs.Serving.{Answers, cut_of}
use Rattle.ecr_session.specs.Turns.{IsReplied, RanWith, StoppedWith}
use Rattle.ecr_session.proofs.TurnLemmas.{RanWith-ends, RanWith-then, StoppedWith-first, StoppedWith-then}

-- ---- what is posed

-- a request that is no call of the JSON API has no route
pub posed_of-unrouted : (served : List SiteId) (request : Request) → is_json_call request ≡ false
    → posed_of served request ≡ unrouted
unfolding posed_of
posed_of-unrouted served request other = cond-false _ _ _ other

-- a call of the JSON API asks what its body reads as
pub posed_of-api : (served : List SiteId) (request : Request) (r : Reading) → is_json_call request ≡ true
    → reading (target_of request) request.body (base_of served request) served ≡ r → posed_of served request ≡ api r
unfolding posed_of
posed_of-api served request r is reads = cond-true _ _ _ is ∙ ap api reads

-- why a body is refused, where it is
pub HasReading-refused : (why : ApiRefusal) (refusal : Refusal) (r : Reading) → why ≡ api_refusals.Refused refusal
    → HasReading (Err why) r → r ≡ refuses refusal
HasReading-refused why refusal r is reads = subst (λ w. HasReading (Err w) r) is reads

-- ---- the reply to it

-- the empty reply 404 answers a request without a route, by no turn
pub IsReplied-unrouted : (seen : DeskState) (posed : Posed) (moment : ℕ) (close : Bool) (reply : HttpReply)
    (sealed : Option Digest) (old : List Place) → posed ≡ unrouted
    → message_bytes reply ≡ empty_reply close (codes "404 Not Found") → sealed ≡ None
    → IsReplied seen seen posed moment close reply sealed old old
unfolding posed_script posed_bytes
IsReplied-unrouted seen posed moment close reply sealed old is bytes none =
    subst (λ p. IsReplied seen seen p moment close reply sealed old old) (sym is)
    (record {
      answer = plain (Refused UnknownOperation);
      ran = RanWith-ends seen (plain (Refused UnknownOperation)) old;
      contents = [];
      carries = refl;
      bytes = bytes;
      sealed_is = none;
    })

-- the reply of a refusal answers a body that is refused, by no turn
pub IsReplied-refused : (seen : DeskState) (posed : Posed) (refusal : Refusal) (moment : ℕ) (close : Bool)
    (reply : HttpReply) (sealed : Option Digest) (old : List Place) → posed ≡ api (refuses refusal)
    → message_bytes reply ≡ refused refusal close → sealed ≡ None
    → IsReplied seen seen posed moment close reply sealed old old
unfolding posed_script posed_bytes
IsReplied-refused seen posed refusal moment close reply sealed old is bytes none =
    subst (λ p. IsReplied seen seen p moment close reply sealed old old) (sym is)
    (record {
      answer = plain (Refused refusal);
      ran = RanWith-ends seen (plain (Refused refusal)) old;
      contents = [];
      carries = refl;
      bytes = bytes;
      sealed_is = none;
    })

-- the reply to what was asked answers the request, by the turns of what was asked
pub IsReplied-asked : (before after : DeskState) (asked : Asked) (moment : ℕ) (close : Bool) (answer : Decided)
    (contents : List (List ℕ)) (reply : HttpReply) (old now : List Place)
    → RanWith before after (asked_script asked moment) answer old now → AreContents answer.reply contents
    → message_bytes reply ≡ json asked answer.reply contents close
    → IsReplied before after (api (asks asked)) moment close reply answer.sealed old now
unfolding posed_script posed_bytes
IsReplied-asked before after asked moment close answer contents reply old now ran carries bytes =
    record { answer = answer; ran = ran; contents = contents; carries = carries; bytes = bytes; sealed_is = refl }

-- a stop among the turns of what was asked is one among those of the request
pub StoppedWith-asked : (before after : DeskState) (asked : Asked) (moment : ℕ) (old now : List Place)
    → StoppedWith before after (asked_script asked moment) old now
    → StoppedWith before after (posed_script (api (asks asked)) moment) old now
unfolding posed_script
StoppedWith-asked before after asked moment old now stopped = stopped

-- the same of values that are known by other words
pub IsReplied-same : (before after : DeskState) (posed other : Posed) (moment : ℕ) (close shut : Bool)
    (reply : HttpReply) (sealed : Option Digest) (old now : List Place) → other ≡ posed → close ≡ shut
    → IsReplied before after posed moment close reply sealed old now
    → IsReplied before after other moment shut reply sealed old now
IsReplied-same before after posed other moment close shut reply sealed old now same closing r =
    subst (λ b. IsReplied before after other moment b reply sealed old now) closing
    (subst (λ p. IsReplied before after p moment close reply sealed old now) (sym same) r)

-- a stop among a request's turns is one where the request is told in other words
pub StoppedWith-same : (before after : DeskState) (posed other : Posed) (moment : ℕ) (old now : List Place)
    → other ≡ posed
    → StoppedWith before after (posed_script posed moment) old now
    → StoppedWith before after (posed_script other moment) old now
StoppedWith-same before after posed other moment old now same stopped =
    subst (λ p. StoppedWith before after (posed_script p moment) old now) (sym same) stopped

-- a reply of no completed upload
pub Decided-plain : (reply other : Reply) (sealed : Option Digest) → reply ≡ other → sealed ≡ None
    → (let d : Decided = record { reply = reply; sealed = sealed } in d) ≡ plain other
Decided-plain reply other sealed same none = cc

-- ---- a call on a site, and what follows of it

-- the turn for the page and then the rows of its names are a description of the page
pub RanWith-page : (before mid after : DeskState) (s : SiteId) (page : Page) (moment : ℕ) (told : SiteReply)
    (answer : Reply) (old more now : List Place)
    → RanWith before mid (site_script s (site_calls.Names page)) told old more
    → RanWith mid after (page_script s moment page told) answer more now
    → RanWith before after (describe_script s None page moment) answer old now
unfolding describe_script
RanWith-page before mid after s page moment told answer old more now one other =
    RanWith-then before mid after (site_script s (site_calls.Names page))
    (λ reply. page_script s moment page reply) told answer old more now one other

-- a stop among the rows of a page is one in the description of the page
pub StoppedWith-page : (before mid after : DeskState) (s : SiteId) (page : Page) (moment : ℕ) (told : SiteReply)
    (old more now : List Place)
    → RanWith before mid (site_script s (site_calls.Names page)) told old more
    → StoppedWith mid after (page_script s moment page told) more now
    → StoppedWith before after (describe_script s None page moment) old now
unfolding describe_script
StoppedWith-page before mid after s page moment told old more now one other =
    StoppedWith-then before mid after (site_script s (site_calls.Names page))
    (λ reply. page_script s moment page reply) told old more now one other

-- a stop before the page is one in the description of the page
pub StoppedWith-no_page : (before after : DeskState) (s : SiteId) (page : Page) (moment : ℕ) (old now : List Place)
    → StoppedWith before after (site_script s (site_calls.Names page)) old now
    → StoppedWith before after (describe_script s None page moment) old now
unfolding describe_script
StoppedWith-no_page before after s page moment old now stopped =
    StoppedWith-first before after (site_script s (site_calls.Names page))
    (λ reply. page_script s moment page reply) old now stopped

-- the turn of a site's call is all that was asked
pub RanWith-site : (before after : DeskState) (asked : Asked) (s : SiteId) (c : SiteCall) (moment : ℕ)
    (told : SiteReply) (answer : Decided) (old now : List Place) → asked ≡ site s c → answer ≡ plain (of_site told)
    → RanWith before after (site_script s c) told old now
    → RanWith before after (asked_script asked moment) answer old now
unfolding asked_script
RanWith-site before after asked s c moment told answer old now what is one =
    subst (λ q. RanWith before after (asked_script q moment) answer old now) (sym what)
    (subst (λ a. RanWith before after (asked_script (site s c) moment) a old now) (sym is)
    (RanWith-then before after after (site_script s c) (λ reply. ends (plain (of_site reply))) told
    (plain (of_site told)) old now now one (RanWith-ends after (plain (of_site told)) now)))

-- a stop before a site's call is one in what was asked
pub StoppedWith-site : (before after : DeskState) (asked : Asked) (s : SiteId) (c : SiteCall) (moment : ℕ)
    (old now : List Place) → asked ≡ site s c
    → StoppedWith before after (site_script s c) old now → StoppedWith before after (asked_script asked moment) old now
unfolding asked_script
StoppedWith-site before after asked s c moment old now what stopped =
    subst (λ q. StoppedWith before after (asked_script q moment) old now) (sym what)
    (StoppedWith-first before after (site_script s c) (λ reply. ends (plain (of_site reply))) old now stopped)

-- ---- a call on a repository, and DescribeRepositories

-- the turns of a call on a repository are all that was asked
pub RanWith-cell : (before after : DeskState) (asked : Asked) (key : RepoKey) (c other : Call)
    (given same_given : Option (List ℕ)) (moment : ℕ) (answer : Decided) (old now : List Place)
    → asked ≡ cell key c given → other ≡ c → same_given ≡ given
    → RanWith before after (call_script key other same_given moment) answer old now
    → RanWith before after (asked_script asked moment) answer old now
unfolding asked_script
RanWith-cell before after asked key c other given same_given moment answer old now what same content one =
    subst (λ q. RanWith before after (asked_script q moment) answer old now) (sym what)
    (subst (λ g. RanWith before after (call_script key c g moment) answer old now) content
    (subst (λ d. RanWith before after (call_script key d same_given moment) answer old now) same one))

-- a stop among the turns of a call on a repository is one in what was asked
pub StoppedWith-cell : (before after : DeskState) (asked : Asked) (key : RepoKey) (c other : Call)
    (given same_given : Option (List ℕ)) (moment : ℕ) (old now : List Place)
    → asked ≡ cell key c given → other ≡ c → same_given ≡ given
    → StoppedWith before after (call_script key other same_given moment) old now
    → StoppedWith before after (asked_script asked moment) old now
unfolding asked_script
StoppedWith-cell before after asked key c other given same_given moment old now what same content one =
    subst (λ q. StoppedWith before after (asked_script q moment) old now) (sym what)
    (subst (λ g. StoppedWith before after (call_script key c g moment) old now) content
    (subst (λ d. StoppedWith before after (call_script key d same_given moment) old now) same one))

-- the description of several repositories is all that was asked
pub RanWith-many : (before after : DeskState) (asked : Asked) (s : SiteId) (names : Option (List Name)) (page : Page)
    (moment : ℕ) (reply : Reply) (answer : Decided) (old now : List Place)
    → asked ≡ many s names page → answer ≡ plain reply
    → RanWith before after (describe_script s names page moment) reply old now
    → RanWith before after (asked_script asked moment) answer old now
unfolding asked_script
RanWith-many before after asked s names page moment reply answer old now what is one =
    subst (λ q. RanWith before after (asked_script q moment) answer old now) (sym what)
    (subst (λ a. RanWith before after (asked_script (many s names page) moment) a old now) (sym is)
    (RanWith-then before after after (describe_script s names page moment) (λ r. ends (plain r)) reply
    (plain reply) old now now one (RanWith-ends after (plain reply) now)))

-- a stop in the description of several repositories is one in what was asked
pub StoppedWith-many : (before after : DeskState) (asked : Asked) (s : SiteId) (names : Option (List Name))
    (page : Page) (moment : ℕ) (old now : List Place) → asked ≡ many s names page
    → StoppedWith before after (describe_script s names page moment) old now
    → StoppedWith before after (asked_script asked moment) old now
unfolding asked_script
StoppedWith-many before after asked s names page moment old now what one =
    subst (λ q. StoppedWith before after (asked_script q moment) old now) (sym what)
    (StoppedWith-first before after (describe_script s names page moment) (λ r. ends (plain r)) old now one)

-- ---- the answer to a request

-- the number of entries that a request added
entries_of : (first last before after places : ℕ) → first ≡ before → last ≡ after → after ≡ before + places
    → last - first ≡ places
entries_of first last before after places one two counted = omega (arith, one, two, counted)

-- a reply after all turns is an answer, with its entries counted and no failure
pub Answers-replied : (before after : DeskState) (moment : ℕ) (request : Request) (reply : HttpReply)
    (sealed : Option Digest) (old places : List Place) (first last : ℕ) (cut : Cut)
    → cut ≡ cut_of (last - first) false sealed → old ≡ [] → first ≡ before.made → last ≡ after.made
    → IsReplied before after (posed_of before.realm.served request) moment (closes request) reply sealed old places
    → (contents : List (List ℕ)) × Answers before after moment request contents (message_bytes reply) places cut
Answers-replied before after moment request reply sealed old places first last cut is_cut empty first_is last_is r =
    let told : places ≡ r.ran.places = r.ran.added ∙ ap (λ l. l ++ r.ran.places) empty in
    let count : last - first ≡ count_changed r.ran.places =
    entries_of first last before.made after.made (count_changed r.ran.places) first_is last_is r.ran.ran.counted in
    let contents : List (List ℕ) = r.contents in (
      contents,
      subst (λ k. Answers before after moment request contents (message_bytes reply) places k) (sym is_cut)
          (subst (λ ps. Answers before after moment request contents (message_bytes reply) ps
          (cut_of (last - first) false sealed)) (sym told) (inl (record {
            answer = r.answer;
            ran = r.ran.ran;
            carries = r.carries;
            bytes_are = r.bytes;
            entries = count;
            served = refl;
            sealed_is = r.sealed_is;
          }))),
    )

-- a stop for want of memory is answered by the fixed reply, with its entries counted
pub Answers-failed : (before after : DeskState) (moment : ℕ) (request : Request) (old places : List Place)
    (first last : ℕ) (cut : Cut) → cut ≡ cut_of (last - first) true None → old ≡ [] → first ≡ before.made
    → last ≡ after.made
    → StoppedWith before after (posed_script (posed_of before.realm.served request) moment) old places
    → (contents : List (List ℕ)) × Answers before after moment request contents
    (failed_reply (is_head request) (closes request)) places cut
Answers-failed before after moment request old places first last cut is_cut empty first_is last_is s =
    let told : places ≡ s.places = s.added ∙ ap (λ l. l ++ s.places) empty in
    let turns : List Place = places_of s.stopped.turns in
    let none : List (List ℕ) = [] in (
      none,
      subst (λ k. Answers before after moment request none (failed_reply (is_head request) (closes request)) places k)
          (sym is_cut) (inr (record {
            stopped = s.stopped;
            rest = s.rest;
            parts = s.parts ∙ ap (λ l. l ++ s.rest) (sym told);
            carries_none = refl;
            bytes_are = refl;
            entries = entries_of first last before.made after.made
                (count_changed turns) first_is last_is s.stopped.counted;
            failed = refl;
            none_sealed = refl;
          })),
    )
