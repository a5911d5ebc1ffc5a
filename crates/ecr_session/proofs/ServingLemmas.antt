-- How a session goes on, request after request.
use Rattle.std.proofs.Common.{◌≡◌, ℕ, ◌+◌, ◌<◌, ◌≤◌, inl, inr, false, List, [], ◌∷◌, ◌++◌, map, refl, sym, ap, ◌∙◌, subst, arith, None, Some, Option}
use Rattle.std.proofs.KnownBytes.{Appends-trans, Consumes-trans}
use Rattle.std.proofs.lemmas.List.{map-append}
use Rattle.std.proofs.lemmas.List.Sums.{sum_by_push}
use Rattle.std.specs.Io.KnownBytes.{Consumes, Appends}
use Rattle.ecr_model.specs.declared.http.Request.{Request}
use Rattle.ecr_model.specs.declared.registry.journal.Place.{Place}
use Rattle.ecr_model.specs.declared.outcome.Cut.{Cut}
use Rattle.ecr_model.specs.declared.outcome.End.{End}
use Rattle.ecr_model.specs.declared.outcome.End.TheVariants as ends
use Rattle.ecr_model.specs.http.Replies.{interim, is_head}
use Rattle.ecr_model.specs.sessions.Sessions.{Account, Outside, SettingOf, Exchange, StandingOf, CutOffBy, IsTime, ServicedBy, account_of, answer_to, is_waiting, requests_of, sent_to, stands}
use Rattle.ecr_model.specs.http.Stream.{Point, start, closes, grown, past_request, Begins}
use Rattle.ecr_model.proofs.lemmas.sessions.SessionLemmas.{Chain-more, sent_to-more}
use Rattle.ecr_model.proofs.lemmas.http.StreamLemmas.{Begins-more}
use Rattle.ecr_desk.specs.Desks.{DeskState}
use Rattle.ecr_http.specs.Reading.{Nexts}
use Rattle.ecr_http.specs.Sends.{Sends}
use Rattle.ecr_http.specs.declared.events.Event.TheVariants as events
use Rattle.ecr_http.specs.declared.reply.HttpReply.{HttpReply}
use Rattle.ecr_http.specs.declared.write.Sent.{Sent}
use Rattle.ecr_http.specs.declared.write.Sent.TheVariants.{Done, WriteFault}
use Rattle.ecr_model.specs.registry.Scripts.{count_changed}
use Rattle.ecr_session.specs.Accounts.{entries_in, noted}
use Rattle.ecr_session.specs.Serving.{SoFar, HasCome, GoesOn, AddsExchange, Answers, IsServedOver, ServesRequest, reply_bytes, standing_of, with_exchange}
use Rattle.ecr_session.proofs.EndLemmas.{begins_grown, within_grown, Completed-closed}

-- ---- a request

-- the account of exchanges and one more
account_of-more : (es : List Exchange) (e : Exchange) → account_of (es ++ e ∷ []) ≡ with_exchange (account_of es) e
account_of-more es e =
    ap (λ l. record {
      moments = l;
      places = map (λ x. x.places) (es ++ e ∷ []);
      cuts = map (λ x. x.cut) (es ++ e ∷ []);
    }) (map-append (λ (x : Exchange). x.moment) es (e ∷ []))
    ∙ ap (λ l. record {
      moments = map (λ x. x.moment) es ++ e.moment ∷ [];
      places = l;
      cuts = map (λ x. x.cut) (es ++ e ∷ []);
    }) (map-append (λ (x : Exchange). x.places) es (e ∷ []))
    ∙ ap (λ l. record {
      moments = map (λ x. x.moment) es ++ e.moment ∷ [];
      places = map (λ x. x.places) es ++ e.places ∷ [];
      cuts = l;
    })
    (map-append (λ (x : Exchange). x.cut) es (e ∷ []))

-- the requests of exchanges and one more
requests_of-more : (es : List Exchange) (e : Exchange) (request : Request) → e.request ≡ request
    → requests_of (es ++ e ∷ []) ≡ requests_of es ++ request ∷ []
requests_of-more es e request is =
    map-append (λ (x : Exchange). x.request) es (e ∷ []) ∙ ap (λ r. requests_of es ++ r ∷ []) is

-- the step of an exchange, between standings of the setting
step_in : (set : SettingOf DeskState) (mid between after : Outside) (seen later : DeskState) (e : Exchange)
    → seen.realm ≡ set.realm → between.told ≡ mid.told
    → IsServedOver (standing_of set.fixed between seen) e (standing_of set.fixed after later)
    → IsServedOver (stands set seen mid.told) e (stands set later after.told)
step_in set mid between after seen later e realm told v =
    let first : standing_of set.fixed between seen ≡ stands set seen mid.told =
    ap (λ r. record { realm = r; world = seen; fixed = set.fixed; told = between.told }) realm
    ∙ ap (λ t. record { realm = set.realm; world = seen; fixed = set.fixed; told = t }) told in
    let last : standing_of set.fixed after later ≡ stands set later after.told =
    ap (λ r. record { realm = r; world = later; fixed = set.fixed; told = after.told }) (v.realm_stays ∙ realm) in
    subst (λ (s : StandingOf DeskState). IsServedOver (stands set seen mid.told) e s) last
    (subst (λ (s : StandingOf DeskState). IsServedOver s e (standing_of set.fixed after later)) first v)

-- one request more was serviced
serviced_more : (set : SettingOf DeskState) (before mid between after : Outside) (es : List Exchange) (e : Exchange)
    (account : Account) (seen later : DeskState)
    → seen.realm ≡ set.realm → between.told ≡ mid.told → ServicedBy IsServedOver set before mid es account seen
    → IsServedOver (standing_of set.fixed between seen) e (standing_of set.fixed after later)
    → ServicedBy IsServedOver set before after (es ++ e ∷ []) (with_exchange account e) later
serviced_more set before mid between after es e account seen later realm told s v = record {
  says = ap (λ a. with_exchange a e) s.says ∙ sym (account_of-more es e);
  served = Chain-more IsServedOver (stands set set.first before.told) (stands set seen mid.told)
      (stands set later after.told) es e s.served
      (step_in set mid between after seen later e realm told v);
}

-- the requests so far, and the one that was answered
begins_more : (read got : List ℕ) (es : List Exchange) (e : Exchange) (point : Point) (request : Request) (n : ℕ)
    → e.request ≡ request
    → Begins (start (read ++ got)) (requests_of es ++ request ∷ []) (past_request (grown point got) request n)
    → Begins (start (read ++ got)) (requests_of (es ++ e ∷ [])) (past_request (grown point got) request n)
begins_more read got es e point request n is begins =
    subst (λ (rs : List Request). Begins (start (read ++ got)) rs (past_request (grown point got) request n))
    (sym (requests_of-more es e request is)) begins

-- the entries of exchanges and one more
entries_more : (account : Account) (e : Exchange)
    → entries_in (with_exchange account e).cuts ≡ entries_in account.cuts + e.cut.entries
entries_more account e = sum_by_push (λ (c : Cut). c.entries) account.cuts e.cut

-- a cut has the entries that were added
Answers-counted : (before after : DeskState) (moment : ℕ) (request : Request) (contents : List (List ℕ))
    (bytes : List ℕ) (places : List Place) (cut : Cut)
    → Answers before after moment request contents bytes places cut → after.made ≡ before.made + cut.entries
Answers-counted before after moment request contents bytes places cut (inl a) =
    a.ran.counted ∙ ap (λ n. before.made + n) (sym a.entries)
Answers-counted before after moment request contents bytes places cut (inr f) =
    f.stopped.counted ∙ ap (λ n. before.made + n) (sym f.entries)

-- the entries of a session and of the request that it served
counted_more : (first seen later : DeskState) (account : Account) (e : Exchange)
    → seen.made ≡ first.made + entries_in account.cuts
    → Answers seen later e.moment e.request e.contents e.bytes e.places e.cut
    → later.made ≡ first.made + entries_in (with_exchange account e).cuts
counted_more first seen later account e so_far answers =
    let more = Answers-counted seen later e.moment e.request e.contents e.bytes e.places e.cut answers in
    omega (arith, so_far, more, entries_more account e)

-- the sites and limits stay
Answers-realm : (before after : DeskState) (moment : ℕ) (request : Request) (contents : List (List ℕ))
    (bytes : List ℕ) (places : List Place) (cut : Cut)
    → Answers before after moment request contents bytes places cut → after.realm ≡ before.realm
Answers-realm before after moment request contents bytes places cut (inl a) = a.ran.realm_stays
Answers-realm before after moment request contents bytes places cut (inr f) = f.stopped.realm_stays

-- an answer, with its moment and its reply as bytes, is an exchange
pub AddsExchange-by : (stands : Account → Type 0) (fixed : Option ℕ) (request : Request) (before after : Outside)
    (account : Account) (seen later : DeskState) (sent : Sent)
    (moment : ℕ) (reply : Option HttpReply) (places : List Place) (cut : Cut)
    → IsTime fixed before.told after.told moment
    → ((contents : List (List ℕ)) × Answers seen later moment request contents
    (reply_bytes (is_head request) (closes request) reply) places cut)
    → stands (noted account moment places cut) → after.left ≡ before.left
    → Sends before.held after.held (reply_bytes (is_head request) (closes request) reply) sent
    → AddsExchange stands fixed request before account seen after later sent
AddsExchange-by stands fixed request before after account seen later sent moment reply places cut timed a added left
    sends =
    let bytes : List ℕ = reply_bytes (is_head request) (closes request) reply in
    record {
      exchange = record {
        request = request;
        moment = moment;
        places = places;
        cut = cut;
        contents = a.0;
        bytes = bytes;
      };
      request_is = refl;
      served = record {
        realm_stays = Answers-realm seen later moment request a.0 bytes places cut a.1;
        fixed_stays = refl;
        timed = timed;
        answers = a.1;
      };
      added = added;
      left = left;
      sends = sends;
    }

-- all of the reply was sent
HasCome-serviced : (stands : Account → Type 0) (set : SettingOf DeskState) (before mid between after : Outside)
    (point read : Point) (account : Account) (seen later : DeskState) (request : Request)
    → HasCome set before mid point account seen
    → point.closed ≡ false → Nexts mid.left mid.held point between.left between.held read (events.Request request)
    → between.told ≡ mid.told
    → (v : AddsExchange stands set.fixed request between account seen after later Done)
    → mid.read_faults ≤ after.read_faults → mid.write_faults ≤ after.write_faults
    → HasCome set before after read (with_exchange account v.exchange) later
HasCome-serviced stands set before mid between after point read account seen later request come opened n told v reads
    writes =
    let s = come.so_far in
    let es = s.exchanges in
    let e = v.exchange in
    let reads_so_far = s.reads_later in
    let writes_so_far = s.writes_later in
    let due = interim (is_waiting request) in
    let answer : Appends mid.held after.held (answer_to e) =
    subst (λ (r : Request). Appends mid.held after.held (interim (is_waiting r) ++ e.bytes)) (sym v.request_is)
    (Appends-trans mid.held between.held after.held due e.bytes n.gives.3 v.sends) in
    record {
      realm_stays = v.served.realm_stays ∙ come.realm_stays;
      counted = counted_more set.first seen later account e come.counted v.served.answers;
      so_far = record {
        read = s.read ++ n.got;
        exchanges = es ++ e ∷ [];
        within = within_grown s.read n.got (requests_of es) point s.begins n.within;
        consumed = subst (λ l. Consumes before.left l (s.read ++ n.got)) (sym v.left)
            (Consumes-trans before.left mid.left between.left s.read n.got s.consumed n.consumed);
        begins = subst (λ (x : Point). Begins (start (s.read ++ n.got)) (requests_of (es ++ e ∷ [])) x)
            (sym n.gives.2)
            (begins_more s.read n.got es e point request n.gives.0 v.request_is
            (Begins-more (start (s.read ++ n.got)) (requests_of es) (grown point n.got) request n.gives.0
            (begins_grown s.read n.got (requests_of es) point s.begins) opened n.gives.1));
        serviced = serviced_more set before mid between after es e
            account seen later come.realm_stays told s.serviced v.served;
        sent = subst (Appends before.held after.held) (sym (sent_to-more es e))
            (Appends-trans before.held mid.held after.held (sent_to es) (answer_to e) s.sent answer);
        reads_later = omega arith;
        writes_later = omega arith;
      };
    }

-- a part of the reply was sent
CutOff-serviced : (stands : Account → Type 0) (set : SettingOf DeskState) (before mid between after : Outside)
    (point read : Point) (account : Account) (seen later : DeskState) (request : Request)
    → HasCome set before mid point account seen
    → point.closed ≡ false → Nexts mid.left mid.held point between.left between.held read (events.Request request)
    → between.told ≡ mid.told
    → (v : AddsExchange stands set.fixed request between account seen after later WriteFault)
    → CutOffBy IsServedOver set before after (with_exchange account v.exchange) later
CutOff-serviced stands set before mid between after point read account seen later request come opened n told v =
    let s = come.so_far in
    let es = s.exchanges in
    let e = v.exchange in
    let due = interim (is_waiting request) in
    let sends : Sends between.held after.held e.bytes WriteFault = v.sends in
    record {
      read = s.read ++ n.got;
      exchanges = es ++ e ∷ [];
      point = past_request (grown point n.got) request n.gives.0;
      done = sent_to es ++ due;
      piece = e.bytes;
      taken = sends.0;
      lost = sends.1;
      some = sends.4;
      within = within_grown s.read n.got (requests_of es) point s.begins n.within;
      consumed = subst (λ l. Consumes before.left l (s.read ++ n.got)) (sym v.left)
          (Consumes-trans before.left mid.left between.left s.read n.got s.consumed n.consumed);
      begins = begins_more s.read n.got es e point request n.gives.0 v.request_is
          (Begins-more (start (s.read ++ n.got)) (requests_of es) (grown point n.got) request n.gives.0
          (begins_grown s.read n.got (requests_of es) point s.begins) opened n.gives.1);
      serviced = serviced_more set before mid between after es e
          account seen later come.realm_stays told s.serviced v.served;
      is_last = inl (es, e, refl, ap (λ (r : Request). sent_to es ++ interim (is_waiting r)) (sym v.request_is), refl);
      parts = sends.2;
      sent = Appends-trans before.held between.held after.held (sent_to es ++ due) sends.0
          (Appends-trans before.held mid.held between.held (sent_to es) due s.sent n.gives.3) sends.3;
    }

-- a request that was read and served leads the session on, or ends it
pub GoesOn-request : (stands : Account → Type 0) (set : SettingOf DeskState) (before mid between after : Outside)
    (point read now : Point) (account : Account) (seen later : DeskState) (request : Request) (end : Option End)
    → HasCome set before mid point account seen
    → point.closed ≡ false → Nexts mid.left mid.held point between.left between.held read (events.Request request)
    → between.told ≡ mid.told → now ≡ read
    → ServesRequest stands set.fixed request between account seen after later end
    → mid.read_faults ≤ after.read_faults → mid.write_faults ≤ between.write_faults
    → between.write_faults ≤ after.write_faults
    → (end ≡ Some ends.WriteFault → between.write_faults < after.write_faults)
    → GoesOn stands set before after now later end
GoesOn-request stands set before mid between after point read now account seen later request None come opened n told
    same v reads told_later writes cause = (
      with_exchange account v.0.exchange,
      v.0.added,
      subst (λ (p : Point). HasCome set before after p (with_exchange account v.0.exchange) later) (sym same)
          (HasCome-serviced stands set before mid between after point read account seen later request come opened n told
          v.0 reads (omega arith)),
      ap (λ (x : Point). x.closed) (same ∙ n.gives.2) ∙ v.1,
    )
GoesOn-request stands set before mid between after point read now account seen later request
    (Some ends.Whole) come opened n told same v reads told_later writes cause =
    let on = HasCome-serviced stands set before mid between after point read account seen later request come opened n
    told v.0 reads (omega arith) in (
      with_exchange account v.0.exchange,
      v.0.added,
      record {
        realm_stays = on.realm_stays;
        counted = on.counted;
        serves = Completed-closed set before after read (with_exchange account v.0.exchange) later on.so_far
            (ap (λ (x : Point). x.closed) n.gives.2 ∙ v.1);
      },
    )
GoesOn-request stands set before mid between after point read now account seen later request
    (Some ends.WriteFault) come opened n told same v reads told_later writes cause =
    let rose = cause refl in
    let so_far = come.so_far.writes_later in (
      with_exchange account v.exchange,
      v.added,
      record {
        realm_stays = v.served.realm_stays ∙ come.realm_stays;
        counted = counted_more set.first seen later account v.exchange come.counted v.served.answers;
        serves = (
          omega arith,
          CutOff-serviced stands set before mid between after point read account seen later request come
              opened n told v,
        );
      },
    )
GoesOn-request stands set before mid between after point read now account seen later request
    (Some _) come opened n told same v reads told_later writes cause = absurd v
