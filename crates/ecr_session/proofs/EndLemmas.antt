-- How a session ends.
use Rattle.std.proofs.Common.{◌≡◌, ℕ, ◌<◌, ◌≤◌, ◌⊎◌, inl, inr, Bool, true, false, List, [], ◌++◌, length, refl, sym, subst, arith, append-nil}
use Rattle.std.proofs.KnownBytes.{Appends-trans, Consumes-trans}
use Rattle.std.specs.Io.KnownBytes.{Consumes, Appends, IsAtEnd}
use Rattle.ecr_model.specs.declared.http.Request.{Request}
use Rattle.ecr_model.specs.declared.outcome.End.{End}
use Rattle.ecr_model.specs.declared.outcome.End.TheVariants as ends
use Rattle.ecr_model.specs.declared.http.Section.{Section}
use Rattle.ecr_model.specs.http.Replies.{bad_reply, long_reply, continue_reply, interim}
use Rattle.ecr_desk.specs.Desks.{DeskState}
use Rattle.ecr_model.specs.sessions.Sessions.{Account, Outside, SettingOf, Exchange, Chain, CompletedBy, CutOffBy, Ends, IsUnspent, ServicedBy, last_words, max_read, ending_reply, requests_of, sent_to, stands}
use Rattle.ecr_model.specs.http.Stream.{Point, start, grown, Begins, StopsBy, Lacks, Tail, Ending, ended, closed, truncated, bad_at, long_at, more}
use Rattle.ecr_model.proofs.lemmas.http.StreamLemmas.{Begins-append, Begins-length}
use Rattle.ecr_http.specs.Reading.{Nexts, bytes_read}
use Rattle.ecr_http.specs.Reading as reading
use Rattle.ecr_http.specs.Sends.{Sends}
use Rattle.ecr_http.specs.declared.events.Event.TheVariants as events
use Rattle.ecr_http.specs.declared.write.Sent.TheVariants.{WriteFault}
use Rattle.ecr_session.specs.Serving.{SoFar, SendsLast, IsServedOver, ServesOver}

-- ---- what was read

-- the requests so far, where more was read
pub begins_grown : (read got : List ℕ) (requests : List Request) (point : Point) → Begins (start read) requests point
    → Begins (start (read ++ got)) requests (grown point got)
begins_grown read got requests point begins = Begins-append (start read) got requests point begins

-- no more bytes were read than may be
pub within_grown : (read got : List ℕ) (requests : List Request) (point : Point) → Begins (start read) requests point
    → bytes_read (grown point got) ≤ max_read → length (read ++ got) ≤ max_read
within_grown read got requests point begins within =
    omega (
      arith,
      within,
      Begins-length (start (read ++ got)) requests (grown point got)
          (begins_grown read got requests point begins),
    )

-- fewer bytes were read than may be
unspent_grown : (read got : List ℕ) (requests : List Request) (point : Point) → Begins (start read) requests point
    → bytes_read (grown point got) < max_read → length (read ++ got) < max_read
unspent_grown read got requests point begins within =
    omega (
      arith,
      within,
      Begins-length (start (read ++ got)) requests (grown point got)
          (begins_grown read got requests point begins),
    )

-- nothing was asked of the clock
serviced_kept : (set : SettingOf DeskState) (before mid after : Outside) (exchanges : List Exchange)
    (account : Account) (last : DeskState)
    → after.told ≡ mid.told → ServicedBy IsServedOver set before mid exchanges account last
    → ServicedBy IsServedOver set before after exchanges account last
serviced_kept set before mid after exchanges account last told s = record {
  says = s.says;
  served = subst (λ t. Chain IsServedOver (stands set set.first before.told) exchanges (stands set last t))
      (sym told) s.served;
}

-- ---- the ends of which all is known: all requests were answered, and this is what follows them

ends_by : (set : SettingOf DeskState) (before mid after : Outside) (point : Point) (account : Account)
    (last : DeskState) (s : SoFar set before mid point account last)
    (got : List ℕ) (over : Bool) (tail : Tail) (end : End) → point.closed ≡ false → after.told ≡ mid.told
    → Consumes mid.left after.left got
    → Lacks over (grown point got) tail → (over ≡ true → IsAtEnd after.left)
    → Appends mid.held after.held (last_words tail) → Ends end tail.ending (length (s.read ++ got))
    → bytes_read (grown point got) ≤ max_read → IsUnspent end tail.ending (length (s.read ++ got))
    → CompletedBy IsServedOver set before after account last end
ends_by set before mid after point account last s got over tail end opened told consumed lacks at_end sent fits within
    unspent = record {
      read = s.read ++ got;
      over = over;
      exchanges = s.exchanges;
      tail = tail;
      consumed = Consumes-trans before.left mid.left after.left s.read got s.consumed consumed;
      at_end = at_end;
      reads = record {
        point = grown point got;
        begins = begins_grown s.read got (requests_of s.exchanges) point s.begins;
        stops = subst (λ (shut : Bool). StopsBy shut over (grown point got) tail) (sym opened) lacks;
      };
      serviced = serviced_kept set before mid after s.exchanges account last told s.serviced;
      sent = Appends-trans before.held mid.held after.held (sent_to s.exchanges) (last_words tail) s.sent sent;
      ends = fits;
      within = within_grown s.read got (requests_of s.exchanges) point s.begins within;
      unspent = unspent;
    }

-- where nothing is replied to what follows
ends_silently : (set : SettingOf DeskState) (before mid after : Outside) (point : Point) (account : Account)
    (last : DeskState) (s : SoFar set before mid point account last)
    (got : List ℕ) (over : Bool) (ending : Ending) (end : End) → point.closed ≡ false → after.told ≡ mid.told
    → Consumes mid.left after.left got
    → reading.EndsAs over (grown point got) mid.held after.held ending → ending_reply ending ≡ []
    → (over ≡ true → IsAtEnd after.left) → Ends end ending (length (s.read ++ got))
    → bytes_read (grown point got) ≤ max_read → IsUnspent end ending (length (s.read ++ got))
    → CompletedBy IsServedOver set before after account last end
ends_silently set before mid after point account last s got over ending end opened told consumed shows none at_end fits
    within unspent =
    ends_by set before mid after point account last s got over
    (record { due = shows.0; ending = ending }) end opened told consumed shows.1 at_end
    (subst (λ l. Appends mid.held after.held (interim shows.0 ++ l)) (sym none)
    (subst (Appends mid.held after.held) (sym (append-nil (interim shows.0))) shows.2)) fits within unspent

not_over : {P : Type 0} → false ≡ true → P
not_over e = absurd (let no : false ≡ true = e in cc)

-- an input that ends between two requests ends the session with Whole
pub Serves-whole : (set : SettingOf DeskState) (before mid after : Outside) (point q : Point) (account : Account)
    (last : DeskState) → SoFar set before mid point account last
    → point.closed ≡ false → Nexts mid.left mid.held point after.left after.held q events.End → after.told ≡ mid.told
    → ServesOver set before after account last ends.Whole
Serves-whole set before mid after point q account last s opened n told =
    ends_silently set before mid after point account last s n.got true ended ends.Whole opened told n.consumed n.gives.0
    refl (λ e. n.gives.1) (inl refl) n.within
    (unspent_grown s.read n.got (requests_of s.exchanges) point s.begins n.unspent)

-- an input that ends within a request ends the session with Truncated
pub Serves-truncated : (set : SettingOf DeskState) (before mid after : Outside) (point q : Point) (account : Account)
    (last : DeskState) (at : ℕ) → SoFar set before mid point account last
    → point.closed ≡ false → Nexts mid.left mid.held point after.left after.held q (events.Truncated at)
    → after.told ≡ mid.told → ServesOver set before after account last (ends.Truncated at)
Serves-truncated set before mid after point q account last at s opened n told =
    ends_silently set before mid after point account last s n.got true (truncated at)
    (ends.Truncated at) opened told n.consumed n.gives.0 refl (λ e. n.gives.1) refl n.within
    (unspent_grown s.read n.got (requests_of s.exchanges) point s.begins n.unspent)

-- a read that fails ends the session with ReadFault
pub Serves-fault : (set : SettingOf DeskState) (before mid after : Outside) (point q : Point) (account : Account)
    (last : DeskState) → SoFar set before mid point account last
    → point.closed ≡ false → Nexts mid.left mid.held point after.left after.held q events.ReadFault
    → after.told ≡ mid.told → mid.read_faults < after.read_faults
    → ServesOver set before after account last ends.ReadFault
Serves-fault set before mid after point q account last s opened n told rose =
    let later = s.reads_later in (
      omega arith,
      ends_silently set before mid after point account last s n.got false more ends.ReadFault opened told n.consumed
          n.gives refl not_over refl n.within
          (unspent_grown s.read n.got (requests_of s.exchanges) point s.begins n.unspent),
    )

-- where all that may be read was read, the session ends with Spent
pub Serves-spent : (set : SettingOf DeskState) (before mid after : Outside) (point q : Point) (account : Account)
    (last : DeskState) → SoFar set before mid point account last
    → point.closed ≡ false → Nexts mid.left mid.held point after.left after.held q events.Spent
    → after.told ≡ mid.told → ServesOver set before after account last ends.Spent
Serves-spent set before mid after point q account last s opened n told =
    let all = Begins-length (start (s.read ++ n.got)) (requests_of s.exchanges) (grown point n.got)
    (begins_grown s.read n.got (requests_of s.exchanges) point s.begins) in
    let spent = n.gives.1 in
    let size : length (s.read ++ n.got) ≡ max_read = omega arith in
    ends_silently set before mid after point account last s n.got false more ends.Spent opened told n.consumed n.gives.0
    refl not_over (refl, size) n.within tt

-- ---- no memory

-- want of memory for a request ends the session with Mem
pub Serves-mem : (set : SettingOf DeskState) (before mid after : Outside) (point q : Point) (account : Account)
    (last : DeskState) → SoFar set before mid point account last
    → point.closed ≡ false → Nexts mid.left mid.held point after.left after.held q events.Mem → after.told ≡ mid.told
    → ServesOver set before after account last ends.Mem
Serves-mem set before mid after point q account last s opened n told = record {
  read = s.read ++ n.got;
  exchanges = s.exchanges;
  point = grown point n.got;
  within = within_grown s.read n.got (requests_of s.exchanges) point s.begins n.within;
  further = n.gives.0;
  consumed = Consumes-trans before.left mid.left after.left s.read n.got s.consumed n.consumed;
  begins = begins_grown s.read n.got (requests_of s.exchanges) point s.begins;
  goes_on = opened;
  serviced = serviced_kept set before mid after s.exchanges account last told s.serviced;
  told_to = n.gives.1;
  sent = Appends-trans before.held mid.held after.held (sent_to s.exchanges) n.gives.0 s.sent n.gives.2;
}

-- there was no room for what is said, and nothing was read
pub Serves-no_room : (set : SettingOf DeskState) (before mid : Outside) (point : Point) (account : Account)
    (last : DeskState) → SoFar set before mid point account last
    → point.closed ≡ false → ServesOver set before mid account last ends.Mem
Serves-no_room set before mid point account last s opened = record {
  read = s.read;
  exchanges = s.exchanges;
  point = point;
  within = s.within;
  further = [];
  consumed = s.consumed;
  begins = s.begins;
  goes_on = opened;
  serviced = s.serviced;
  told_to = inl refl;
  sent = subst (Appends before.held mid.held) (sym (append-nil (sent_to s.exchanges))) s.sent;
}

-- ---- a write that failed

-- the client was being told to go on
pub Serves-untold : (set : SettingOf DeskState) (before mid after : Outside) (point q : Point) (account : Account)
    (last : DeskState) → SoFar set before mid point account last
    → point.closed ≡ false → Nexts mid.left mid.held point after.left after.held q events.WriteFault
    → after.told ≡ mid.told → mid.write_faults < after.write_faults
    → ServesOver set before after account last ends.WriteFault
Serves-untold set before mid after point q account last s opened n told rose =
    let later = s.writes_later in
    let cut : Sends mid.held after.held continue_reply WriteFault = n.gives.1 in (
      omega arith,
      record {
        read = s.read ++ n.got;
        exchanges = s.exchanges;
        point = grown point n.got;
        done = sent_to s.exchanges;
        piece = continue_reply;
        taken = cut.0;
        lost = cut.1;
        some = cut.4;
        within = within_grown s.read n.got (requests_of s.exchanges) point s.begins n.within;
        consumed = Consumes-trans before.left mid.left after.left s.read n.got s.consumed n.consumed;
        begins = begins_grown s.read n.got (requests_of s.exchanges) point s.begins;
        serviced = serviced_kept set before mid after s.exchanges account last told s.serviced;
        is_last = inr (inl (opened, n.gives.0, refl, refl));
        parts = cut.2;
        sent = Appends-trans before.held mid.held after.held (sent_to s.exchanges) cut.0 s.sent cut.3;
      },
    )

-- ---- what is no request was replied to, or the reply was cut short

refused : (set : SettingOf DeskState) (before mid between after : Outside) (point : Point) (account : Account)
    (last : DeskState) (s : SoFar set before mid point account last)
    (got : List ℕ) (ending : Ending) (expected end : End) → point.closed ≡ false → Consumes mid.left after.left got
    → after.told ≡ mid.told
    → reading.EndsAs false (grown point got) mid.held between.held ending
    → SendsLast between.held after.held (ending_reply ending) expected end
    → Ends expected ending (length (s.read ++ got)) → bytes_read (grown point got) ≤ max_read
    → IsUnspent expected ending (length (s.read ++ got))
    → ((end ≡ expected) × CompletedBy IsServedOver set before after account last expected)
    ⊎ ((end ≡ ends.WriteFault) × CutOffBy IsServedOver set before after account last)
refused set before mid between after point account last s got ending expected end opened consumed told shows
    (inl done) fits within unspent =
    inl (
      done.0,
      ends_by set before mid after point account last s got false
          (record { due = shows.0; ending = ending }) expected opened told consumed shows.1 not_over
          (Appends-trans mid.held between.held after.held (interim shows.0)
          (ending_reply ending) shows.2 done.1) fits within unspent,
    )
refused set before mid between after point account last s got ending expected end opened consumed told shows
    (inr cut) fits within unspent =
    let tail : Tail = record { due = shows.0; ending = ending } in
    let begins = begins_grown s.read got (requests_of s.exchanges) point s.begins in
    let sends : Sends between.held after.held (ending_reply ending) WriteFault = cut.1 in
    inr (
      cut.0,
      record {
        read = s.read ++ got;
        exchanges = s.exchanges;
        point = grown point got;
        done = sent_to s.exchanges ++ interim shows.0;
        piece = ending_reply ending;
        taken = sends.0;
        lost = sends.1;
        some = sends.4;
        within = within_grown s.read got (requests_of s.exchanges) point s.begins within;
        consumed = Consumes-trans before.left mid.left after.left s.read got s.consumed consumed;
        begins = begins;
        serviced = serviced_kept set before mid after s.exchanges account last told s.serviced;
        is_last = inr (inr (
          false,
          tail,
          record {
            point = grown point got;
            begins = begins;
            stops = subst (λ (shut : Bool). StopsBy shut false (grown point got) tail) (sym opened) shows.1;
          },
          refl,
          refl,
        ));
        parts = sends.2;
        sent = Appends-trans before.held between.held after.held _ sends.0
            (Appends-trans before.held mid.held between.held (sent_to s.exchanges)
            (interim shows.0) s.sent shows.2) sends.3;
      },
    )

serves_refused : (set : SettingOf DeskState) (before mid after : Outside) (account : Account) (last : DeskState)
    (expected end : End)
    → (CompletedBy IsServedOver set before after account last expected
    → ServesOver set before after account last expected) → before.write_faults ≤ mid.write_faults
    → (end ≡ ends.WriteFault → mid.write_faults < after.write_faults)
    → ((end ≡ expected) × CompletedBy IsServedOver set before after account last expected)
    ⊎ ((end ≡ ends.WriteFault) × CutOffBy IsServedOver set before after account last)
    → ServesOver set before after account last end
serves_refused set before mid after account last expected end keep later cause (inl done) =
    subst (λ (e : End). ServesOver set before after account last e) (sym done.0) (keep done.1)
serves_refused set before mid after account last expected end keep later cause (inr cut) =
    let rose = cause cut.0 in
    subst (λ (e : End). ServesOver set before after account last e) (sym cut.0) (omega arith, cut.1)

-- bytes that are no request end the session with Bad, or with WriteFault where their reply is cut off
pub Serves-bad : (set : SettingOf DeskState) (before mid between after : Outside) (point q : Point)
    (account : Account) (last : DeskState) (at : ℕ) (end : End) → SoFar set before mid point account last
    → point.closed ≡ false → Nexts mid.left mid.held point between.left between.held q (events.Bad at)
    → after.left ≡ between.left → after.told ≡ mid.told
    → SendsLast between.held after.held bad_reply (ends.Bad at) end → mid.write_faults ≤ between.write_faults
    → (end ≡ ends.WriteFault → between.write_faults < after.write_faults)
    → ServesOver set before after account last end
Serves-bad set before mid between after point q account last at end s opened n left told sends later cause =
    let so_far = s.writes_later in
    serves_refused set before between after account last (ends.Bad at) end (λ done. done) (omega arith) cause
    (refused set before mid between after point account last s n.got (bad_at at) (ends.Bad at) end opened
    (subst (λ l. Consumes mid.left l n.got) (sym left) n.consumed) told n.gives sends refl n.within tt)

-- bytes past a limit end the session with TooLong, or with WriteFault where their reply is cut off
pub Serves-long : (set : SettingOf DeskState) (before mid between after : Outside) (point q : Point)
    (account : Account) (last : DeskState) (at : ℕ) (section : Section) (limit : ℕ) (end : End)
    → SoFar set before mid point account last
    → point.closed ≡ false → Nexts mid.left mid.held point between.left between.held q (events.TooLong at section limit)
    → after.left ≡ between.left → after.told ≡ mid.told
    → SendsLast between.held after.held (long_reply section) (ends.TooLong at limit) end
    → mid.write_faults ≤ between.write_faults → (end ≡ ends.WriteFault → between.write_faults < after.write_faults)
    → ServesOver set before after account last end
Serves-long set before mid between after point q account last at section limit end s opened n left told sends
    later cause =
    let so_far = s.writes_later in
    serves_refused set before between after account last (ends.TooLong at limit) end (λ done. done) (omega arith) cause
    (refused set before mid between after point account last s n.got (long_at at section limit)
    (ends.TooLong at limit) end opened
    (subst (λ l. Consumes mid.left l n.got) (sym left) n.consumed) told n.gives sends (section, refl) n.within tt)

-- ---- the last request closes the session

-- after a request that closes it, the session has ended with Whole
pub Completed-closed : (set : SettingOf DeskState) (before after : Outside) (point : Point) (account : Account)
    (last : DeskState) → SoFar set before after point account last → point.closed ≡ true
    → CompletedBy IsServedOver set before after account last ends.Whole
unfolding interim
Completed-closed set before after point account last s shut =
    let tail : Tail = record { due = false; ending = closed } in
    record {
      read = s.read;
      over = false;
      exchanges = s.exchanges;
      tail = tail;
      consumed = s.consumed;
      at_end = not_over;
      reads = record {
        point = point;
        begins = s.begins;
        stops = subst (λ (c : Bool). StopsBy c false point tail) (sym shut) refl;
      };
      serviced = s.serviced;
      sent = subst (Appends before.held after.held) (sym (append-nil (sent_to s.exchanges))) s.sent;
      ends = inr refl;
      within = s.within;
      unspent = tt;
    }
