-- What the bytes of a session decide: what is written, and how it ends.
use Rattle.std.proofs.Common.{◌≡◌, ℕ, ◌⊎◌, inl, inr, Bool, true, false, List, [], ◌++◌, length, Option, Some, None, refl, sym, ap, ◌∙◌, subst, ⊎_elim, append-nil}
use Rattle.std.specs.Io.KnownBytes.{Consumes, Appends, IsAtEnd}
use Rattle.ecr_model.specs.declared.http.Request.{Request}
use Rattle.ecr_model.specs.declared.outcome.End.{End}
use Rattle.ecr_model.specs.declared.outcome.End.TheVariants as ends
use Rattle.ecr_model.specs.http.Stream.{Lack, bad, too_long, open_, Front, whole, short, Point, past_blank, Ending, Tail, ended, closed, truncated, bad_at, long_at, more, ending_of, tail_of, StopsBy, Reads}
use Rattle.ecr_model.specs.laws.StreamLaws.{is_last}
use Rattle.ecr_model.specs.registry.Scripts.{World}
use Rattle.ecr_model.specs.sessions.Sessions.{Ends, Outside, Account, Setting, Completed, requests_of, sent_to, last_words}
use Rattle.ecr_model.specs.laws.SessionLaws.{output_of, IsOfInput, IsOfRead, OutputIsDetermined, TheInputDecidesTheEnd}
use Rattle.ecr_model.proofs.lemmas.sessions.SessionLemmas.{AreServed-same}
use Rattle.ecr_model.proofs.lemmas.http.StreamLemmas.{Reads-unique, Reads-last}

-- ---- one end for one ending

end_like : Ending → End
end_like ended = ends.Whole
end_like closed = ends.Whole
end_like (truncated at) = ends.Truncated at
end_like (bad_at at) = ends.Bad at
end_like (long_at at section limit) = ends.TooLong at limit
end_like more = ends.Spent

end_is : (end : End) (ending : Ending) (size : ℕ) → IsOfRead end → Ends end ending size → end ≡ end_like ending
unfolding end_like
end_is ends.Whole ending size d x =
    ⊎_elim (λ (e : ending ≡ ended). sym (ap end_like e)) (λ (e : ending ≡ closed). sym (ap end_like e)) x
end_is (ends.Truncated at) ending size d x = sym (ap end_like x)
end_is (ends.Bad at) ending size d x = sym (ap end_like x)
end_is (ends.TooLong at limit) ending size d x = sym (ap end_like x.1)
end_is ends.Spent ending size d x = sym (ap end_like x.0)
end_is ends.Usage ending size d x = absurd d
end_is ends.ReadFault ending size d x = absurd d
end_is ends.WriteFault ending size d x = absurd d
end_is ends.Mem ending size d x = absurd d
end_is ends.AcceptFault ending size d x = absurd d

-- the bytes read, the moments and the cuts decide what a session writes and leaves
pub output_is_determined : OutputIsDetermined
output_is_determined first last other exchanges others read over tail ending served again alike reads too =
    let same : (requests_of exchanges ≡ requests_of others) × (tail ≡ ending) =
    Reads-unique read over (requests_of exchanges) (requests_of others) tail ending reads too in
    let bytes : (sent_to exchanges ≡ sent_to others) × (last.world ≡ other.world) =
    AreServed-same first first last other exchanges others refl refl served again same.0 alike.moments alike.cuts in (
      same.0,
      same.1,
      ap (λ l. l ++ last_words tail) bytes.0 ∙ ap (λ t. output_of others t) same.1,
      bytes.1,
      λ end another d e x y.
          end_is end tail.ending (length read) d x ∙ ap (λ (t : Tail). end_like t.ending) same.1
          ∙ sym (end_is another ending.ending (length read) e y),
    )

-- ---- the endings that only the end of the input gives

abbrev needs_end : Ending → Bool
needs_end ended = true
needs_end closed = false
needs_end (truncated at) = true
needs_end (bad_at at) = false
needs_end (long_at at section limit) = false
needs_end more = false

lack_over : (over : Bool) (p : Point) (lack : Lack) → needs_end (ending_of over p lack) ≡ true → over ≡ true
lack_over true p lack needs = refl
lack_over false p bad needs = absurd (cc)
lack_over false p (too_long section limit) needs = absurd (cc)
lack_over false p open_ needs = absurd (cc)

tail_over : (over : Bool) (p : Point) (front : Front) (tail : Tail) → tail_of over p front ≡ Some tail
    → needs_end tail.ending ≡ true → over ≡ true
tail_over over p (whole r n) tail is needs = absurd (cc)
tail_over over p (short due lack) tail is needs =
    let same : record { due = due; ending = ending_of over p lack } ≡ tail = cc in
    lack_over over p lack (ap (λ (t : Tail). needs_end t.ending) same ∙ needs)

stops_over : (shut over : Bool) (p : Point) (tail : Tail) → StopsBy shut over p tail → needs_end tail.ending ≡ true
    → over ≡ true
stops_over true over p tail stops needs =
    let none : needs_end closed ≡ true = sym (ap (λ (t : Tail). needs_end t.ending) stops) ∙ needs in absurd (cc)
stops_over false over p tail stops needs = tail_over over (past_blank p) stops.front tail stops.is needs

-- where the bytes end so, the input has ended
pub Reads-over : (bytes : List ℕ) (over : Bool) (rs : List Request) (tail : Tail) → Reads bytes over rs tail
    → needs_end tail.ending ≡ true → over ≡ true
Reads-over bytes over rs tail reads needs = stops_over reads.point.closed over reads.point tail reads.stops needs

-- ---- what was read is the front of the input

-- where the input is known, what was read is its front, and the rest is left
pub Consumes-front : (before after : Option (List ℕ)) (input read : List ℕ) → before ≡ Some input
    → Consumes before after read
    → (rest : List ℕ) × (after ≡ Some rest) × (input ≡ read ++ rest)
Consumes-front None after input read is consumed = absurd (cc)
Consumes-front (Some xs) None input read is consumed = absurd consumed
Consumes-front (Some xs) (Some ys) input read is consumed =
    let same : xs ≡ input = cc in (ys, refl, sym same ∙ consumed)

-- what was read decides the reading of the whole input: it shows the last that counts, or it is all of the input
reads_input : (input read rest : List ℕ) (over : Bool) (after : Option (List ℕ)) (rs : List Request) (tail : Tail)
    → after ≡ Some rest → input ≡ read ++ rest → (over ≡ true → IsAtEnd after) → Reads read over rs tail
    → (is_last tail.ending ≡ true) ⊎ (needs_end tail.ending ≡ true) → Reads input true rs tail
reads_input input read rest over after rs tail left is at_end reads (inl last) =
    subst (λ (b : List ℕ). Reads b true rs tail) (sym is) (Reads-last read rest over true rs tail last reads)
reads_input input read rest over after rs tail left is at_end reads (inr needs) =
    let finished : over ≡ true = Reads-over read over rs tail reads needs in
    let nothing : rest ≡ [] = subst IsAtEnd left (at_end finished) in
    let all : read ≡ input = sym (append-nil read) ∙ ap (λ (l : List ℕ). read ++ l) (sym nothing) ∙ sym is in
    subst (λ (b : List ℕ). Reads b true rs tail) all (subst (λ (o : Bool). Reads read o rs tail) finished reads)

-- such an end is one of the two
end_shows : (end : End) (ending : Ending) (size : ℕ) → IsOfInput end → Ends end ending size
    → (is_last ending ≡ true) ⊎ (needs_end ending ≡ true)
end_shows ends.Whole ending size d x =
    ⊎_elim (λ (e : ending ≡ ended). inr (ap needs_end e)) (λ (e : ending ≡ closed). inl (ap is_last e)) x
end_shows (ends.Truncated at) ending size d x = inr (ap needs_end x)
end_shows (ends.Bad at) ending size d x = inl (ap is_last x)
end_shows (ends.TooLong at limit) ending size d x = inl (ap is_last x.1)
end_shows ends.Usage ending size d x = absurd d
end_shows ends.ReadFault ending size d x = absurd d
end_shows ends.WriteFault ending size d x = absurd d
end_shows ends.Mem ending size d x = absurd d
end_shows ends.AcceptFault ending size d x = absurd d
end_shows ends.Spent ending size d x = absurd d

-- and says nothing of how many bytes were read
Ends_any_size : (end : End) (ending : Ending) (size other : ℕ) → IsOfInput end → Ends end ending size
    → Ends end ending other
Ends_any_size ends.Whole ending size other d x = x
Ends_any_size (ends.Truncated at) ending size other d x = x
Ends_any_size (ends.Bad at) ending size other d x = x
Ends_any_size (ends.TooLong at limit) ending size other d x = x
Ends_any_size ends.Usage ending size other d x = absurd d
Ends_any_size ends.ReadFault ending size other d x = absurd d
Ends_any_size ends.WriteFault ending size other d x = absurd d
Ends_any_size ends.Mem ending size other d x = absurd d
Ends_any_size ends.AcceptFault ending size other d x = absurd d
Ends_any_size ends.Spent ending size other d x = absurd d

-- the session's reading is the input's
pub Completed-reads_input : (set : Setting) (before after : Outside) (account : Account) (left : World) (end : End)
    (input : List ℕ)
    → before.left ≡ Some input → (done : Completed set before after account left end) → IsOfInput end
    → Reads input true (requests_of done.exchanges) done.tail
Completed-reads_input set before after account left end input told done d =
    let front : (rest : List ℕ) × (after.left ≡ Some rest) × (input ≡ done.read ++ rest) =
    Consumes-front before.left after.left input done.read told done.consumed in
    reads_input input done.read front.0 done.over after.left
    (requests_of done.exchanges) done.tail front.1 front.2 done.at_end done.reads
    (end_shows end done.tail.ending (length done.read) d done.ends)

-- a session whose end an input decides ends as that input says
pub the_input_decides_the_end : TheInputDecidesTheEnd
the_input_decides_the_end set before after account left end input requests tail told done d reads =
    let mine : Reads input true (requests_of done.exchanges) done.tail =
    Completed-reads_input set before after account left end input told done d in
    let same : (requests_of done.exchanges ≡ requests) × (done.tail ≡ tail) =
    Reads-unique input true (requests_of done.exchanges) requests done.tail tail mine reads in (
      subst (λ (t : Tail). Ends end t.ending (length input)) same.1
          (Ends_any_size end done.tail.ending (length done.read) (length input) d done.ends),
      (
        done.exchanges,
        same.0,
        done.serviced,
        subst (λ (t : Tail). Appends before.held after.held (output_of done.exchanges t)) same.1 done.sent,
      ),
    )
