-- What holds of each session.
use Rattle.std.specs.Prelude.{◌≡◌, ℕ, Bool, List, [], ◌∷◌, ◌++◌, length, map, None, Some}
use Rattle.std.specs.Io.KnownBytes.{Appends}
use Rattle.ecr_model.specs.declared.http.Request.{Request}
use Rattle.ecr_model.specs.declared.registry.journal.Place.{Place}
use Rattle.ecr_model.specs.declared.outcome.End.{End}
use Rattle.ecr_model.specs.declared.outcome.End.TheVariants as ends
use Rattle.ecr_model.specs.http.Stream.{Tail, Reads}
use Rattle.ecr_model.specs.registry.Scripts.{World}
use Rattle.ecr_model.specs.sessions.Sessions.{last_words, Ends, Outside, Account, Setting, Standing, Exchange, AreServed, account_of, requests_of, sent_to, Serviced, Completed}
use Rattle.ecr_model.specs.registry.Soundness.{AreFresh, AreSound}

-- all that a session writes
abbrev pub output_of : List Exchange → Tail → List ℕ
output_of exchanges tail = sent_to exchanges ++ last_words tail

-- an end that the bytes of the whole input decide
abbrev pub IsOfInput : End → Type 0
IsOfInput ends.Whole = Unit {0}
IsOfInput (ends.Truncated at) = Unit {0}
IsOfInput (ends.Bad at) = Unit {0}
IsOfInput (ends.TooLong at limit) = Unit {0}
IsOfInput _ = ⊥

-- an end that the bytes that were read decide: also that all that may be read were read
abbrev pub IsOfRead : End → Type 0
IsOfRead ends.Whole = Unit {0}
IsOfRead (ends.Truncated at) = Unit {0}
IsOfRead (ends.Bad at) = Unit {0}
IsOfRead (ends.TooLong at limit) = Unit {0}
IsOfRead ends.Spent = Unit {0}
IsOfRead _ = ⊥

-- both say the same of each request: its moment and its cut
pub record AreAlike (one other : List Exchange) : Type 0 where
  pub moments : map (λ e. e.moment) one ≡ map (λ e. e.moment) other
  pub cuts : map (λ e. e.cut) one ≡ map (λ e. e.cut) other

-- the bytes that were read decide the requests, how the bytes go on, what is written to requests of these moments and
-- cuts, the journals that are left, and the end, where it isn't one of the machine's
abbrev pub OutputIsDetermined : Type 0
OutputIsDetermined =
    (first last other : Standing) (exchanges others : List Exchange) (read : List ℕ) (over : Bool)
    (tail end_of_others : Tail)
    → AreServed first exchanges last → AreServed first others other → AreAlike exchanges others
    → Reads read over (requests_of exchanges) tail → Reads read over (requests_of others) end_of_others
    → (requests_of exchanges ≡ requests_of others) × (tail ≡ end_of_others)
    × (output_of exchanges tail ≡ output_of others end_of_others) × (last.world ≡ other.world)
    × ((end another : End) → IsOfRead end → IsOfRead another
    → Ends end tail.ending (length read) → Ends another end_of_others.ending (length read) → end ≡ another)

-- where the source told the whole input at the start, and the session's end is one that an input decides, it is the
-- end that this input decides: each of its requests was answered, and the sink got all that is written to them and the
-- last words. The session may have stopped before the input's end, where nothing further counts, and read no more
abbrev pub TheInputDecidesTheEnd : Type 0
TheInputDecidesTheEnd =
    (set : Setting) (before after : Outside) (account : Account) (left : World) (end : End)
    (input : List ℕ) (requests : List Request) (tail : Tail)
    → before.left ≡ Some input → Completed set before after account left end → IsOfInput end
    → Reads input Bool.true requests tail
    → Ends end tail.ending (length input)
    × ((exchanges : List Exchange) × (requests_of exchanges ≡ requests)
    × Serviced set before after exchanges account left
    × Appends before.held after.held (output_of exchanges tail))

-- where no moment is fixed, the moments of the exchanges are those that the clock gave meanwhile
abbrev pub TheClockTellsTheMoments : Type 0
TheClockTellsTheMoments = (first last : Standing) (exchanges : List Exchange)
    → AreServed first exchanges last → first.fixed ≡ None
    → Appends first.told last.told (map (λ e. e.moment) exchanges)

-- where a moment is fixed, it is that of each exchange
abbrev pub AFixedMomentIsEach : Type 0
AFixedMomentIsEach = (first last : Standing) (exchanges : List Exchange) (moment : ℕ)
    → AreServed first exchanges last → first.fixed ≡ Some moment
    → map (λ e. e.moment) exchanges ≡ map (λ e. moment) exchanges

-- the places of all requests, one after another
abbrev pub all_places : List (List Place) → List Place
all_places [] = []
all_places (places ∷ rest) = places ++ all_places rest

-- sound journals are sound after a session's requests too
abbrev pub SessionsKeepJournalsSound : Type 0
SessionsKeepJournalsSound = (first last : Standing) (exchanges : List Exchange)
    → AreServed first exchanges last → AreSound first.realm first.world.journals
    → AreSound last.realm last.world.journals

-- over sound journals each place of a session is above all tickets that stood in its cell before the session, and the
-- tickets of one cell don't fall
abbrev pub PlacesAreFresh : Type 0
PlacesAreFresh = (first last : Standing) (exchanges : List Exchange)
    → AreServed first exchanges last → AreSound first.realm first.world.journals
    → AreFresh first.world.journals (all_places (account_of exchanges).places)
