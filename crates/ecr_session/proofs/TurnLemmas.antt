-- One script with its places, and then another.
use Rattle.std.proofs.Common.{◌≡◌, ◌≤◌, ◌<◌, ◌+◌, ℕ, cond, List, [], ◌∷◌, ◌++◌, length, drop, get_or, Option, None, Some, Result, Ok, Err, refl, sym, ap, ◌∙◌, subst, append-nil, append_assoc}
use Rattle.std.proofs.lemmas.List.{drop_more}
use Rattle.std.proofs.Math.ListN.{drop_of_length-le}
use Rattle.std.specs.Prelude.{Contains, OnErr}
use Rattle.ecr_model.specs.declared.requests.call.Call.{Call}
use Rattle.ecr_model.specs.declared.registry.journal.Place.{Place}
use Rattle.ecr_model.specs.declared.names.Name.{Name}
use Rattle.ecr_model.specs.declared.names.RepoKey.{RepoKey}
use Rattle.ecr_model.specs.declared.names.SiteId.{SiteId}
use Rattle.ecr_model.specs.declared.requests.refusal.Refusal.{Refusal}
use Rattle.ecr_model.specs.declared.requests.reply.Described.{Described as Row}
use Rattle.ecr_model.specs.declared.requests.reply.Reply.{Reply}
use Rattle.ecr_model.specs.declared.requests.reply.Reply.TheVariants.{Described, Refused}
use Rattle.ecr_model.specs.requests.Requests.{Decided, call_script, one_script, rows_in, is_refused, named_script, listed_script}
use Rattle.ecr_model.specs.registry.Scripts.{Realm, Script, ends, then_do}
use Rattle.ecr_model.specs.registry.Views.{places_of}
use Rattle.ecr_model.proofs.lemmas.registry.ViewLemmas.{places_of-append}
use Rattle.ecr_desk.specs.Desks.{DeskState, Ran, Stopped, StoppedWithin}
use Rattle.ecr_desk.proofs.DeskLemmas.{Ran-ends, Ran-then, Stopped-first, Stopped-none, Stopped-then, Stopped-whole}
use Rattle.ecr_session.specs.Turns.{RanWith, StoppedWith, LeadsTo, IsDescribed, refusal_in}

-- ---- one script

-- a script without a turn
pub RanWith-ends : {A : Type 0} (seen : DeskState) (answer : A) (old : List Place)
    → RanWith seen seen (ends answer) answer old old
RanWith-ends seen answer old = record { places = []; added = sym (append-nil old); ran = Ran-ends seen answer }

-- no turn was made
pub StoppedWith-nothing : {A : Type 0} (seen : DeskState) (script : Script A) (old now : List Place) → now ≡ old
    → StoppedWith seen seen script old now
unfolding Stopped-none
StoppedWith-nothing seen script old now same = record {
  places = [];
  rest = [];
  added = same ∙ sym (append-nil old);
  stopped = Stopped-none seen seen script refl;
  parts = refl;
}

-- turns were made of which no place is told
pub StoppedWith-untold : {A : Type 0} (before after : DeskState) (script : Script A) (old now : List Place)
    → now ≡ old → Stopped before after script
    → StoppedWith before after script old now
StoppedWith-untold before after script old now same stopped = record {
  places = [];
  rest = places_of stopped.turns;
  added = same ∙ sym (append-nil old);
  stopped = stopped;
  parts = refl;
}

-- of a call at most so many turns were made
pub StoppedWith-within : {A : Type 0} (most : ℕ) (before after : DeskState) (script : Script A) (old now : List Place)
    → now ≡ old
    → StoppedWithin most before after script → StoppedWith before after script old now
StoppedWith-within most before after script old now same s =
    StoppedWith-untold before after script old now same s.stopped

-- all turns were made, and the answer wasn't told
pub StoppedWith-whole : {A : Type 0} (before after : DeskState) (script : Script A) (answer : A)
    (old now : List Place) → RanWith before after script answer old now
    → StoppedWith before after script old now
unfolding Stopped-whole
StoppedWith-whole before after script answer old now w = record {
  places = w.places;
  rest = [];
  added = w.added;
  stopped = Stopped-whole before after script answer w.places w.ran;
  parts = sym w.ran.placed ∙ sym (append-nil w.places);
}

-- all turns were made, and neither the answer nor a place was told
pub StoppedWith-unheard : {A : Type 0} (before after : DeskState) (script : Script A) (answer : A)
    (places old now : List Place) → now ≡ old → Ran before after script answer places
    → StoppedWith before after script old now
StoppedWith-unheard before after script answer places old now same ran =
    StoppedWith-untold before after script old now same (Stopped-whole before after script answer places ran)

-- ---- and then another

-- the turns of one script and then those of the next are the turns of both
pub RanWith-then : {A B : Type 0} (before mid after : DeskState) (script : Script A) (next : A → Script B) (a : A)
    (b : B) (old more now : List Place)
    → RanWith before mid script a old more → RanWith mid after (next a) b more now
    → RanWith before after (then_do script next) b old now
RanWith-then before mid after script next a b old more now one other = record {
  places = one.places ++ other.places;
  added = other.added ∙ ap (λ l. l ++ other.places) one.added ∙ append_assoc old one.places other.places;
  ran = Ran-then before mid after script next a b one.places other.places one.ran other.ran;
}

-- a stop in the first of two scripts is a stop in both
pub StoppedWith-first : {A B : Type 0} (before after : DeskState) (script : Script A) (next : A → Script B)
    (old now : List Place)
    → StoppedWith before after script old now → StoppedWith before after (then_do script next) old now
unfolding Stopped-first
StoppedWith-first before after script next old now s = record {
  places = s.places;
  rest = s.rest;
  added = s.added;
  stopped = Stopped-first before after script next s.stopped;
  parts = s.parts;
}

-- the turns of one script and then a stop in the next are a stop in both
pub StoppedWith-then : {A B : Type 0} (before mid after : DeskState) (script : Script A) (next : A → Script B) (a : A)
    (old more now : List Place)
    → RanWith before mid script a old more → StoppedWith mid after (next a) more now
    → StoppedWith before after (then_do script next) old now
unfolding Stopped-then
StoppedWith-then before mid after script next a old more now one other = record {
  places = one.places ++ other.places;
  rest = other.rest;
  added = other.added ∙ ap (λ l. l ++ other.places) one.added ∙ append_assoc old one.places other.places;
  stopped = Stopped-then before mid after script next a one.places one.ran other.stopped;
  parts = places_of-append one.ran.turns other.stopped.turns
      ∙ ap (λ ps. ps ++ places_of other.stopped.turns) (sym one.ran.placed)
      ∙ ap (λ ps. one.places ++ ps) other.parts
      ∙ sym (append_assoc one.places other.places other.rest);
}

-- ---- a whole script, turn by turn

-- after the turns of a script its answer decides how it goes on
pub LeadsTo-then : {A B : Type 0} (before now next_seen : DeskState) (whole : Script B) (script : Script A)
    (next : A → Script B) (a : A) (old places more : List Place)
    → LeadsTo before now whole (then_do script next) old places → RanWith now next_seen script a places more
    → LeadsTo before next_seen whole (next a) old more
LeadsTo-then before now next_seen whole script next a old places more to one = record {
  ran = λ later answer last w. to.ran later answer last
      (RanWith-then now next_seen later script next a answer places more last one w);
  stopped = λ later last s. to.stopped later last
      (StoppedWith-then now next_seen later script next a places more last one s);
}

-- ---- the named repositories

-- what is left of them, with the next one in front
named_at : (s : SiteId) (moment : ℕ) (rows : List Row) (names : List Name) (i : ℕ) (name : Name) → i < length names
    → name ≡ get_or names i name
    → named_script s moment rows (drop i names) ≡ named_script s moment rows (name ∷ drop (i + 1) names)
named_at s moment rows names i name inside is =
    ap (named_script s moment rows) (drop_more names i name inside ∙ ap (λ n. n ∷ drop (i + 1) names) (sym is))

named_step : SiteId → ℕ → List Row → List Name → Reply → Script Reply
named_step s moment rows names reply =
    cond (is_refused reply) (ends reply) (named_script s moment (rows ++ rows_in reply) names)

-- the same of a decided description
after_one : SiteId → ℕ → List Row → List Name → Decided → Script Reply
after_one s moment rows names d = named_step s moment rows names d.reply

LeadsTo-named : (before now after : DeskState) (whole : Script Reply) (s : SiteId) (moment : ℕ)
    (rows rows_after : List Row) (names : List Name) (i : ℕ) (name : Name) (refusal : Option Refusal)
    (old places more : List Place)
    → i < length names → name ≡ get_or names i name
    → LeadsTo before now whole (named_script s moment rows (drop i names)) old places
    → (d : IsDescribed now after s name moment rows rows_after refusal places more)
    → LeadsTo before after whole (named_step s moment rows (drop (i + 1) names) d.decided.reply) old more
unfolding named_script named_step after_one
LeadsTo-named before now after whole s moment rows rows_after names i name refusal old places more inside is to d =
    LeadsTo-then before now after whole (one_script s moment name)
    (after_one s moment rows (drop (i + 1) names)) d.decided old places more
    (subst (λ rest. LeadsTo before now whole rest old places) (named_at s moment rows names i name inside is) to) d.ran

-- a description that isn't refused
named_step-on : (s : SiteId) (moment : ℕ) (rows : List Row) (names : List Name) (reply : Reply)
    → None ≡ refusal_in reply
    → named_step s moment rows names reply ≡ named_script s moment (rows ++ rows_in reply) names
unfolding named_step
named_step-on s moment rows names (Refused refusal) none = absurd (let no : None ≡ Some refusal = none in cc)
named_step-on s moment rows names _ none = refl

-- one that is
named_step-refused : (s : SiteId) (moment : ℕ) (rows : List Row) (names : List Name) (reply : Reply)
    (refusal : Refusal) → Some refusal ≡ refusal_in reply
    → named_step s moment rows names reply ≡ ends (Refused refusal)
unfolding named_step
named_step-refused s moment rows names (Refused other) refusal some =
    ap (λ (r : Refusal). ends (Refused r)) (let same : Some refusal ≡ Some other = some in cc)
named_step-refused s moment rows names _ refusal some = absurd (let no : Some refusal ≡ None = some in cc)

-- a named repository with its row leads to the next name
pub LeadsTo-named_on : (before now after : DeskState) (whole : Script Reply) (s : SiteId) (moment : ℕ)
    (rows rows_after : List Row) (names : List Name) (i : ℕ) (name : Name) (old places more : List Place)
    → i < length names → name ≡ get_or names i name
    → LeadsTo before now whole (named_script s moment rows (drop i names)) old places
    → IsDescribed now after s name moment rows rows_after None places more
    → LeadsTo before after whole (named_script s moment rows_after (drop (i + 1) names)) old more
LeadsTo-named_on before now after whole s moment rows rows_after names i name old places more inside is to d =
    subst (λ r. LeadsTo before after whole (named_script s moment r (drop (i + 1) names)) old more) (sym d.rows)
    (subst (λ rest. LeadsTo before after whole rest old more)
    (named_step-on s moment rows (drop (i + 1) names) d.decided.reply d.refused)
    (LeadsTo-named before now after whole s moment rows rows_after names i name None old places more inside is to d))

-- a named repository that is refused ends the description with that refusal
pub RanWith-named_refused : (before now after : DeskState) (whole : Script Reply) (s : SiteId) (moment : ℕ)
    (rows rows_after : List Row) (names : List Name) (i : ℕ) (name : Name) (refusal : Refusal)
    (old places more : List Place)
    → i < length names → name ≡ get_or names i name
    → LeadsTo before now whole (named_script s moment rows (drop i names)) old places
    → IsDescribed now after s name moment rows rows_after (Some refusal) places more
    → RanWith before after whole (Refused refusal) old more
RanWith-named_refused before now after whole s moment rows rows_after names i name refusal old places more
    inside is to d =
    (subst (λ rest. LeadsTo before after whole rest old more)
    (named_step-refused s moment rows (drop (i + 1) names) d.decided.reply refusal d.refused)
    (LeadsTo-named before now after whole s moment rows rows_after names i name
    (Some refusal) old places more inside is to d)).ran after (Refused refusal) more
    (RanWith-ends after (Refused refusal) more)

-- a stop at a named repository is one in the description
pub StoppedWith-named : (before now after : DeskState) (whole : Script Reply) (s : SiteId) (moment : ℕ)
    (rows : List Row) (names : List Name) (i : ℕ) (name : Name) (old places more : List Place)
    → i < length names → name ≡ get_or names i name
    → LeadsTo before now whole (named_script s moment rows (drop i names)) old places
    → StoppedWith now after (one_script s moment name) places more → StoppedWith before after whole old more
unfolding named_script named_step after_one
StoppedWith-named before now after whole s moment rows names i name old places more inside is to stopped =
    to.stopped after more
    (subst (λ rest. StoppedWith now after rest places more) (sym (named_at s moment rows names i name inside is))
    (StoppedWith-first now after (one_script s moment name)
    (after_one s moment rows (drop (i + 1) names)) places more stopped))

-- past the last name the descriptions are the reply
pub RanWith-named_end : (before now : DeskState) (whole : Script Reply) (s : SiteId) (moment : ℕ) (rows : List Row)
    (names : List Name) (i : ℕ) (old places : List Place)
    → length names ≤ i → LeadsTo before now whole (named_script s moment rows (drop i names)) old places
    → RanWith before now whole (Described rows None) old places
unfolding named_script
RanWith-named_end before now whole s moment rows names i old places all to =
    (subst (λ l. LeadsTo before now whole (named_script s moment rows l) old places)
    (drop_of_length-le names all) to).ran now (Described rows None) places
    (RanWith-ends now (Described rows None) places)

-- ---- the listed repositories

listed_at : (s : SiteId) (moment : ℕ) (next : Option ℕ) (rows : List Row) (names : List Name) (i : ℕ) (name : Name)
    → i < length names → name ≡ get_or names i name
    → listed_script s moment next rows (drop i names) ≡ listed_script s moment next rows (name ∷ drop (i + 1) names)
listed_at s moment next rows names i name inside is =
    ap (listed_script s moment next rows) (drop_more names i name inside ∙ ap (λ n. n ∷ drop (i + 1) names) (sym is))

-- a name of the page, with its row or without one, leads to the next name
pub LeadsTo-listed : (before now after : DeskState) (whole : Script Reply) (s : SiteId) (moment : ℕ) (next : Option ℕ)
    (rows rows_after : List Row) (names : List Name) (i : ℕ) (name : Name) (refusal : Option Refusal)
    (old places more : List Place)
    → i < length names → name ≡ get_or names i name
    → LeadsTo before now whole (listed_script s moment next rows (drop i names)) old places
    → IsDescribed now after s name moment rows rows_after refusal places more
    → LeadsTo before after whole (listed_script s moment next rows_after (drop (i + 1) names)) old more
unfolding listed_script
LeadsTo-listed before now after whole s moment next rows rows_after names i name refusal old places more
    inside is to d =
    subst (λ r. LeadsTo before after whole (listed_script s moment next r (drop (i + 1) names)) old more) (sym d.rows)
    (LeadsTo-then before now after whole (one_script s moment name)
    (λ d. listed_script s moment next (rows ++ rows_in d.reply) (drop (i + 1) names)) d.decided old places more
    (subst (λ rest. LeadsTo before now whole rest old places)
    (listed_at s moment next rows names i name inside is) to) d.ran)

-- a stop at a name of the page is one in the description
pub StoppedWith-listed : (before now after : DeskState) (whole : Script Reply) (s : SiteId) (moment : ℕ)
    (next : Option ℕ) (rows : List Row) (names : List Name) (i : ℕ) (name : Name) (old places more : List Place)
    → i < length names → name ≡ get_or names i name
    → LeadsTo before now whole (listed_script s moment next rows (drop i names)) old places
    → StoppedWith now after (one_script s moment name) places more → StoppedWith before after whole old more
unfolding listed_script
StoppedWith-listed before now after whole s moment next rows names i name old places more inside is to stopped =
    to.stopped after more
    (subst (λ rest. StoppedWith now after rest places more) (sym (listed_at s moment next rows names i name inside is))
    (StoppedWith-first now after (one_script s moment name)
    (λ d. listed_script s moment next (rows ++ rows_in d.reply) (drop (i + 1) names)) places more stopped))

-- past the last name of a page its descriptions are the reply
pub RanWith-listed_end : (before now : DeskState) (whole : Script Reply) (s : SiteId) (moment : ℕ) (next : Option ℕ)
    (rows : List Row) (names : List Name) (i : ℕ) (old places : List Place)
    → length names ≤ i → LeadsTo before now whole (listed_script s moment next rows (drop i names)) old places
    → RanWith before now whole (Described rows next) old places
unfolding listed_script
RanWith-listed_end before now whole s moment next rows names i old places all to =
    (subst (λ l. LeadsTo before now whole (listed_script s moment next rows l) old places)
    (drop_of_length-le names all) to).ran now (Described rows next) places
    (RanWith-ends now (Described rows next) places)

-- ---- what a function gives

-- it holds whatever the result is
pub OnErr-always : {A E : Type 0} (r : Result A E) (P : Type 0) → P → OnErr r P
OnErr-always (Ok a) P holds = tt
OnErr-always (Err e) P holds = holds

-- a call on a repository that is known by another word
pub StoppedWith-key : (before after : DeskState) (key other : RepoKey) (call : Call) (given : Option (List ℕ))
    (moment : ℕ) (answer : Decided) (old now : List Place) → key ≡ other
    → RanWith before after (call_script key call given moment) answer old now
    → StoppedWith before after (call_script other call given moment) old now
StoppedWith-key before after key other call given moment answer old now same w =
    subst (λ k. StoppedWith before after (call_script k call given moment) old now) same
    (StoppedWith-whole before after (call_script key call given moment) answer old now w)

-- the served sites stay
pub Contains-described : (now after : DeskState) (s : SiteId) (name : Name) (moment : ℕ) (rows rows_after : List Row)
    (refusal : Option Refusal) (places more : List Place)
    → IsDescribed now after s name moment rows rows_after refusal places more → Contains now.realm.served s
    → Contains after.realm.served s
Contains-described now after s name moment rows rows_after refusal places more d at =
    subst (λ (r : Realm). Contains r.served s) (sym d.ran.ran.realm_stays) at

-- the same of a refusal that is known by another word
pub IsDescribed-same : (now after : DeskState) (s : SiteId) (name : Name) (moment : ℕ) (rows rows_after : List Row)
    (refusal other : Option Refusal) (places more : List Place) → refusal ≡ other
    → IsDescribed now after s name moment rows rows_after refusal places more
    → IsDescribed now after s name moment rows rows_after other places more
IsDescribed-same now after s name moment rows rows_after refusal other places more same d =
    subst (λ o. IsDescribed now after s name moment rows rows_after o places more) same d

-- the whole script ends with these rows
pub RanWith-named_rows : (before now : DeskState) (whole : Script Reply) (s : SiteId) (moment : ℕ)
    (rows others : List Row) (names : List Name) (i : ℕ) (old places : List Place) → others ≡ rows
    → length names ≤ i → LeadsTo before now whole (named_script s moment rows (drop i names)) old places
    → RanWith before now whole (Described others None) old places
RanWith-named_rows before now whole s moment rows others names i old places same all to =
    subst (λ r. RanWith before now whole (Described r None) old places) (sym same)
    (RanWith-named_end before now whole s moment rows names i old places all to)

-- behind the last name of the page the description has the rows
pub RanWith-listed_rows : (before now : DeskState) (whole : Script Reply) (s : SiteId) (moment : ℕ) (next : Option ℕ)
    (rows others : List Row) (names : List Name) (i : ℕ) (old places : List Place) → others ≡ rows
    → length names ≤ i → LeadsTo before now whole (listed_script s moment next rows (drop i names)) old places
    → RanWith before now whole (Described others next) old places
RanWith-listed_rows before now whole s moment next rows others names i old places same all to =
    subst (λ r. RanWith before now whole (Described r next) old places) (sym same)
    (RanWith-listed_end before now whole s moment next rows names i old places all to)
