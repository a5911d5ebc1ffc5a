-- A session over a desk of many callers is one of one caller among them, over the journals that it has seen at last.
use Rattle.std.proofs.Common.{◌≡◌, ◌+◌, inl, inr, ℕ, Bool, false, List, [], ◌∷◌, Option, None, Some, is_none, refl, sym, ap, ◌∙◌, subst, arith}
use Rattle.ecr_model.specs.declared.registry.journal.CellKey.{CellKey}
use Rattle.ecr_model.specs.declared.registry.journal.Place.{Place}
use Rattle.ecr_model.specs.declared.outcome.Cut.{Cut}
use Rattle.ecr_model.specs.declared.outcome.End.{End}
use Rattle.ecr_model.specs.requests.Requests.{Decided}
use Rattle.ecr_model.specs.registry.Scripts.{Realm, Script, count_changed}
use Rattle.ecr_model.specs.registry.Views.{AreAhead, Halts, IsAhead, PlacedTurn, Terms, Views, Visits, among, journals_of, places_of}
use Rattle.ecr_model.specs.sessions.Callers.{AreBetween, IsExchangeAt, IsServedAmong, ServesAmong}
use Rattle.ecr_model.specs.sessions.Sessions.{Account, Chain, Exchange, Outside, ServicedBy, SettingOf, StandingOf, script_of, stands}
use Rattle.ecr_model.proofs.lemmas.registry.ViewLemmas.{IsAhead-refl, IsAhead-trans, answers_stay, halts_go_on, visits_halt}
use Rattle.ecr_model.proofs.lemmas.sessions.CallerLemmas.{AreBetween-front, entries_stay, tickets_rise, turns_stay}
use Rattle.ecr_desk.specs.Desks.{DeskState, IsOf, PassState, SharedState, seen_with, terms_of}
use Rattle.ecr_session.specs.Accounts.{AccountsFor, entries_in}
use Rattle.ecr_session.specs.Serving.{Answers, HasEnded, IsAnswered, IsFailed, IsServedOver, ServesOver}
use Rattle.ecr_session.proofs.FreshLemmas.{ServesAmong-between}
use Rattle.ecr_session.proofs.MoveLemmas.{ServesBy-moves, exchanges_in}

-- ---- one request

-- the exchange is that of turns that were made between these states of a desk of many
record AnswersAmong (before after : DeskState) (later : Views) (e : Exchange) : Type 0 where
  turns : List PlacedTurn
  visited : Halts (among before.realm) before.views after.views (script_of before.realm e.moment e.request) turns
  exchanged : IsExchangeAt before.realm (journals_of later) e turns
  between : AreBetween before.views after.views e.places
  realm_stays : after.realm ≡ before.realm
  many : is_none after.gates ≡ false

-- the terms of a desk of many
terms-among : (before : DeskState) → is_none before.gates ≡ false → terms_of before ≡ among before.realm
terms-among before many = ap (λ b. record { realm = before.realm; alone = b }) many

AnswersAmong-answered : (before after : DeskState) (later : Views) (e : Exchange)
    → is_none before.gates ≡ false → AreAhead after.views later
    → IsAnswered before after e.moment e.request e.contents e.bytes e.places e.cut
    → AnswersAmong before after later e
AnswersAmong-answered before after later e many ahead a =
    let terms : Terms = among before.realm in
    let script : Script Decided = script_of before.realm e.moment e.request in
    let turns : List PlacedTurn = a.ran.turns in
    let visits : Visits terms before.views after.views script turns a.answer =
    subst (λ (t : Terms). Visits t before.views after.views script turns a.answer) (terms-among before many)
    a.ran.visited in
    let halts : Halts terms before.views after.views script turns =
    visits_halt terms before.views after.views script turns a.answer visits in
    record {
      turns = turns;
      visited = halts;
      exchanged = record {
        made = turns_stay terms before.views after.views later script turns halts ahead;
        answers = inl (record {
          answer = a.answer;
          answered = answers_stay terms before.views after.views later script turns a.answer visits ahead;
          placed = a.ran.placed;
          carries = a.carries;
          bytes = a.bytes_are;
          served = a.served;
          sealed = a.sealed_is;
        });
        entries = a.entries ∙ ap count_changed a.ran.placed;
      };
      between = subst (AreBetween before.views after.views) (sym a.ran.placed)
          (tickets_rise terms before.views after.views script turns refl halts);
      realm_stays = a.ran.realm_stays;
      many = ap is_none a.ran.gates_stay ∙ many;
    }

AnswersAmong-failed : (before after : DeskState) (later : Views) (e : Exchange)
    → is_none before.gates ≡ false → AreAhead after.views later
    → IsFailed before after e.moment e.request e.contents e.bytes e.places e.cut
    → AnswersAmong before after later e
AnswersAmong-failed before after later e many ahead f =
    let terms : Terms = among before.realm in
    let script : Script Decided = script_of before.realm e.moment e.request in
    let turns : List PlacedTurn = f.stopped.turns in
    let halts : Halts terms before.views after.views script turns =
    subst (λ (t : Terms). Halts t before.views after.views script turns) (terms-among before many) f.stopped.halted in
    record {
      turns = turns;
      visited = halts;
      exchanged = record {
        made = turns_stay terms before.views after.views later script turns halts ahead;
        answers = inr (record {
          rest = f.rest;
          placed = f.parts;
          carries_none = f.carries_none;
          bytes = f.bytes_are;
          failed = f.failed;
          none_sealed = f.none_sealed;
        });
        entries = f.entries;
      };
      between = AreBetween-front before.views after.views e.places f.rest
          (subst (AreBetween before.views after.views) f.parts
          (tickets_rise terms before.views after.views script turns refl halts));
      realm_stays = f.stopped.realm_stays;
      many = ap is_none f.stopped.gates_stay ∙ many;
    }

Answers-among : (before after : DeskState) (later : Views) (e : Exchange)
    → is_none before.gates ≡ false → AreAhead after.views later
    → Answers before after e.moment e.request e.contents e.bytes e.places e.cut
    → AnswersAmong before after later e
Answers-among before after later e many ahead (inl a) = AnswersAmong-answered before after later e many ahead a
Answers-among before after later e many ahead (inr f) = AnswersAmong-failed before after later e many ahead f

-- ---- exchanges

-- the standing of a session of one caller among many
abbrev among_standing : StandingOf DeskState → StandingOf Views
among_standing s = record { realm = s.realm; world = s.world.views; fixed = s.fixed; told = s.told }

-- the standing is over a desk of many, of these sites and limits
record StandsAmong (s : StandingOf DeskState) : Type 0 where
  realm_is : s.realm ≡ s.world.realm
  many : is_none s.world.gates ≡ false

IsServed-among : (s t : StandingOf DeskState) (e : Exchange) (later : Views) → StandsAmong s
    → AreAhead t.world.views later → IsServedOver s e t
    → IsServedAmong (journals_of later) (among_standing s) e (among_standing t)
IsServed-among s t e later stands ahead v =
    let a : AnswersAmong s.world t.world later e =
    Answers-among s.world t.world later e stands.many ahead v.answers in
    let realm : s.world.realm ≡ s.realm = sym stands.realm_is in
    let halts : Halts (among s.realm) s.world.views t.world.views (script_of s.realm e.moment e.request) a.turns =
    subst (λ (r : Realm). Halts (among r) s.world.views t.world.views (script_of r e.moment e.request) a.turns)
    realm a.visited in
    record {
      realm_stays = v.realm_stays;
      fixed_stays = v.fixed_stays;
      timed = v.timed;
      turns = a.turns;
      visited = halts;
      exchanged = subst (λ (r : Realm). IsExchangeAt r (journals_of later) e a.turns) realm a.exchanged;
      entered = entries_stay (among s.realm) s.world.views t.world.views later
          (script_of s.realm e.moment e.request) a.turns halts ahead;
      between = a.between;
      ahead = halts_go_on (among s.realm) s.world.views t.world.views (script_of s.realm e.moment e.request) a.turns
          halts;
    }

StandsAmong-served : (s t : StandingOf DeskState) (e : Exchange) → StandsAmong s → IsServedOver s e t → StandsAmong t
StandsAmong-served s t e stands v =
    let a : AnswersAmong s.world t.world t.world.views e =
    Answers-among s.world t.world t.world.views e stands.many (λ k. IsAhead-refl (t.world.views k)) v.answers in
    record { realm_is = v.realm_stays ∙ stands.realm_is ∙ sym a.realm_stays; many = a.many }

AreAhead-served : (first last : StandingOf DeskState) (es : List Exchange) → StandsAmong first
    → Chain IsServedOver first es last → AreAhead first.world.views last.world.views
AreAhead-served first last [] stands chain k =
    subst (λ (s : StandingOf DeskState). IsAhead (first.world.views k) (s.world.views k)) (sym chain)
    (IsAhead-refl (first.world.views k))
AreAhead-served first last (e ∷ es) stands chain k =
    let next : StandingOf DeskState = chain.0 in
    let one : IsServedAmong (journals_of next.world.views) (among_standing first) e (among_standing next) =
    IsServed-among first next e next.world.views stands (λ c. IsAhead-refl (next.world.views c)) chain.1 in
    IsAhead-trans (first.world.views k) (next.world.views k) (last.world.views k) (one.ahead k)
    (AreAhead-served next last es (StandsAmong-served first next e stands chain.1) chain.2 k)

Chain-among : (first last : StandingOf DeskState) (es : List Exchange) → StandsAmong first
    → Chain IsServedOver first es last
    → Chain (IsServedAmong (journals_of last.world.views)) (among_standing first) es (among_standing last)
Chain-among first last [] stands chain = ap among_standing chain
Chain-among first last (e ∷ es) stands chain =
    let next : StandsAmong chain.0 = StandsAmong-served first chain.0 e stands chain.1 in (
      among_standing chain.0,
      IsServed-among first chain.0 e last.world.views stands (AreAhead-served chain.0 last es next chain.2) chain.1,
      Chain-among chain.0 last es next chain.2,
    )

-- ---- a whole session

-- the setting of a session of one caller among many
abbrev pub among_setting : SettingOf DeskState → SettingOf Views
among_setting set = record { realm = set.realm; first = set.first.views; fixed = set.fixed }

-- the setting is over a desk of many, of these sites and limits
pub record IsSetAmong (set : SettingOf DeskState) : Type 0 where
  pub realm_is : set.realm ≡ set.first.realm
  pub many : is_none set.first.gates ≡ false

Serviced-among : (set : SettingOf DeskState) (before after : Outside) (account : Account) (last : DeskState)
    → IsSetAmong set → (es : List Exchange) → ServicedBy IsServedOver set before after es account last
    → ServicedBy (IsServedAmong (journals_of last.views)) (among_setting set) before after es account last.views
Serviced-among set before after account last is es s = record {
  says = s.says;
  served = Chain-among (stands set set.first before.told) (stands set last after.told) es
      (record { realm_is = is.realm_is; many = is.many }) s.served;
}

-- however it ended
pub Serves-among : (set : SettingOf DeskState) (before after : Outside) (account : Account) (last : DeskState)
    (end : End) → IsSetAmong set
    → ServesOver set before after account last end
    → ServesAmong (among_setting set) before after account last.views end
Serves-among set before after account last end is s =
    ServesBy-moves IsServedOver (IsServedAmong (journals_of last.views)) set (among_setting set) before after account
    last last.views (Serviced-among set before after account last is) end s

some_same : {A : Type 0} (a b : A) → Some a ≡ Some b → a ≡ b
some_same a b is = cc

-- the desk stays the one that it was
gates_stay : (set : SettingOf DeskState) (before after : Outside) (es : List Exchange) (account : Account)
    (last : DeskState) → ServicedBy IsServedOver set before after es account last → last.gates ≡ set.first.gates
gates_stay set before after es account last s =
    chain (stands set set.first before.told) (stands set last after.told) es s.served
  where
    one : (was now : DeskState) (e : Exchange) → Answers was now e.moment e.request e.contents e.bytes e.places e.cut
        → now.gates ≡ was.gates
    one was now e (inl a) = a.ran.gates_stay
    one was now e (inr f) = f.stopped.gates_stay

    chain : (first end : StandingOf DeskState) (es : List Exchange) → Chain IsServedOver first es end
        → end.world.gates ≡ first.world.gates
    chain first end [] c = ap (λ (s : StandingOf DeskState). s.world.gates) c
    chain first end (e ∷ es) c = chain c.0 end es c.2 ∙ one first.world c.0.world e c.1.answers

-- ---- at a desk under a pass

-- a session at the desk under that pass, as the holder of the pass sees it
pub Serves-with : (desk : SharedState) (pass now : PassState) (first last : DeskState) (fixed : Option ℕ)
    (before after : Outside) (told account : Account) (ending end : End)
    → first ≡ seen_with desk pass → last.views ≡ now.views → told ≡ account → ending ≡ end
    → ServesOver (record { realm = first.realm; first = first; fixed = fixed }) before after account last end
    → ServesAmong (record { realm = desk.realm; first = pass.views; fixed = fixed }) before after told now.views ending
Serves-with desk pass now first last fixed before after told account ending end same views says ends s =
    let set : SettingOf DeskState = record { realm = first.realm; first = first; fixed = fixed } in
    let among : ServesAmong (among_setting set) before after account last.views end =
    Serves-among set before after account last end
    (record { realm_is = refl; many = ap (λ (d : DeskState). is_none d.gates) same }) s in
    let there : ServesAmong (record { realm = desk.realm; first = pass.views; fixed = fixed }) before after account
    last.views end =
    subst (λ (d : DeskState). ServesAmong (record { realm = d.realm; first = d.views; fixed = fixed }) before after
    account last.views end) same among in
    let of : SettingOf Views = record { realm = desk.realm; first = pass.views; fixed = fixed } in
    subst (λ (e : End). ServesAmong of before after told now.views e) (sym ends)
    (subst (λ (a : Account). ServesAmong of before after a now.views end) (sym says)
    (subst (λ (v : Views). ServesAmong of before after account v end) views there))

-- the pass is of the desk afterwards too
pub IsOf-after : (desk : SharedState) (pass now : PassState) (first last : DeskState) (fixed : Option ℕ)
    (before after : Outside) (account : Account) (end : End)
    → first ≡ seen_with desk pass → last.gates ≡ Some now.gates → IsOf desk pass
    → ServesOver (record { realm = first.realm; first = first; fixed = fixed }) before after account last end
    → IsOf desk now
IsOf-after desk pass now first last fixed before after account end same gates is s =
    let set : SettingOf DeskState = record { realm = first.realm; first = first; fixed = fixed } in
    let of = exchanges_in IsServedOver set before after account last end s in
    let stay : last.gates ≡ first.gates = gates_stay set before after of.0 account last of.1 in
    let one : Some now.gates ≡ Some pass.gates =
    sym gates ∙ stay ∙ ap (λ (d : DeskState). d.gates) same in
    some_same now.gates pass.gates one ∙ is

-- the entries that were added under the pass
pub counted_with : (desk : SharedState) (pass now : PassState) (first last : DeskState) (told cuts : List Cut)
    → first ≡ seen_with desk pass → last.made ≡ now.made → told ≡ cuts → last.made ≡ first.made + entries_in cuts
    → now.made ≡ pass.made + entries_in told
counted_with desk pass now first last told cuts same made is counted =
    let before : first.made ≡ pass.made = ap (λ (d : DeskState). d.made) same in
    let entries : entries_in told ≡ entries_in cuts = ap entries_in is in
    omega (arith, made, counted, before, entries)

-- a session at the desk under that pass, of whose account nobody keeps anything
pub AccountsFor-with : (desk : SharedState) (pass now : PassState) (first last : DeskState) (fixed : Option ℕ)
    (before after : Outside) (account : Account) (end : End)
    → first ≡ seen_with desk pass → last.views ≡ now.views → last.made ≡ now.made
    → HasEnded (record { realm = first.realm; first = first; fixed = fixed }) before after account last end
    → AccountsFor (record { realm = desk.realm; first = pass.views; fixed = fixed }) before after pass now end
AccountsFor-with desk pass now first last fixed before after account end same views made s =
    let serves = Serves-with desk pass now first last fixed before after account account end end same views refl refl
    s.serves in
    record {
      account = account;
      serves = serves;
      fresh = ServesAmong-between (record { realm = desk.realm; first = pass.views; fixed = fixed }) before after
          account now.views end serves;
      counted = counted_with desk pass now first last account.cuts account.cuts same made refl s.counted;
    }
