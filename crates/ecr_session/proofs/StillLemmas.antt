-- A session over a desk whose caller is alone is one of one caller over its own journals.
use Rattle.std.proofs.Common.{◌≡◌, ◌≤◌, ◌∙◌, inl, inr, ℕ, Bool, true, false, List, [], ◌∷◌, ◌++◌, map, sym, ap, subst, append-nil, append_assoc, arith}
use Rattle.ecr_model.specs.declared.http.Request.{Request}
use Rattle.ecr_model.specs.declared.registry.journal.Place.{Place}
use Rattle.ecr_model.specs.declared.outcome.Cut.{Cut}
use Rattle.ecr_model.specs.declared.outcome.End.{End}
use Rattle.ecr_model.specs.registry.Content.{content_digest}
use Rattle.ecr_model.specs.registry.Contents.{named_by}
use Rattle.ecr_model.specs.requests.Posed.{posed_of, posed_bytes}
use Rattle.ecr_model.specs.http.Replies.{failed_reply, is_head}
use Rattle.ecr_model.specs.requests.Requests.{Decided}
use Rattle.ecr_model.specs.registry.Scripts.{Realm, World, run_to, count_changed}
use Rattle.ecr_model.specs.sessions.Sessions.{Account, Chain, Counts, Exchange, IsPlaced, IsServed, Outside, Serves, ServicedBy, Serviced, Setting, SettingOf, Standing, StandingOf, left_by, named_to, outcome_of, script_of, stands, written}
use Rattle.ecr_model.specs.http.Stream.{closes}
use Rattle.ecr_model.specs.registry.Views.{places_of}
use Rattle.ecr_model.proofs.lemmas.registry.ScriptLemmas.{count_changed-append, count_changed-run}
use Rattle.ecr_model.proofs.lemmas.sessions.SessionLemmas.{left_by-failed, left_by-served, named_to-failed, named_to-served, written-failed, written-served}
use Rattle.ecr_desk.specs.Desks.{DeskState, StillState, still_of, IsStill, run_on, Runs, RunsTo}
use Rattle.ecr_desk.proofs.DeskLemmas.{Ran-runs, Stopped-runs_to, Stopped-still, first_places-le}
use Rattle.ecr_session.specs.Serving.{Answers, IsAnswered, IsFailed, IsServedOver, ServesOver}
use Rattle.ecr_session.proofs.MoveLemmas.{ServesBy-moves}

-- ---- one request

-- the reply with its content, as bytes, the places and the cut are those of the request, and what is on the desk
-- afterwards is what it leaves
record AnswersAlone (before after : StillState) (moment : ℕ) (request : Request) (contents : List (List ℕ))
    (bytes : List ℕ) (places : List Place) (cut : Cut) : Type 0 where
  carries : map content_digest contents ≡ named_to before.realm before.world moment cut request
  bytes_are : bytes ≡ written before.realm before.world moment cut request contents
  realm_stays : after.realm ≡ before.realm
  leaves : after.world ≡ left_by before.realm before.world moment cut request
  counts : Counts before.realm before.world moment request cut
  placed : IsPlaced before.realm before.world moment cut request places

-- a request that was served didn't fail
not_failed : (b : Bool) → b ≡ true → b ≡ false → ⊥
not_failed b is other = absurd (let no : true ≡ false = sym is ∙ other in cc)

AnswersAlone-answered : (before after : DeskState) (moment : ℕ) (request : Request) (contents : List (List ℕ))
    (bytes : List ℕ) (places : List Place) (cut : Cut)
    → IsStill before → IsAnswered before after moment request contents bytes places cut
    → AnswersAlone (still_of before) (still_of after) moment request contents bytes places cut
AnswersAlone-answered before after moment request contents bytes places cut still a =
    let desk : StillState = still_of before in
    let script = script_of before.realm moment request in
    let posed = posed_of before.realm.served request in
    let runs : Runs desk (still_of after) script a.answer places =
    (Ran-runs before after script a.answer places still a.ran).runs in
    let counted : count_changed places ≡ (run_on desk script).entries =
    ap count_changed runs.placed ∙ count_changed-run desk.realm desk.world script in
    let digest : cut.sealed ≡ (run_on desk script).answer.sealed =
    a.sealed_is ∙ ap (λ (d : Decided). d.sealed) runs.answered in
    record {
      carries = a.carries ∙ ap (λ (d : Decided). named_by d.reply) runs.answered
          ∙ sym (named_to-served desk.realm desk.world moment cut request a.served);
      bytes_are = a.bytes_are
          ∙ ap (λ (d : Decided). posed_bytes posed (closes request) d.reply contents) runs.answered
          ∙ sym (written-served desk.realm desk.world moment cut request contents a.served);
      realm_stays = runs.realm_stays;
      leaves = runs.left ∙ sym (left_by-served desk.realm desk.world moment cut request a.served);
      counts = record {
        at_most = omega (arith, a.entries, counted);
        all = λ _. a.entries ∙ counted;
        sealed = λ _. digest;
        no_other = inr digest;
      };
      placed = record {
        all = λ _. runs.placed;
        first = ([], sym runs.placed ∙ sym (append-nil places));
        changed = omega (arith, a.entries);
      };
    }

AnswersAlone-failed : (before after : DeskState) (moment : ℕ) (request : Request) (contents : List (List ℕ))
    (bytes : List ℕ) (places : List Place) (cut : Cut)
    → IsStill before → IsFailed before after moment request contents bytes places cut
    → AnswersAlone (still_of before) (still_of after) moment request contents bytes places cut
AnswersAlone-failed before after moment request contents bytes places cut still f =
    let desk : StillState = still_of before in
    let script = script_of before.realm moment request in
    let turns : List Place = places_of f.stopped.turns in
    let runs : RunsTo desk (still_of after) script turns = Stopped-runs_to before after script still f.stopped in
    let within : count_changed turns ≤ (run_on desk script).entries =
    first_places-le desk script turns runs.rest runs.placed in
    record {
      carries = ap (map content_digest) f.carries_none
          ∙ sym (named_to-failed desk.realm desk.world moment cut request f.failed);
      bytes_are = f.bytes_are ∙ sym (written-failed desk.realm desk.world moment cut request contents f.failed);
      realm_stays = runs.realm_stays;
      leaves = runs.left ∙ ap (λ n. run_to n desk.realm desk.world script) (sym f.entries)
          ∙ sym (left_by-failed desk.realm desk.world moment cut request f.failed);
      counts = record {
        at_most = omega (arith, f.entries, within);
        all = λ e. absurd (not_failed cut.failed f.failed e);
        sealed = λ e. absurd (not_failed cut.failed f.failed e);
        no_other = inl f.none_sealed;
      };
      placed = record {
        all = λ e. absurd (not_failed cut.failed f.failed e);
        first = (
          f.rest ++ runs.rest,
          runs.placed ∙ ap (λ ps. ps ++ runs.rest) f.parts
              ∙ append_assoc places f.rest runs.rest,
        );
        changed = omega (arith, f.entries, ap count_changed f.parts, count_changed-append places f.rest);
      };
    }

-- the answers of a desk whose caller is alone are those of runs
Answers-alone : (before after : DeskState) (moment : ℕ) (request : Request) (contents : List (List ℕ))
    (bytes : List ℕ) (places : List Place) (cut : Cut)
    → IsStill before → Answers before after moment request contents bytes places cut
    → AnswersAlone (still_of before) (still_of after) moment request contents bytes places cut
Answers-alone before after moment request contents bytes places cut still (inl a) =
    AnswersAlone-answered before after moment request contents bytes places cut still a
Answers-alone before after moment request contents bytes places cut still (inr f) =
    AnswersAlone-failed before after moment request contents bytes places cut still f

-- a still desk stays still
Answers-still : (before after : DeskState) (moment : ℕ) (request : Request) (contents : List (List ℕ))
    (bytes : List ℕ) (places : List Place) (cut : Cut)
    → IsStill before → Answers before after moment request contents bytes places cut → IsStill after
Answers-still before after moment request contents bytes places cut still (inl a) =
    (Ran-runs before after (script_of before.realm moment request) a.answer places still a.ran).still
Answers-still before after moment request contents bytes places cut still (inr f) =
    Stopped-still before after (script_of before.realm moment request) still f.stopped

-- ---- exchanges

-- the standing of a session of one caller
abbrev still_standing : StandingOf DeskState → Standing
still_standing s = record { realm = s.realm; world = (still_of s.world).world; fixed = s.fixed; told = s.told }

-- the standing is over a still desk, of these sites and limits
record StandsStill (s : StandingOf DeskState) : Type 0 where
  realm_is : s.realm ≡ s.world.realm
  still : IsStill s.world

IsServed-over : (s t : StandingOf DeskState) (e : Exchange) → StandsStill s → IsServedOver s e t
    → IsServed (still_standing s) e (still_standing t)
IsServed-over s t e stands v =
    let desk : StillState = still_of s.world in
    let a : AnswersAlone desk (still_of t.world) e.moment e.request e.contents e.bytes e.places e.cut =
    Answers-alone s.world t.world e.moment e.request e.contents e.bytes e.places e.cut stands.still v.answers in
    let realm : desk.realm ≡ s.realm = sym stands.realm_is in
    record {
      realm_stays = v.realm_stays;
      fixed_stays = v.fixed_stays;
      timed = v.timed;
      counts = subst (λ (r : Realm). Counts r desk.world e.moment e.request e.cut) realm a.counts;
      placed = subst (λ (r : Realm). IsPlaced r desk.world e.moment e.cut e.request e.places) realm a.placed;
      carries = subst (λ (r : Realm). map content_digest e.contents
          ≡ named_to r desk.world e.moment e.cut e.request) realm a.carries;
      bytes = subst (λ (r : Realm). e.bytes
          ≡ written r desk.world e.moment e.cut e.request e.contents) realm a.bytes_are;
      leaves = subst (λ (r : Realm). (still_of t.world).world
          ≡ left_by r desk.world e.moment e.cut e.request) realm a.leaves;
    }

StandsStill-served : (s t : StandingOf DeskState) (e : Exchange) → StandsStill s → IsServedOver s e t → StandsStill t
StandsStill-served s t e stands v =
    let a : AnswersAlone (still_of s.world) (still_of t.world) e.moment e.request e.contents e.bytes e.places e.cut =
    Answers-alone s.world t.world e.moment e.request e.contents e.bytes e.places e.cut stands.still v.answers in
    record {
      realm_is = v.realm_stays ∙ stands.realm_is ∙ sym a.realm_stays;
      still = Answers-still s.world t.world e.moment e.request e.contents e.bytes e.places e.cut stands.still v.answers;
    }

Chain-still : (first last : StandingOf DeskState) (es : List Exchange) → StandsStill first
    → Chain IsServedOver first es last
    → Chain IsServed (still_standing first) es (still_standing last)
Chain-still first last [] stands chain = ap still_standing chain
Chain-still first last (e ∷ es) stands chain = (
  still_standing chain.0,
  IsServed-over first chain.0 e stands chain.1,
  Chain-still chain.0 last es (StandsStill-served first chain.0 e stands chain.1) chain.2,
)

-- ---- a whole session

-- the setting of a session of one caller
abbrev pub still_setting : SettingOf DeskState → Setting
still_setting set = record { realm = set.realm; first = (still_of set.first).world; fixed = set.fixed }

-- the setting is over a still desk, of these sites and limits
pub record IsSetStill (set : SettingOf DeskState) : Type 0 where
  pub realm_is : set.realm ≡ set.first.realm
  pub still : IsStill set.first

Serviced-still : (set : SettingOf DeskState) (before after : Outside) (es : List Exchange) (account : Account)
    (last : DeskState) → IsSetStill set
    → ServicedBy IsServedOver set before after es account last
    → Serviced (still_setting set) before after es account (still_of last).world
Serviced-still set before after es account last is s = record {
  says = s.says;
  served = Chain-still (stands set set.first before.told) (stands set last after.told) es
      (record { realm_is = is.realm_is; still = is.still }) s.served;
}

-- however it ended
pub Serves-still : (set : SettingOf DeskState) (before after : Outside) (account : Account) (last : DeskState)
    (end : End) → IsSetStill set
    → ServesOver set before after account last end
    → Serves (still_setting set) before after account (still_of last).world end
Serves-still set before after account last end is s =
    ServesBy-moves IsServedOver IsServed set (still_setting set) before after account last (still_of last).world
    (λ es. Serviced-still set before after es account last is) end s
