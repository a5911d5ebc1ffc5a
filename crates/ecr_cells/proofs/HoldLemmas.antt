-- What the turns of a held repository come to.
use Rattle.std.proofs.Common.{◌≡◌, ◌≤◌, ◌+◌, ℕ, true, false, List, [], ◌∷◌, length, Option, None, Some, is_none, is_some, refl, sym, ap, ◌∙◌, subst, arith, length-append}
use Rattle.ecr_model.specs.declared.registry.directory.Registered.TheVariants.{New, Known, Full}
use Rattle.ecr_model.specs.declared.registry.journal.CellKey.{CellKey}
use Rattle.ecr_model.specs.declared.registry.journal.CellKey.TheVariants.{Directory, Repository}
use Rattle.ecr_model.specs.declared.registry.journal.Line.{Line}
use Rattle.ecr_model.specs.declared.registry.journal.Place.{Place}
use Rattle.ecr_model.specs.declared.names.Name.{Name}
use Rattle.ecr_model.specs.declared.names.RepoKey.{RepoKey}
use Rattle.ecr_model.specs.declared.requests.call.Call.TheVariants.{Describe}
use Rattle.ecr_model.specs.declared.requests.refusal.Refusal.{Refusal}
use Rattle.ecr_model.specs.requests.Requests.{first_turn}
use Rattle.ecr_model.specs.registry.Scripts.{Realm, Script, Told, count_changed, ends, knows, then_do, turn, turn_at}
use Rattle.ecr_model.specs.registry.Views.{PlacedTurn, Terms, View, Views, Visits, past_of, places_of, result_of, with_view}
use Rattle.ecr_model.proofs.lemmas.registry.ViewLemmas.{with_view-same}
use Rattle.ecr_desk.specs.Desks.{DeskState, Ran, StoppedWithin, terms_of}
use Rattle.ecr_desk.proofs.DeskLemmas.{Ran-ends, Ran-then, Stopped-first, Stopped-then, Stopped-whole}
use Rattle.ecr_cells.specs.declared.deed.Done.{Done}
use Rattle.ecr_cells.specs.declared.deed.Done.TheVariants as done
use Rattle.ecr_cells.specs.Deeds.{refusal_of, told_of}
use Rattle.ecr_cells.specs.Holds.{Held, IsLatest, hold_script, idle_turn, then_idle}
use Rattle.ecr_cells.specs.Shared.{DeskKnown, Looks, caller_state}
use Rattle.ecr_cells.proofs.RunLemmas.{MadeTurn, Ran-turn}
use Rattle.ecr_cells.proofs.SharedViewLemmas.{StoppedWithin-looks}

-- ---- one turn that enters nothing

-- the question whether a name is registered enters nothing
knows-no_entry : (realm : Realm) (cell : CellKey) (lines : List Line) (made : PlacedTurn) (name : Name)
    → (result_of realm cell lines (knows name) made).entry ≡ None
unfolding turn_at
knows-no_entry realm (Directory site) lines made name = refl
knows-no_entry realm (Repository key) lines made name = refl

-- the turn that was made: its place, and the view of its cell, which alone is new
record Idled (was now : Views) (cell : CellKey) (place : Place) : Type 0 where
  pub cell_is : place.cell ≡ cell
  pub unchanged : place.changed ≡ false
  pub fresh : past_of (was cell) ≤ place.ticket
  pub view : View
  pub last : view.past ≡ place.ticket + 1
  pub views : now ≡ with_view was cell view

idled : {A : Type 0} (terms : Terms) (was now : Views) (cell : CellKey) (name : Name) (answer : Told → A)
    (made : List PlacedTurn) (a : A) (place : Place)
    → terms.alone ≡ false → place ∷ [] ≡ places_of made
    → Visits terms was now (turn cell (knows name) (λ t. ends (answer t))) made a → Idled was now cell place
unfolding Visits
idled terms was now cell name answer [] a place many placed v = absurd v
idled terms was now cell name answer (m ∷ []) a place many placed v =
    let at : place ≡ m.place = cc placed in
    let ticket : place.ticket ≡ m.place.ticket = ap (λ (p : Place). p.ticket) at in
    record {
      cell_is = ap (λ (p : Place). p.cell) at ∙ v.1.cell_is;
      unchanged = ap (λ (p : Place). p.changed) at ∙ v.1.changed_is
          ∙ ap is_some (knows-no_entry terms.realm cell v.0.seen m name);
      fresh = omega (arith, ticket, v.1.fresh);
      view = v.0;
      last = omega (arith, ticket, v.1.shared many);
      views = v.2.0;
    }
idled terms was now cell name answer (m ∷ (n ∷ ms)) a place many placed v = absurd v.2

-- the only turn of a script
idled-ran : {A : Type 0} (before after : DeskState) (cell : CellKey) (name : Name) (answer : Told → A) (a : A)
    (place : Place)
    → is_none before.gates ≡ false → Ran before after (turn cell (knows name) (λ t. ends (answer t))) a (place ∷ [])
    → Idled before.views after.views cell place
idled-ran before after cell name answer a place many ran =
    idled (terms_of before) before.views after.views cell name answer ran.turns a place many ran.placed ran.visited

-- a turn in the repository that asks so is the idle one
pub Ran-idle_turn : (before after : DeskState) (key copy : RepoKey) (name : Name) (told : Told) (place : Place)
    → copy ≡ key → name ≡ key.name → MadeTurn before after (Repository copy) (knows name) told place
    → Ran before after (idle_turn key) tt (place ∷ [])
Ran-idle_turn before after key copy name told place at named made =
    Ran-turn before after (Repository key) (knows key.name) told place (λ t. tt)
    (subst (λ (n : Name). MadeTurn before after (Repository key) (knows n) told place) named
    (subst (λ (k : RepoKey). MadeTurn before after (Repository k) (knows name) told place) at made))

-- it wasn't made
pub StoppedWithin-idle_turn : (realm : Realm) (before after : DeskKnown) (key copy : RepoKey)
    → copy ≡ key → Looks realm before after (Repository copy)
    → StoppedWithin 0 (caller_state realm before) (caller_state realm after) (idle_turn key)
StoppedWithin-idle_turn realm before after key copy at looks =
    StoppedWithin-looks realm before after (Repository key) (knows key.name) (λ told. ends tt)
    (subst (λ (k : RepoKey). Looks realm before after (Repository k)) at looks)

-- it adds no entry
made-idled : {A : Type 0} (before after : DeskState) (script : Script A) (a : A) (place : Place)
    → place.changed ≡ false → Ran before after script a (place ∷ []) → after.made ≡ before.made
made-idled before after script a place unchanged ran =
    omega (
      arith,
      ran.counted ∙ ap (λ b. before.made + count_changed (record place { changed = b } ∷ [])) unchanged,
    )

-- the turn in the repository adds no entry
pub made-idle_turn : (before after : DeskState) (key : RepoKey) (place : Place)
    → is_none before.gates ≡ false → Ran before after (idle_turn key) tt (place ∷ []) → after.made ≡ before.made
made-idle_turn before after key place many ran =
    made-idled before after (idle_turn key) tt place
    (idled-ran before after (Repository key) key.name (λ t. tt) tt place many ran).unchanged ran

-- nor does the one in the directory
pub made-first_turn : (before after : DeskState) (key : RepoKey) (told : Told) (place : Place)
    → is_none before.gates ≡ false → Ran before after (first_turn key Describe) told (place ∷ [])
    → after.made ≡ before.made
unfolding first_turn
made-first_turn before after key told place many ran =
    made-idled before after (turn (Directory key.site) (knows key.name) (λ t. ends t)) told place
    (idled-ran before after (Directory key.site) key.name (λ t. t) told place many ran).unchanged ran

count_changed-few : (made : List PlacedTurn) → length made ≤ 0 → count_changed (places_of made) ≡ 0
count_changed-few [] few = refl
count_changed-few (m ∷ ms) few = absurd (omega (arith, few))

-- nor does a script without a turn
pub made-none : {A : Type 0} (before after : DeskState) (script : Script A)
    → StoppedWithin 0 before after script → after.made ≡ before.made
made-none before after script stopped =
    omega (arith, stopped.stopped.counted, count_changed-few stopped.stopped.turns stopped.few)

-- ---- all of its turns

then_idle-goes_on : (key : RepoKey) (told : Done) → refusal_of told ≡ None
    → idle_turn key ≡ then_idle key (told_of told)
unfolding then_idle
then_idle-goes_on key (done.Known true) is = refl
then_idle-goes_on key (done.Known false) is = absurd (cc is)
then_idle-goes_on key (done.Registered New) is = refl
then_idle-goes_on key (done.Registered Known) is = refl
then_idle-goes_on key (done.Registered (Full limit count)) is = absurd (cc is)
then_idle-goes_on key (done.Listed reply) is = absurd (cc is)
then_idle-goes_on key (done.Replied out) is = absurd (cc is)
then_idle-goes_on key done.Nothing is = absurd (cc is)

then_idle-ends : (key : RepoKey) (told : Done) (refusal : Refusal) → refusal_of told ≡ Some refusal
    → ends tt ≡ then_idle key (told_of told)
unfolding then_idle
then_idle-ends key (done.Known true) refusal is = absurd (cc is)
then_idle-ends key (done.Known false) refusal is = refl
then_idle-ends key (done.Registered New) refusal is = absurd (cc is)
then_idle-ends key (done.Registered Known) refusal is = absurd (cc is)
then_idle-ends key (done.Registered (Full limit count)) refusal is = refl
then_idle-ends key (done.Listed reply) refusal is = refl
then_idle-ends key (done.Replied out) refusal is = refl
then_idle-ends key done.Nothing refusal is = refl

latest : (before mid after : Views) (cell : CellKey) (place : Place)
    → before cell ≡ mid cell → Idled mid after cell place → IsLatest before after place
latest before mid after cell place same idle = record {
  fresh = subst (λ (c : CellKey). past_of (before c) ≤ place.ticket) (sym idle.cell_is)
      (subst (λ (o : Option View). past_of o ≤ place.ticket) (sym same) idle.fresh);
  last = subst (λ (c : CellKey). past_of (after c) ≡ place.ticket + 1) (sym idle.cell_is)
      (ap past_of (ap (λ (v : Views). v cell) idle.views ∙ with_view-same mid cell idle.view) ∙ idle.last);
}

-- where the name isn't registered, the directory's turn is the last
pub Held-first : (before after : DeskState) (key : RepoKey) (told : Done) (refusal : Refusal) (place : Place)
    → is_none before.gates ≡ false → refusal_of told ≡ Some refusal
    → Ran before after (first_turn key Describe) (told_of told) (place ∷ [])
    → Held before after key place
unfolding hold_script first_turn
Held-first before after key told refusal place many refused ran =
    let idle = idled-ran before after (Directory key.site) key.name (λ t. t) (told_of told) place many ran in
    record {
      earlier = [];
      ran = Ran-then before after after (first_turn key Describe) (then_idle key) (told_of told) tt (place ∷ []) [] ran
          (subst (λ (s : Script (Unit {0})). Ran after after s tt []) (then_idle-ends key told refusal refused)
          (Ran-ends after tt));
      latest = latest before.views before.views after.views (Directory key.site) place refl idle;
      unchanged = idle.unchanged;
    }

-- where it is, the turn in the repository
pub Held-cell : (before mid after : DeskState) (key : RepoKey) (told : Done) (first place : Place)
    → is_none before.gates ≡ false → refusal_of told ≡ None
    → Ran before mid (first_turn key Describe) (told_of told) (first ∷ [])
    → Ran mid after (idle_turn key) tt (place ∷ [])
    → Held before after key place
unfolding hold_script first_turn with_view
Held-cell before mid after key told first place many known one other =
    let seen = idled-ran before mid (Directory key.site) key.name (λ t. t) (told_of told) first many one in
    let idle = idled-ran mid after (Repository key) key.name (λ t. tt) tt place
    (ap is_none one.gates_stay ∙ many) other in
    record {
      earlier = first ∷ [];
      ran = Ran-then before mid after (first_turn key Describe) (then_idle key) (told_of told) tt (first ∷ [])
          (place ∷ []) one
          (subst (λ (s : Script (Unit {0})). Ran mid after s tt (place ∷ [])) (then_idle-goes_on key told known) other);
      latest = latest before.views mid.views after.views (Repository key) place
          (sym (ap (λ (v : Views). v (Repository key)) seen.views)) idle;
      unchanged = idle.unchanged;
    }

-- ---- turns without memory for the rest

turns-few : (made : List PlacedTurn) (place : Place) → place ∷ [] ≡ places_of made → length made ≤ 1
turns-few [] place is = omega arith
turns-few (m ∷ []) place is = omega arith
turns-few (m ∷ (n ∷ ms)) place is = absurd (cc is)

-- no turn was made
pub StoppedWithin-no_hold : (before after : DeskState) (key : RepoKey)
    → StoppedWithin 0 before after (first_turn key Describe) → StoppedWithin 1 before after (hold_script key)
unfolding hold_script Stopped-first
StoppedWithin-no_hold before after key stopped = record {
  stopped = Stopped-first before after (first_turn key Describe) (then_idle key) stopped.stopped;
  few = omega (arith, stopped.few);
}

-- the directory's turn alone was made
pub StoppedWithin-hold_first : (before after : DeskState) (key : RepoKey) (told : Told) (place : Place)
    → Ran before after (first_turn key Describe) told (place ∷ [])
    → StoppedWithin 1 before after (hold_script key)
unfolding hold_script Stopped-first Stopped-whole
StoppedWithin-hold_first before after key told place ran = record {
  stopped = Stopped-first before after (first_turn key Describe) (then_idle key)
      (Stopped-whole before after (first_turn key Describe) told (place ∷ []) ran);
  few = turns-few ran.turns place ran.placed;
}

-- likewise, and the caller may have seen more of the repository
pub StoppedWithin-hold : (before mid after : DeskState) (key : RepoKey) (told : Done) (place : Place)
    → refusal_of told ≡ None
    → Ran before mid (first_turn key Describe) (told_of told) (place ∷ [])
    → StoppedWithin 0 mid after (idle_turn key)
    → StoppedWithin 1 before after (hold_script key)
unfolding hold_script Stopped-then
StoppedWithin-hold before mid after key told place known ran stopped =
    let rest : StoppedWithin 0 mid after (then_idle key (told_of told)) =
    subst (λ (s : Script (Unit {0})). StoppedWithin 0 mid after s) (then_idle-goes_on key told known) stopped in
    record {
      stopped = Stopped-then before mid after (first_turn key Describe) (then_idle key) (told_of told) (place ∷ []) ran
          rest.stopped;
      few = omega (
        arith,
        length-append ran.turns rest.stopped.turns,
        rest.few,
        turns-few ran.turns place ran.placed,
      );
    }
