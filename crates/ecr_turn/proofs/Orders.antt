-- What the steps of passes have in common, over plain numbers, lists and views.
use Rattle.std.proofs.Common.{◌≡◌, ◌≢◌, ℕ, ◌<◌, ◌≤◌, Bool, true, false, List, [], ◌++◌, set, Option, Some, None, refl, sym, ap, ◌∙◌, subst, ⊎_elim, inl, arith}
use mathlib.Core.Logic.{dite}
use mathlib.Core.Option.{some, none}
use mathlib.Core.Option as maybe
use native.Mathlib.Decide.{ℕ_discrete}
use lib.ListN.{get_elem?}
use Rattle.atomic_table.proofs.Lists.{set_else}
use Rattle.ecr_model.specs.declared.registry.journal.Line.{Line}
use Rattle.ecr_model.specs.declared.registry.journal.Frame.{Frame}
use Rattle.ecr_turn.specs.declared.board.View.{View}
use Rattle.ecr_turn.specs.declared.board.Stage.{Stage}
use Rattle.ecr_turn.specs.declared.board.Stage.TheVariants.{Idle, Waits, Found, Holds, Recorded, Named, Joined, Spent}
use Rattle.ecr_model.specs.registry.Growth.{Grows}
use Rattle.ecr_turn.specs.Journals.{longer_of}
use Rattle.ecr_turn.specs.Turns.{ticket_of, named_of, in_turn, has_recorded, is_live, joined_seen, HasTicket, HasNumber, HasSeen, SomeOne}
use Rattle.ecr_turn.specs.Rule.{NoneOf, Suits, Order}
use Rattle.ecr_model.proofs.lemmas.registry.GrowthLemmas.{Follows-first}
use Rattle.ecr_turn.proofs.Views.{off, is_false, none_some, turn_ticket, set_at, same_view, set_each, One-kept}
use Rattle.ecr_turn.proofs.Journals.{longer_of-nil, longer_of-grows}

-- a pass in its turn is live
pub turn_live : (s : Stage) → in_turn s ≡ true → is_live s ≡ true
turn_live Idle e = refl
turn_live (Waits t) e = refl
turn_live (Found t ls) e = refl
turn_live (Holds t) e = refl
turn_live (Recorded t) e = refl
turn_live (Named n) e = refl
turn_live (Joined p ls) e = refl
turn_live Spent e = e

-- no pass was at such a stage before one moved from another
pub NoneOf-before : (test : Stage → Bool) (vs : List View) (id : ℕ) (v w : View) → get_elem? vs id ≡ some v
    → test v.stage ≡ false → NoneOf test (set vs id w) → NoneOf test vs
NoneOf-before test vs id v w at isn't all j u there =
    dite (ℕ_discrete j id)
    (λ e. subst (λ (z : View). test z.stage ≡ false)
    (same_view vs id v u at (subst (λ (z : ℕ). get_elem? vs z ≡ some u) e there)) isn't)
    (λ ne. all j u (set_else vs id j w ne ∙ there))

-- a pass that moves gains no number
pub numbers_back : (m : ℕ) (v w : View) → is_live v.stage ≡ true → w.caller ≡ v.caller → named_of w.stage ≡ None
    → HasNumber m w → HasNumber m v
numbers_back m v w live same unnamed h =
    ⊎_elim (λ (t : (is_live w.stage ≡ true) × (w.caller ≡ m)). inl (live, sym same ∙ t.1))
    (λ (e : named_of w.stage ≡ Some m). absurd (none_some m (sym unnamed ∙ e))) h

-- where the pass that moved was like that, it still is
pub Some-set : (P : View → Type 0) (vs : List View) (id : ℕ) (v w : View) → get_elem? vs id ≡ some v → (P v → P w)
    → SomeOne P vs → SomeOne P (set vs id w)
Some-set P vs id v w at on h = dite (ℕ_discrete h.0 id)
    (λ e. (
      id,
      w,
      set_at vs id v w at,
      on
          (subst P (sym (same_view vs id v h.1 at (subst (λ (z : ℕ). get_elem? vs z ≡ some h.1) e h.2))) h.3),
    ))
    (λ ne. (h.0, h.1, set_else vs id h.0 w ne ∙ h.2, h.3))

-- a pass that has seen the whole journal, and goes on knowing it
pub still_seen : (log : List Line) (v w : View) → w.seen ≡ v.seen → is_live w.stage ≡ true
    → joined_seen w.stage ≡ joined_seen v.stage → HasSeen log v → HasSeen log w
still_seen log v w same live joined h = (live, (λ i. longer_of (same i) (joined i)) ∙ h.1)

-- what a spent pass had seen, the one that it was joined to has
pub given_over : (log : List Line) (vs : List View) (id other : ℕ) (b w z : View) → ¬ (id ≡ other)
    → get_elem? vs id ≡ some b → get_elem? vs other ≡ some w → is_live b.stage ≡ true → joined_seen b.stage ≡ w.seen
    → joined_seen w.stage ≡ [] → (news : List Line) → log ≡ b.seen ++ news → SomeOne (HasSeen log) vs
    → SomeOne (HasSeen log) (set vs other z)
given_over log vs id other b w z apart here there live holds plain news longer h = dite (ℕ_discrete h.0 other)
    (λ e. let same : w ≡ h.1 = same_view vs other w h.1 there (subst (λ (y : ℕ). get_elem? vs y ≡ some h.1) e h.2) in
    let whole : w.seen ≡ log =
    sym (longer_of-nil w.seen) ∙
    (ap (λ (y : List Line). longer_of w.seen y) (sym plain)
    ∙ (ap (λ (y : View). longer_of y.seen (joined_seen y.stage)) same ∙ h.3.1)) in (
      id,
      b,
      set_else vs other id z apart
          ∙ here,
      (
        live,
        ap (λ (y : List Line). longer_of b.seen y) (holds ∙ (whole ∙ longer))
            ∙ (longer_of-grows b.seen news ∙ sym longer),
      ),
    ))
    (λ ne. (h.0, h.1, set_else vs other h.0 z ne ∙ h.2, h.3))

-- the rule for a pass in no turn: the numbers that it knows, and its journal
pub Suits-idle : (log : List Line) (n s k : ℕ) (fixed : Frame) (caller callers past : ℕ) (seen : List Line)
    (frame : Frame) → (caller < k) × Grows caller past seen log → callers ≤ k → past ≤ s → frame ≡ fixed
    → Suits log n s k fixed (record {
      stage = Idle;
      caller = caller;
      callers = callers;
      past = past;
      seen = seen;
      frame = frame;
    })
Suits-idle log n s k fixed caller callers past seen frame known aware behind framed = record {
  known = λ _. known;
  aware = aware;
  behind = behind;
  framed = λ _. framed;
  drawn = λ t e. absurd (none_some t e);
  served = λ t e _. absurd (off e);
  whole = λ e. absurd (off e);
  found = λ e. absurd (off e);
  promised = λ m e. absurd (none_some m e);
  joined = (omega arith, Follows-first _);
}

module _ {B : Type 0} (lines : B → List Line) (frame : B → Frame) (fixed : Frame) where
  abbrev Home : Type 0
  Home = maybe.Option (Option B)

  abbrev Rule : ℕ → ℕ → ℕ → ℕ → Home → List View → Type 0
  Rule = Order lines frame fixed

  -- nobody but the holder of the ticket that is served is in the turn
  pub alone : (c n s k : ℕ) (h : Home) (vs : List View) (o : Rule c n s k h vs) (id : ℕ) (v : View)
      → get_elem? vs id ≡ some v → HasTicket s v
      → (j : ℕ) (u : View) → j ≢ id → get_elem? vs j ≡ some u → in_turn u.stage ≡ false
  alone c n s k h vs o id v at mine j u other there = is_false (in_turn u.stage)
      (λ e. let t = turn_ticket u.stage e in other
      (o.one_holder s j id u v there at
      (t.1 ∙ ap (λ (z : ℕ). let x : Option ℕ = Some z in x) ((o.each j u there).served t.0 e t.1)) mine))

  -- a step of a pass that stands in no turn, before and after, which gains no number
  pub rests : (c n s k : ℕ) (h : Home) (vs : List View) (o : Rule c n s k h vs) (id : ℕ) (v w : View)
      → get_elem? vs id ≡ some v → ticket_of v.stage ≡ None → in_turn v.stage ≡ false → has_recorded v.stage ≡ false
      → ticket_of w.stage ≡ None → Suits o.log n s k fixed w → SomeOne (HasSeen o.log) (set vs id w)
      → ((m : ℕ) → HasNumber m w → HasNumber m v) → Rule c n s k h (set vs id w)
  rests c n s k h vs o id v w at none_yet out fresh none_now suits whole numbers = record {
    log = o.log;
    counted = o.counted;
    begun = o.begun;
    room = o.room;
    rises = o.rises;
    unrecorded = λ all. o.unrecorded (NoneOf-before has_recorded vs id v w at fresh all);
    numbered = o.numbered;
    each = set_each (Suits o.log n s k fixed) vs id w suits (λ j u other there. o.each j u there);
    longest = whole;
    away = set_each (λ u. in_turn u.stage ≡ true → h ≡ none) vs id w
        (λ e. let t = turn_ticket w.stage e in absurd (none_some t.0 (sym none_now ∙ t.1)))
        (λ j u other there. o.away j u there);
    one_holder = λ t. One-kept (HasTicket t) vs id v w at (λ e. absurd (none_some t (sym none_now ∙ e)))
        (o.one_holder t);
    held = λ t low high. Some-set (HasTicket t) vs id v w at (λ e. absurd (none_some t (sym none_yet ∙ e)))
        (o.held t low high);
    one_caller = λ m. One-kept (HasNumber m) vs id v w at (numbers m) (o.one_caller m);
    at_home = λ all. o.at_home (NoneOf-before in_turn vs id v w at out all);
  }
