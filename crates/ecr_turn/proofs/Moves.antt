-- Each kind of step may be made: whatever the table is, the rule goes on to hold.
use Rattle.std.proofs.Common.{◌≡◌, ◌≢◌, ℕ, zero, suc, ◌+◌, ◌%◌, ◌^◌, ◌<◌, ◌≤◌, eqb, true, List, [], ◌∷◌, ◌++◌, get_or, set, Option, Some, None, refl, sym, ap, ◌∙◌, subst, arith}
use mathlib.Core.Logic.{dite}
use mathlib.Core.Option.{some, none, some-injective, some-ne-none}
use mathlib.Core.Option as maybe
use native.Mathlib.Decide.{ℕ_discrete}
use lib.ListN.{get_elem?}
use lib.Seq.{set-get_or}
use prog.Atomic.{either}
use Rattle.atomic_table.specs.Table.{State, Me, step, Act, keeps, takes, gives, Valid, put_back, rest, stepped, carried_after, Allows, Splits, Joins, opening}
use Rattle.atomic_table.proofs.Lists.{set_again, exchanged}
use Rattle.ecr_model.specs.declared.registry.journal.Line.{Line}
use Rattle.ecr_model.specs.declared.registry.journal.Frame.{Frame}
use Rattle.ecr_turn.specs.declared.board.View.{View}
use Rattle.ecr_turn.specs.declared.board.Stage.{Stage}
use Rattle.ecr_turn.specs.declared.board.Stage.TheVariants.{Idle, Waits, Found, Holds, Named, Joined}
use Rattle.ecr_model.specs.registry.Growth.{Each}
use Rattle.ecr_turn.specs.Turns.{in_turn, has_learned, found_seen, HasTicket, One, HasNumber}
use Rattle.ecr_turn.specs.Rule.{Order, Suits, Kept, newcomer}
use Rattle.ecr_turn.specs.Steps.{waiting, finding, holding, having_recorded, gone_by, drew, looked, learned, recorded, passed_on, naming, settled, newborn, joining, spent, merged, drew_number, took_in}
use Rattle.ecr_turn.proofs.Views.{same_some, off}
use Rattle.ecr_model.proofs.lemmas.registry.GrowthLemmas.{Grows-none}
use Rattle.ecr_turn.proofs.Orders.{Suits-idle}
use Rattle.ecr_turn.proofs.TurnOrders.{draws, finds, learns, records, passes}
use Rattle.ecr_turn.proofs.CallerOrders.{names, splits, joins, takes_in}

abbrev waits_for : Stage → ℕ
waits_for (Waits t) = t
waits_for _ = 0

abbrev found_at : Stage → ℕ
found_at (Found t ls) = t
found_at _ = 0

abbrev holds_of : Stage → ℕ
holds_of (Holds t) = t
holds_of _ = 0

only : (P : View → Type 0) (v : View) → P v → (j : ℕ) (u : View) → get_elem? (v ∷ []) j ≡ some u → P u
only P v p zero u e = subst P (some-injective v u e) p
only P v p (suc j) u e = absurd (some-ne-none u (sym e))

alone_one : (P : View → Type 0) (v : View) → One P (v ∷ [])
alone_one P v zero zero u w e f p q = refl
alone_one P v zero (suc k) u w e f p q = absurd (some-ne-none w (sym f))
alone_one P v (suc j) k u w e f p q = absurd (some-ne-none u (sym e))

-- the value, or another where there is none
abbrev pub or_else : {B : Type 0} → B → Option B → B
or_else d (Some b) = b
or_else d None = d

-- the first value in hand
abbrev pub in_hand : {B : Type 0} → B → List (ℕ × Option B) → B
in_hand d [] = d
in_hand d (x ∷ xs) = or_else d x.1

module _ {B : Type 0} (lines : B → List Line) (frame : B → Frame) (fixed : Frame) where
  abbrev St : Type 0
  St = State (Option B) View

  abbrev M : Type 0
  M = Me (Option B) View

  abbrev Rule : St → Type 0
  Rule = Kept lines frame fixed

  -- the rule of the table at these numbers
  kept : (s : St) {count tickets serving callers : ℕ} {home : maybe.Option (Option B)}
      → s.words ≡ count ∷ tickets ∷ serving ∷ callers ∷ [] → s.homes ≡ home ∷ []
      → Order lines frame fixed count tickets serving callers home s.views → Rule s
  kept s words homes order = record {
    count = _;
    tickets = _;
    serving = _;
    callers = _;
    home = _;
    words_are = words;
    homes_are = homes;
    order = order;
  }

  -- a step that changes nothing
  unmoved : (s : St) (r : Rule s) (i id : ℕ) (me : M) → get_elem? s.views id ≡ some me.0
      → Rule (stepped s i (get_or s.words i 0) id me.1 me.0 keeps)
  unmoved s r i id me at = kept _ (set-get_or s.words i 0 ∙ r.words_are) r.homes_are
      (subst (Order lines frame fixed r.count r.tickets r.serving r.callers r.home)
      (sym (set_again s.views id me.0 at)) r.order)

  -- a ticket may be drawn
  pub may_draw : (slots id : ℕ) (me : M) (old : ℕ) → me.0.stage ≡ Idle → old < 18446744073709551615
      → Allows Rule slots id me 1 (λ x. either (eqb x old) (old + 1) x) (drew (step slots 1 old (old + 1) none) me)
  may_draw slots id me old idle room s r _ at small =
      let x : ℕ = get_or s.words 1 0 in let is : x ≡ r.tickets = ap (λ (ws : List ℕ). get_or ws 1 0) r.words_are in
      exchanged x old (old + 1)
      (λ y. (w : View) × (a : Act (Option B)) × Valid s.homes me.1 a × Rule (stepped s 1 y id me.1 w a)
      × drew (step slots 1 old (old + 1) none) me x (w, carried_after me.1 a))
      (λ hit. let tickets : r.tickets ≡ old = sym is ∙ hit in (
        waiting old me.0,
        keeps,
        tt,
        kept _ (ap (λ (ws : List ℕ). set ws 1 (old + 1)) r.words_are
            ∙ ap (λ (z : ℕ). r.count ∷ z ∷ r.serving ∷ r.callers ∷ [])
            (let e : old + 1 ≡ suc old = omega arith in e)) r.homes_are
            (subst (λ (z : ℕ). Order lines frame fixed r.count (suc z) r.serving r.callers r.home
            (set s.views id (waiting z me.0))) tickets
            (draws lines frame fixed r.count r.tickets r.serving r.callers r.home s.views r.order id me.0 at idle
            (omega arith))),
        ((λ e. ap (λ (z : ℕ). (waiting z me.0, me.1)) (sym e)), λ not. absurd (not hit)),
      ))
      (λ miss. (me.0, keeps, tt, unmoved s r 1 id me at, ((λ hit. absurd (miss hit)), λ _. refl)))

  -- the number that is served may be looked at
  pub may_look : (slots id : ℕ) (me : M) (t : ℕ) → me.0.stage ≡ Waits t
      → Allows Rule slots id me 2 (λ x. x) (looked lines frame (step slots 2 0 0 none) me)
  may_look slots id me t waits s r _ at small =
      let x : ℕ = get_or s.words 2 0 in let is : x ≡ r.serving = ap
      (λ (ws : List ℕ). get_or ws 2 0) r.words_are in dite (ℕ_discrete t x)
      (λ hit. let now : t ≡ r.serving = hit ∙ is in
      let f = finds lines frame fixed r.count r.tickets r.serving r.callers r.home s.views r.order id me.0 at
      (waits ∙ ap (λ (z : ℕ). let y : Stage = Waits z in y) now) in let b : B = f.0 in (
        finding t (lines b) me.0,
        takes 0 (Some b),
        ap (λ (hs : List (maybe.Option (Option B))). get_elem? hs 0) r.homes_are
            ∙ ap (λ (h : maybe.Option (Option B)). some h) f.1,
        kept _ (set-get_or s.words 2 0 ∙ r.words_are)
            (ap (λ (hs : List (maybe.Option (Option B))). set hs 0 none) r.homes_are)
            (subst (λ (z : ℕ). Order lines frame fixed r.count r.tickets r.serving r.callers none
            (set s.views id (finding z (lines b) me.0))) (sym now) f.3),
        λ t' e. let same : t ≡ t' = ap waits_for (sym waits ∙ e) in (
          (λ ne. absurd (ne (sym same ∙ hit))),
          λ _. (b, ap (λ (z : ℕ). (finding z (lines b) me.0, (0, Some b) ∷ me.1)) same, f.2),
        ),
      ))
      (λ miss. (
        me.0,
        keeps,
        tt,
        unmoved s r 2 id me at,
        λ t' e. let same : t ≡ t' = ap waits_for (sym waits ∙ e) in
            ((λ _. refl), λ hit. absurd (miss (same ∙ hit))),
      ))

  -- the journal of the state may be looked at
  pub may_learn : (slots id : ℕ) (me : M) (t : ℕ) (ls : List Line) → me.0.stage ≡ Found t ls
      → Allows Rule slots id me 0 (λ x. x) (learned (step slots 0 0 0 none) me)
  may_learn slots id me t ls finds_ s r _ at small =
      let learn = learns lines frame fixed r.count r.tickets r.serving r.callers r.home s.views r.order id me.0 at in (
        holding t ls me.0,
        keeps,
        tt,
        kept _ (set-get_or s.words 0 0 ∙ r.words_are) r.homes_are
            ((learn t ls finds_).3),
        λ t' ls' e. let same : t ≡ t' =
            ap found_at (sym finds_ ∙ e) in let seen : ls ≡ ls' = ap found_seen (sym finds_ ∙ e) in let q =
            learn t' ls' e in ((λ i. (holding (same i) (seen i) me.0, me.1)), q.0, q.1, q.2),
      )

  -- the entry may be counted
  pub may_record : (slots id : ℕ) (me : M) (t : ℕ) (b : B) (l : Line) → me.0.stage ≡ Holds t → me.1 ≡ (0, Some b) ∷ []
      → lines b ≡ me.0.seen ++ l ∷ [] → l.ticket ≡ t → l.caller ≡ me.0.caller
      → Allows Rule slots id me 0 (λ x. (x + 1) % 2 ^ 64) (recorded lines (step slots 0 1 0 none) me)
  may_record slots id me t b l holds hand longer ticketed by s r _ at small =
      let x : ℕ = get_or s.words 0 0 in let is : x ≡ r.count = ap (λ (ws : List ℕ). get_or ws 0 0) r.words_are in
      let q = records lines frame fixed r.count r.tickets r.serving r.callers r.home s.views r.order id me.0 at t b l
      holds longer ticketed by in
      let room = q.0 in
      let y : ℕ = (x + 1) % 18446744073709551616 in let next : y ≡ suc r.count = omega arith in (
        having_recorded t (lines b) me.0,
        keeps,
        tt,
        kept _ (ap (λ (ws : List ℕ). set ws 0 y) r.words_are
            ∙ ap (λ (z : ℕ). z ∷ r.tickets ∷ r.serving ∷ r.callers ∷ []) next) r.homes_are
            q.1,
        λ t' b' holds' hand'. let same : t ≡ t' =
            ap holds_of (sym holds ∙ holds') in let one : b ≡ b' = ap (in_hand b) (sym hand ∙ hand') in λ i.
            (having_recorded (same i) (lines (one i)) me.0, me.1),
      )

  -- the turn may be passed on
  pub may_pass_on : (slots id : ℕ) (me : M) (t : ℕ) (b : B) → has_learned me.0.stage ≡ true → HasTicket t me.0
      → me.1 ≡ (0, Some b) ∷ [] → lines b ≡ me.0.seen → frame b ≡ me.0.frame
      → Allows Rule slots id me 2 (λ x. (x + 1) % 2 ^ 64) (passed_on (step slots 2 1 0 none) me)
  may_pass_on slots id me t b learns_ ticket hand seen framed s r _ at small =
      let x : ℕ = get_or s.words 2 0 in let is : x ≡ r.serving = ap (λ (ws : List ℕ). get_or ws 2 0) r.words_are in
      let q = passes lines frame fixed r.count r.tickets r.serving r.callers r.home s.views r.order id me.0 at t b
      learns_ ticket seen framed in
      let room = q.0 in
      let y : ℕ = (x + 1) % 18446744073709551616 in let next : y ≡ suc r.serving = omega arith in (
        gone_by t me.0,
        gives,
        tt,
        kept _ (ap (λ (ws : List ℕ). set ws 2 y) r.words_are
            ∙ ap (λ (z : ℕ). r.count ∷ r.tickets ∷ z ∷ r.callers ∷ []) next) (ap (put_back s.homes) hand
            ∙ ap (λ (hs : List (maybe.Option (Option B))). set hs 0 (some (Some b))) r.homes_are)
            q.1,
        λ t' e. let same : t ≡ t' =
            same_some t t' (sym ticket ∙ e) in let empty : rest me.1 ≡ [] = ap rest hand in λ i.
            (gone_by (same i) me.0, empty i),
      )

  -- a new table keeps the rule
  pub opens : (b : B) (slots : List (Option B)) → slots ≡ Some b ∷ [] → lines b ≡ [] → frame b ≡ fixed
      → Rule (opening (0 ∷ 0 ∷ 0 ∷ 1 ∷ []) slots (newcomer fixed))
  opens b slots is fresh framed =
      subst (λ (z : List (Option B)). Rule (opening (0 ∷ 0 ∷ 0 ∷ 1 ∷ []) z (newcomer fixed))) (sym is) record {
        count = 0;
        tickets = 0;
        serving = 0;
        callers = 1;
        home = some (Some b);
        words_are = refl;
        homes_are = refl;
        order = record {
          log = [];
          counted = refl;
          begun = omega arith;
          room = omega arith;
          rises = omega arith;
          unrecorded = λ _. omega arith;
          numbered = tt;
          each = only (Suits [] 0 0 1 fixed) (newcomer fixed) (Suits-idle [] 0 0 1 fixed 0 1 0 [] fixed
              (omega arith, Grows-none 0 0 []) (omega arith) (omega arith) refl);
          longest = (0, newcomer fixed, refl, (refl, refl));
          away = only (λ u. in_turn u.stage ≡ true → some (Some b) ≡ none) (newcomer fixed) (λ e. absurd (off e));
          one_holder = λ t. alone_one (HasTicket t) (newcomer fixed);
          held = λ t low high. absurd (omega arith);
          one_caller = λ n. alone_one (HasNumber n) (newcomer fixed);
          at_home = λ _. (b, refl, fresh, framed);
        };
      }

  -- a number may be drawn for a caller to come
  pub may_name : (slots id : ℕ) (me : M) (old : ℕ) → me.0.stage ≡ Idle
      → Allows Rule slots id me 3 (λ x. either (eqb x old) (old + 1) x)
      (drew_number (step slots 3 old (old + 1) none) me)
  may_name slots id me old idle s r _ at small =
      let x : ℕ = get_or s.words 3 0 in let is : x ≡ r.callers = ap (λ (ws : List ℕ). get_or ws 3 0) r.words_are in
      exchanged x old (old + 1)
      (λ y. (w : View) × (a : Act (Option B)) × Valid s.homes me.1 a × Rule (stepped s 3 y id me.1 w a)
      × drew_number (step slots 3 old (old + 1) none) me x (w, carried_after me.1 a))
      (λ hit. let callers : r.callers ≡ old = sym is ∙ hit in
      let q = names lines frame fixed r.count r.tickets r.serving r.callers r.home s.views r.order id me.0 at idle in (
        naming old me.0,
        keeps,
        tt,
        kept _ (ap (λ (ws : List ℕ). set ws 3 (old + 1)) r.words_are
            ∙ ap (λ (z : ℕ). r.count ∷ r.tickets ∷ r.serving ∷ z ∷ [])
            (let e : old + 1 ≡ suc old = omega arith in e)) r.homes_are
            (subst (λ (z : ℕ). Order lines frame fixed r.count r.tickets r.serving (suc z) r.home
            (set s.views id (naming z me.0))) callers q.3),
        (
          (λ e. (
            ap (λ (z : ℕ). (naming z me.0, me.1)) (sym e),
            subst (λ (z : ℕ). z ≢ me.0.caller) (sym is) q.0,
            subst
                (λ (z : ℕ). Each (λ l. l.caller ≢ z) me.0.seen) (sym is) q.1,
            subst (λ (z : ℕ). me.0.callers ≤ z)
                (sym is) q.2,
          )),
          λ not_. absurd (not_ hit),
        ),
      ))
      (λ miss. (me.0, keeps, tt, unmoved s r 3 id me at, ((λ hit. absurd (miss hit)), λ _. refl)))

  -- a pass may be split off
  pub may_split : (id : ℕ) (v : View) (y : ℕ) → v.stage ≡ Named y → Splits Rule id v (settled v) (newborn v)
  may_split id v y names_ s r at = kept _ r.words_are r.homes_are
      (splits lines frame fixed r.count r.tickets r.serving r.callers r.home s.views r.order id v at y names_)

  -- a pass may be joined to another
  pub may_join : (id : ℕ) (v : View) (other : ℕ) (w : View) → v.stage ≡ Idle → w.stage ≡ Idle
      → Joins Rule id v other w (joining v w) spent
  may_join id v other w idle rested s r at apart there = kept _ r.words_are r.homes_are
      (joins lines frame fixed r.count r.tickets r.serving r.callers r.home s.views r.order id v at idle other w
      apart there rested)

  -- what a joined pass had seen may be taken in
  pub may_take_in : (slots id : ℕ) (me : M) (p : ℕ) (ls : List Line) → me.0.stage ≡ Joined p ls
      → Allows Rule slots id me 0 (λ x. x) (took_in (step slots 0 0 0 none) me)
  may_take_in slots id me p ls joins_ s r _ at small =
      let take = takes_in lines frame fixed r.count r.tickets r.serving r.callers r.home s.views r.order id me.0 at in
      let q = take p ls joins_ in (
        merged me.0,
        keeps,
        tt,
        kept _ (set-get_or s.words 0 0 ∙ r.words_are) r.homes_are
            q.2,
        λ p' ls' e. let t = take p' ls' e in (refl, t.0, t.1),
      )
