-- The steps of a turn keep the order of turns and the one journal: drawing, finding, recording, passing on.
use Rattle.std.proofs.Common.{◌≡◌, ◌≢◌, ℕ, suc, ◌<◌, ◌≤◌, true, false, List, [], ◌∷◌, ◌++◌, set, Option, Some, refl, sym, ap, ◌∙◌, subst, inl, inr, arith, length-append}
use mathlib.Core.Logic.{dite}
use mathlib.Core.Option.{some, none}
use mathlib.Core.Option as maybe
use native.Mathlib.Decide.{ℕ_discrete}
use lib.ListN.{get_elem?}
use Rattle.ecr_model.specs.declared.registry.journal.Line.{Line}
use Rattle.ecr_model.specs.declared.registry.journal.Frame.{Frame}
use Rattle.ecr_turn.specs.declared.board.View.{View}
use Rattle.ecr_turn.specs.declared.board.Stage.TheVariants.{Idle, Waits, Found, Holds}
use Rattle.ecr_model.specs.registry.Growth.{Rises, Grows}
use Rattle.ecr_turn.specs.Turns.{ticket_of, in_turn, has_recorded, is_live, has_learned, is_found, found_seen, joined_past, joined_seen, HasTicket, HasNumber, HasSeen}
use Rattle.ecr_turn.specs.Rule.{NoneOf, Suits, Order}
use Rattle.ecr_turn.specs.Steps.{waiting, finding, holding, having_recorded, gone_by}
use Rattle.ecr_turn.proofs.Views.{off, same_some, none_some, recorded_turn, learned_turn, found_turn, set_at, same_view, set_each, One-set, One-kept}
use Rattle.ecr_model.proofs.lemmas.registry.GrowthLemmas.{Each-snoc, Follows-first, Follows-snoc, Rises-higher, Rises-snoc, Rises-length, Grows-none, Grows-snoc}
use Rattle.ecr_turn.proofs.Journals.{longer_of-nil}
use Rattle.ecr_turn.proofs.Orders.{Suits-idle, turn_live, NoneOf-before, numbers_back, Some-set, still_seen, alone}

module _ {B : Type 0} (lines : B → List Line) (frame : B → Frame) (fixed : Frame) where
  abbrev Home : Type 0
  Home = maybe.Option (Option B)

  abbrev Rule : ℕ → ℕ → ℕ → ℕ → Home → List View → Type 0
  Rule = Order lines frame fixed

  -- drawing a ticket
  pub draws : (c n s k : ℕ) (h : Home) (vs : List View) (o : Rule c n s k h vs) (id : ℕ) (v : View)
      → get_elem? vs id ≡ some v → v.stage ≡ Idle → suc n < 18446744073709551616
      → Rule c (suc n) s k h (set vs id (waiting n v))
  draws c n s k h vs o id v at idle room =
      let w : View = waiting n v in let mine = o.each id v at in let begun = o.begun in record {
        log = o.log;
        counted = o.counted;
        begun = omega arith;
        room = room;
        rises = o.rises;
        unrecorded = λ all. o.unrecorded (NoneOf-before has_recorded vs id v w at (ap has_recorded idle) all);
        numbered = o.numbered;
        each = set_each (Suits o.log (suc n) s k fixed) vs id w record {
          known = λ _. mine.known (ap is_live idle);
          aware = mine.aware;
          behind = mine.behind;
          framed = λ _. mine.framed (ap is_live idle);
          drawn = λ t e. let e' : n ≡ t = same_some n t e in (omega arith, omega arith);
          served = λ t e _. absurd (off e);
          whole = λ e. absurd (off e);
          found = λ e. absurd (off e);
          promised = λ m e. absurd (none_some m e);
          joined = (omega arith, Follows-first _);
        } (λ j u other there. let its = o.each j u there in record {
          known = its.known;
          aware = its.aware;
          behind = its.behind;
          framed = its.framed;
          drawn = λ t e. let d = its.drawn t e in let d₁ = d.1 in (d.0, omega arith);
          served = its.served;
          whole = its.whole;
          found = its.found;
          promised = its.promised;
          joined = its.joined;
        });
        longest = Some-set (HasSeen o.log) vs id v w at
            (still_seen o.log v w refl refl (sym (ap joined_seen idle))) o.longest;
        away = set_each (λ u. in_turn u.stage ≡ true → h ≡ none) vs id w (λ e. absurd (off e))
            (λ j u other there. o.away j u there);
        one_holder = λ t. One-set (HasTicket t) vs id w (o.one_holder t)
            (λ j u other there pu pw. let d = (o.each j u there).drawn t pu in let d₁ = d.1 in let e : n
            ≡ t = same_some n t pw in omega arith);
        held = λ t low high. dite (ℕ_discrete n t)
            (λ e. (id, w, set_at vs id v w at, ap (λ (z : ℕ). let x : Option ℕ = Some z in x) e))
            (λ ne. Some-set (HasTicket t) vs id v w at (λ e. absurd (none_some t (sym (ap ticket_of idle) ∙ e)))
            (o.held t low (below t high ne)));
        one_caller = λ m. One-kept (HasNumber m) vs id v w at (numbers_back m v w (ap is_live idle) refl refl)
            (o.one_caller m);
        at_home = λ all. o.at_home (NoneOf-before in_turn vs id v w at (ap in_turn idle) all);
      }
    where
      below : (t : ℕ) → t < suc n → n ≢ t → t < n
      below t lt ne = omega arith

  -- finding the turn and the state
  pub finds : (c n s k : ℕ) (h : Home) (vs : List View) (o : Rule c n s k h vs) (id : ℕ) (v : View)
      → get_elem? vs id ≡ some v → v.stage ≡ Waits s
      → (b : B) × (h ≡ some (Some b)) × (frame b ≡ v.frame) × Rule c n s k none (set vs id (finding s (lines b) v))
  finds c n s k h vs o id v at waits =
      let mine = o.each id v at in let ticket : HasTicket s v = ap ticket_of waits in let live : is_live v.stage
      ≡ true = ap is_live waits in
      let nobody : NoneOf in_turn vs =
      λ j u there. dite (ℕ_discrete j id)
      (λ e. subst (λ (z : View). in_turn z.stage ≡ false)
      (same_view vs id v u at (subst (λ (z : ℕ). get_elem? vs z ≡ some u) e there)) (ap in_turn waits))
      (λ ne. alone lines frame fixed c n s k h vs o id v at ticket j u ne there) in
      let home = o.at_home nobody in let b : B =
      home.0 in let is : lines b ≡ o.log = home.2 in let w : View = finding s (lines b) v in let known =
      mine.known live in
      let low : Rises 0 o.log s = o.unrecorded (λ j u there. recorded_turn u.stage (nobody j u there)) in (
        b,
        home.1,
        home.3 ∙ sym (mine.framed live),
        record {
          log = o.log;
          counted = o.counted;
          begun = o.begun;
          room = o.room;
          rises = o.rises;
          unrecorded = λ _. low;
          numbered = o.numbered;
          each = set_each (Suits o.log n s k fixed) vs id w record {
            known = λ _. known;
            aware = mine.aware;
            behind = mine.behind;
            framed = λ _. mine.framed live;
            drawn = λ t e. mine.drawn t (ticket ∙ e);
            served = λ t _ e. sym (same_some s t e);
            whole = λ e. absurd (off e);
            found = λ _. is;
            promised = λ m e. absurd (none_some m e);
            joined = (omega arith, Follows-first _);
          } (λ j u other there. o.each j u there);
          longest = Some-set (HasSeen o.log) vs id v w at
              (still_seen o.log v w refl refl (sym (ap joined_seen waits))) o.longest;
          away = λ j u there e. refl;
          one_holder = λ t. One-kept (HasTicket t) vs id v w at (λ e. ticket ∙ e) (o.one_holder t);
          held = λ t low_ high. Some-set (HasTicket t) vs id v w at (λ e. sym ticket ∙ e) (o.held t low_ high);
          one_caller = λ m. One-kept (HasNumber m) vs id v w at (numbers_back m v w live refl refl) (o.one_caller m);
          at_home = λ all. absurd (off (sym (all id w (set_at vs id v w at))));
        },
      )

  -- seeing the journal of the state
  pub learns : (c n s k : ℕ) (h : Home) (vs : List View) (o : Rule c n s k h vs) (id : ℕ) (v : View)
      → get_elem? vs id ≡ some v → (t : ℕ) (ls : List Line) → v.stage ≡ Found t ls
      → (v.past ≤ t) × Grows v.caller v.past v.seen ls × Rises 0 ls t × Rule c n s k h (set vs id (holding t ls v))
  learns c n s k h vs o id v at t ls finds_ =
      let mine = o.each id v at in let ticket : HasTicket t v = ap ticket_of finds_ in let live : is_live v.stage
      ≡ true = ap is_live finds_ in
      let turn : in_turn v.stage ≡ true =
      ap in_turn finds_ in let now : t ≡ s = mine.served t turn ticket in let w : View =
      holding t ls v in let known = mine.known live in
      let served : HasTicket s v =
      ticket ∙ ap (λ (z : ℕ). let x : Option ℕ = Some z in x) now in let is : ls ≡ o.log = sym
      (ap found_seen finds_) ∙ mine.found (ap is_found finds_) in
      let unrecorded : NoneOf has_recorded vs =
      λ j u there. dite (ℕ_discrete j id)
      (λ e. subst (λ (z : View). has_recorded z.stage ≡ false)
      (same_view vs id v u at (subst (λ (z : ℕ). get_elem? vs z ≡ some u) e there)) (ap has_recorded finds_))
      (λ ne. recorded_turn u.stage (alone lines frame fixed c n s k h vs o id v at served j u ne there)) in
      let low : Rises 0 o.log s = o.unrecorded unrecorded in (
        subst (λ (z : ℕ). v.past ≤ z) (sym now) mine.behind,
        subst (Grows v.caller v.past v.seen) (sym is) known.1,
        subst (λ (z : List Line). Rises 0 z t) (sym is) (subst (λ (z : ℕ). Rises 0 o.log z) (sym now) low),
        record {
          log = o.log;
          counted = o.counted;
          begun = o.begun;
          room = o.room;
          rises = o.rises;
          unrecorded = λ _. low;
          numbered = o.numbered;
          each = set_each (Suits o.log n s k fixed) vs id w record {
            known = λ _. (
              known.0,
              subst (λ (z : List Line). Grows v.caller v.past z o.log) (sym is)
                  (Grows-none v.caller v.past o.log),
            );
            aware = mine.aware;
            behind = mine.behind;
            framed = λ _. mine.framed live;
            drawn = λ u e. mine.drawn u (ticket ∙ e);
            served = λ u _ e. sym (same_some t u e) ∙ now;
            whole = λ _. is;
            found = λ e. absurd (off e);
            promised = λ m e. absurd (none_some m e);
            joined = (omega arith, Follows-first _);
          } (λ j u other there. o.each j u there);
          longest = (id, w, set_at vs id v w at, (refl, longer_of-nil ls ∙ is));
          away = λ j u there e. o.away id v at turn;
          one_holder = λ u. One-kept (HasTicket u) vs id v w at (λ e. ticket ∙ e) (o.one_holder u);
          held = λ u low_ high. Some-set (HasTicket u) vs id v w at (λ e. sym ticket ∙ e) (o.held u low_ high);
          one_caller = λ m. One-kept (HasNumber m) vs id v w at (numbers_back m v w live refl refl) (o.one_caller m);
          at_home = λ all. absurd (off (sym (all id w (set_at vs id v w at))));
        },
      )

  -- counting the entry of the turn
  pub records : (c n s k : ℕ) (h : Home) (vs : List View) (o : Rule c n s k h vs) (id : ℕ) (v : View)
      → get_elem? vs id ≡ some v → (t : ℕ) (b : B) (l : Line) → v.stage ≡ Holds t
      → lines b ≡ v.seen ++ l ∷ [] → l.ticket ≡ t → l.caller ≡ v.caller → (suc c < 18446744073709551616)
      × Rule (suc c) n s k h (set vs id (having_recorded t (lines b) v))
  records c n s k h vs o id v at t b l holds longer ticketed by =
      let mine = o.each id v at in let ticket : HasTicket t v = ap ticket_of holds in let live : is_live v.stage
      ≡ true = ap is_live holds in
      let turn : in_turn v.stage ≡ true =
      ap in_turn holds in let now : t ≡ s = mine.served t turn ticket in let w : View = having_recorded t
      (lines b) v in let known = mine.known live in
      let served : HasTicket s v = ticket ∙ ap (λ (z : ℕ). let x : Option ℕ = Some z in x) now in
      let log : List Line = o.log ++ l ∷ [] in let is : lines b ≡ log =
      longer ∙ ap (λ (z : List Line). z ++ l ∷ []) (mine.whole (ap has_learned holds)) in
      let nobody : (j : ℕ) (u : View) → j ≢ id → get_elem? vs j ≡ some u → in_turn u.stage ≡ false =
      alone lines frame fixed c n s k h vs o id v at served in
      let unrecorded : NoneOf has_recorded vs =
      λ j u there. dite (ℕ_discrete j id)
      (λ e. subst (λ (z : View). has_recorded z.stage ≡ false)
      (same_view vs id v u at (subst (λ (z : ℕ). get_elem? vs z ≡ some u) e there)) (ap has_recorded holds))
      (λ ne. recorded_turn u.stage (nobody j u ne there)) in
      let low : Rises 0 o.log s =
      o.unrecorded unrecorded in let size = Rises-length 0 o.log s low in let drawn =
      mine.drawn t ticket in let d₁ = drawn.1 in let room = o.room in let counted = o.counted in
      let one_more = length-append o.log (l ∷ []) in (
        omega arith,
        record {
          log = log;
          counted = omega arith;
          begun = o.begun;
          room = o.room;
          rises = Rises-snoc 0 o.log l s (ticketed ∙ now) low;
          unrecorded = λ all. absurd (off (sym (all id w (set_at vs id v w at))));
          numbered = Each-snoc (λ (x : Line). x.caller < k) o.log l o.numbered
              (subst (λ (z : ℕ). z < k) (sym by) known.0);
          each = set_each (Suits log n s k fixed) vs id w record {
            known = λ _. (
              known.0,
              subst (λ (z : List Line). Grows v.caller v.past z log) (sym is)
                  (Grows-none v.caller v.past log),
            );
            aware = mine.aware;
            behind = mine.behind;
            framed = λ _. mine.framed live;
            drawn = λ u e. mine.drawn u (ticket ∙ e);
            served = λ u _ e. sym (same_some t u e) ∙ now;
            whole = λ _. is;
            found = λ e. absurd (off e);
            promised = λ m e. absurd (none_some m e);
            joined = (omega arith, Follows-first _);
          } (λ j u other there. let its =
              o.each j u there in let out = nobody j u other there in let behind =
              its.behind in let late : u.past ≤ l.ticket = subst (λ (z : ℕ). u.past ≤ z)
              (sym (ticketed ∙ now)) behind in record {
                known = λ e. let k' = its.known e in (
                  k'.0,
                  Grows-snoc u.caller u.past u.seen o.log l k'.1
                      (λ same. other (o.one_caller v.caller j id u v there at (inl (e, sym same ∙ by))
                      (inl (live, refl)))) late,
                );
                aware = its.aware;
                behind = its.behind;
                framed = its.framed;
                drawn = its.drawn;
                served = its.served;
                whole = λ e. absurd (off (sym out ∙ learned_turn u.stage e));
                found = λ e. absurd (off (sym out ∙ found_turn u.stage e));
                promised = λ m e. let p = its.promised m e in (
                  p.0,
                  p.1,
                  Each-snoc (λ x. x.caller ≢ m) o.log l p.2
                      (λ same. other (o.one_caller v.caller j id u v there at
                      (inr (e ∙ ap (λ (z : ℕ). let x : Option ℕ = Some z in x) (sym same ∙ by))) (inl (live, refl)))),
                );
                joined = let q = its.joined in (
                  q.0,
                  Follows-snoc (joined_past u.stage) (joined_seen u.stage) o.log l q.1
                      (subst (λ (z : ℕ). joined_past u.stage ≤ z) (sym (ticketed ∙ now)) q.0),
                );
              });
          longest = (id, w, set_at vs id v w at, (refl, longer_of-nil (lines b) ∙ is));
          away = λ j u there e. o.away id v at turn;
          one_holder = λ u. One-kept (HasTicket u) vs id v w at (λ e. ticket ∙ e) (o.one_holder u);
          held = λ u low_ high. Some-set (HasTicket u) vs id v w at (λ e. sym ticket ∙ e) (o.held u low_ high);
          one_caller = λ m. One-kept (HasNumber m) vs id v w at (numbers_back m v w live refl refl) (o.one_caller m);
          at_home = λ all. absurd (off (sym (all id w (set_at vs id v w at))));
        },
      )

  -- passing the turn on
  pub passes : (c n s k : ℕ) (h : Home) (vs : List View) (o : Rule c n s k h vs) (id : ℕ) (v : View)
      → get_elem? vs id ≡ some v → (t : ℕ) (b : B) → has_learned v.stage ≡ true → HasTicket t v
      → lines b ≡ v.seen → frame b ≡ v.frame → (suc s < 18446744073709551616)
      × Rule c n (suc s) k (some (Some b)) (set vs id (gone_by t v))
  passes c n s k h vs o id v at t b learned ticket seen framed =
      let mine = o.each id v at in let turn = learned_turn v.stage learned in let live : is_live v.stage ≡ true =
      turn_live v.stage turn in let now : t ≡ s = mine.served t turn ticket in
      let w : View = gone_by t v in let known =
      mine.known live in let whole = mine.whole learned in let served : HasTicket s v = ticket
      ∙ ap (λ (z : ℕ). let x : Option ℕ = Some z in x) now in
      let nobody : (j : ℕ) (u : View) → j ≢ id → get_elem? vs j ≡ some u → in_turn u.stage ≡ false =
      alone lines frame fixed c n s k h vs o id v at served in
      let drawn = mine.drawn t ticket in let d₁ = drawn.1 in let room = o.room in (
        omega arith,
        record {
          log = o.log;
          counted = o.counted;
          begun = omega arith;
          room = o.room;
          rises = Rises-higher 0 o.log (suc s) (suc (suc s)) (omega arith) o.rises;
          unrecorded = λ _. o.rises;
          numbered = o.numbered;
          each = set_each (Suits o.log n (suc s) k fixed) vs id w
              (Suits-idle o.log n (suc s) k fixed v.caller v.callers (suc t) v.seen v.frame (
                known.0,
                subst (λ (z : List Line). Grows v.caller (suc t) z o.log) (sym whole)
                    (Grows-none v.caller (suc t) o.log),
              ) mine.aware (omega arith) (mine.framed live)) (λ j u other there. let its =
              o.each j u there in let out = nobody j u other there in let behind = its.behind in record {
                known = its.known;
                aware = its.aware;
                behind = omega arith;
                framed = its.framed;
                drawn = λ x e. let d = its.drawn x e in (
                  above x d.0 (λ same. other
                      (o.one_holder s j id u v there at
                      (e ∙ ap (λ (z : ℕ). let y : Option ℕ = Some z in y) same) served)),
                  d.1,
                );
                served = λ x e _. absurd (off (sym out ∙ e));
                whole = λ e. absurd (off (sym out ∙ learned_turn u.stage e));
                found = λ e. absurd (off (sym out ∙ found_turn u.stage e));
                promised = its.promised;
                joined = let q = its.joined in let q₀ = q.0 in (omega arith, q.1);
              });
          longest = (id, w, set_at vs id v w at, (refl, longer_of-nil v.seen ∙ whole));
          away = set_each (λ u. in_turn u.stage ≡ true → some (Some b) ≡ none) vs id w (λ e. absurd (off e))
              (λ j u other there e. absurd (off (sym (nobody j u other there) ∙ e)));
          one_holder = λ u. One-kept (HasTicket u) vs id v w at (λ e. absurd (none_some u e)) (o.one_holder u);
          held = λ u low high. Some-set (HasTicket u) vs id v w at
              (λ e. let same : t ≡ u = same_some t u (sym ticket ∙ e) in absurd (omega arith))
              (o.held u (weaker u low) high);
          one_caller = λ m. One-kept (HasNumber m) vs id v w at (numbers_back m v w live refl refl) (o.one_caller m);
          at_home = λ _. (b, refl, seen ∙ whole, framed ∙ mine.framed live);
        },
      )
    where
      above : (x : ℕ) → s ≤ x → (x ≡ s → ⊥) → suc s ≤ x
      above x le ne = dite (ℕ_discrete x s) (λ e. absurd (ne e)) (λ d. apart x le d)
        where
          apart : (x : ℕ) → s ≤ x → x ≢ s → suc s ≤ x
          apart x le d = omega arith

      weaker : (x : ℕ) → suc s ≤ x → s ≤ x
      weaker x le = omega arith
