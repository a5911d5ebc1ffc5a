-- The steps that make and join callers keep the order of turns and the one journal.
use Rattle.std.proofs.Common.{◌≡◌, ◌≢◌, ℕ, suc, ◌<◌, ◌≤◌, max, true, List, [], ◌∷◌, ◌++◌, set, Option, Some, refl, sym, ap, ◌∙◌, subst, ⊎_elim, inl, inr, arith}
use mathlib.Core.Option.{some, none}
use mathlib.Core.Option as maybe
use lib.ListN.{get_elem?}
use Rattle.atomic_table.proofs.Lists.{set_else, at_longer}
use Rattle.ecr_model.specs.declared.registry.journal.Line.{Line}
use Rattle.ecr_model.specs.declared.registry.journal.Frame.{Frame}
use Rattle.ecr_turn.specs.declared.board.View.{View}
use Rattle.ecr_turn.specs.declared.board.Stage.TheVariants.{Idle, Named, Joined}
use Rattle.ecr_model.specs.registry.Growth.{Each, Grows, Follows}
use Rattle.ecr_turn.specs.Journals.{longer_of}
use Rattle.ecr_turn.specs.Turns.{ticket_of, named_of, in_turn, has_recorded, is_live, joined_past, joined_seen, HasTicket, HasNumber, HasSeen, SomeOne}
use Rattle.ecr_turn.specs.Rule.{Suits, Order}
use Rattle.ecr_turn.specs.Steps.{naming, settled, newborn, named_number, joining, spent, merged}
use Rattle.ecr_turn.proofs.Views.{off, same_some, none_some, set_at, set_each, One-set, One-kept, snoc_each, One-snoc, NoneOf-shorter}
use Rattle.ecr_model.proofs.lemmas.registry.GrowthLemmas.{Each-weaker, Grows-unnamed, Follows-first, Grows-follows, Each-left}
use Rattle.ecr_turn.proofs.Journals.{longer_of-nil, longer_of-keeps, Grows-merged, Grows-longer_of, Follows-longer_of, max_least}
use Rattle.ecr_turn.proofs.Orders.{Suits-idle, NoneOf-before, numbers_back, Some-set, still_seen, given_over, rests}

module _ {B : Type 0} (lines : B → List Line) (frame : B → Frame) (fixed : Frame) where
  abbrev Home : Type 0
  Home = maybe.Option (Option B)

  abbrev Rule : ℕ → ℕ → ℕ → ℕ → Home → List View → Type 0
  Rule = Order lines frame fixed

  -- drawing a number for a caller to come
  pub names : (c n s k : ℕ) (h : Home) (vs : List View) (o : Rule c n s k h vs) (id : ℕ) (v : View)
      → get_elem? vs id ≡ some v → v.stage ≡ Idle
      → (k ≢ v.caller) × Each (λ l. l.caller ≢ k) v.seen × (v.callers ≤ k)
      × Rule c n s (suc k) h (set vs id (naming k v))
  names c n s k h vs o id v at idle =
      let w : View = naming k v in let mine = o.each id v at in let live : is_live v.stage ≡ true =
      ap is_live idle in let known = mine.known live in let low = known.0 in let g = known.1 in (
        (λ e. omega arith),
        Each-weaker (λ l. l.caller < k) (λ l. l.caller ≢ k) (λ l lt e. omega arith) v.seen
            (Each-left (λ l. l.caller < k) v.seen g.news (subst (Each (λ l. l.caller < k)) g.longer o.numbered)),
        mine.aware,
        record {
          log = o.log;
          counted = o.counted;
          begun = o.begun;
          room = o.room;
          rises = o.rises;
          unrecorded = λ all. o.unrecorded (NoneOf-before has_recorded vs id v w at (ap has_recorded idle) all);
          numbered = Each-weaker (λ l. l.caller < k) (λ l. l.caller < suc k) (λ l lt. omega arith) o.log o.numbered;
          each = set_each (Suits o.log n s (suc k) fixed) vs id w record {
            known = λ _. (omega arith, known.1);
            aware = omega arith;
            behind = mine.behind;
            framed = λ _. mine.framed live;
            drawn = λ t e. absurd (none_some t e);
            served = λ t e _. absurd (off e);
            whole = λ e. absurd (off e);
            found = λ e. absurd (off e);
            promised = λ m e. subst (λ (z : ℕ). (z < suc k) × (z ≢ v.caller) × Each (λ l. l.caller ≢ z) o.log)
                (same_some k m e) (
                  omega arith,
                  (λ e'. omega arith),
                  Each-weaker (λ l. l.caller < k) (λ l. l.caller ≢ k)
                      (λ l lt e'. omega arith) o.log o.numbered,
                );
            joined = (omega arith, Follows-first _);
          } (λ j u other there. let its = o.each j u there in record {
            known = λ e. let q = its.known e in let q₀ = q.0 in (omega arith, q.1);
            aware = let a = its.aware in omega arith;
            behind = its.behind;
            framed = its.framed;
            drawn = its.drawn;
            served = its.served;
            whole = its.whole;
            found = its.found;
            promised = λ m e. let q = its.promised m e in let q₀ = q.0 in (omega arith, q.1, q.2);
            joined = its.joined;
          });
          longest = Some-set (HasSeen o.log) vs id v w at
              (still_seen o.log v w refl refl (sym (ap joined_seen idle))) o.longest;
          away = set_each (λ u. in_turn u.stage ≡ true → h ≡ none) vs id w (λ e. absurd (off e))
              (λ j u other there. o.away j u there);
          one_holder = λ t. One-kept (HasTicket t) vs id v w at (λ e. absurd (none_some t e)) (o.one_holder t);
          held = λ t low_ high. Some-set (HasTicket t) vs id v w at
              (λ e. absurd (none_some t (sym (ap ticket_of idle) ∙ e))) (o.held t low_ high);
          one_caller = λ m. One-set (HasNumber m) vs id w (o.one_caller m)
              (λ j u other there pu pw. ⊎_elim
              (λ (a : (is_live w.stage ≡ true) × (w.caller ≡ m)). other
              (o.one_caller m j id u v there at pu (inl (live, a.1))))
              (λ (e : named_of w.stage ≡ Some m). taken j u there m pu (same_some k m e)) pw);
          at_home = λ all. o.at_home (NoneOf-before in_turn vs id v w at (ap in_turn idle) all);
        },
      )
    where
      taken : (j : ℕ) (u : View) → get_elem? vs j ≡ some u → (m : ℕ) → HasNumber m u → k ≡ m → ⊥
      taken j u there m pu e = ⊎_elim
          (λ (a : (is_live u.stage ≡ true) × (u.caller ≡ m)). let q =
          ((o.each j u there).known a.0).0 in let a₁ = a.1 in omega arith)
          (λ (b : named_of u.stage ≡ Some m). let q = ((o.each j u there).promised m b).0 in omega arith) pu

  -- splitting a pass off for that caller
  pub splits : (c n s k : ℕ) (h : Home) (vs : List View) (o : Rule c n s k h vs) (id : ℕ) (v : View)
      → get_elem? vs id ≡ some v → (y : ℕ) → v.stage ≡ Named y
      → Rule c n s k h (set vs id (settled v) ++ newborn v ∷ [])
  splits c n s k h vs o id v at y names_ =
      let mine = o.each id v at in let live : is_live v.stage ≡ true = ap is_live names_ in let p = mine.promised y
      (ap named_of names_) in let l : View = settled v in let r : View = newborn v in
      let num : named_number v.stage ≡ y =
      ap named_number names_ in let kept = mine.known live in let suits : Suits o.log n s k fixed l =
      Suits-idle o.log n s k fixed v.caller v.callers v.past v.seen v.frame kept mine.aware mine.behind
      (mine.framed live) in let whole : SomeOne (HasSeen o.log) (set vs id l) = Some-set (HasSeen o.log) vs id v l at
      (still_seen o.log v l refl refl (sym (ap joined_seen names_))) o.longest in
      let q : Rule c n s k h (set vs id l) =
      rests lines frame fixed c n s k h vs o id v l at (ap ticket_of names_) (ap in_turn names_)
      (ap has_recorded names_) refl suits whole (λ m. numbers_back m v l live refl refl) in record {
        log = o.log;
        counted = o.counted;
        begun = o.begun;
        room = o.room;
        rises = o.rises;
        unrecorded = λ all. o.unrecorded
            (NoneOf-before has_recorded vs id v l at (ap has_recorded names_)
            (NoneOf-shorter has_recorded (set vs id l) r all));
        numbered = o.numbered;
        each = snoc_each (Suits o.log n s k fixed) (set vs id l) r
            (Suits-idle o.log n s k fixed (named_number v.stage) v.callers v.past v.seen v.frame
            (subst (λ (z : ℕ). (z < k) × Grows z v.past v.seen o.log) (sym num)
            (p.0, Grows-unnamed v.caller v.past y v.seen o.log kept.1 p.2)) mine.aware mine.behind
            (mine.framed live))
            (set_each (Suits o.log n s k fixed) vs id l suits (λ j u other there. o.each j u there));
        longest = (whole.0, whole.1, at_longer (set vs id l) (r ∷ []) whole.0 whole.1 whole.2, whole.3);
        away = snoc_each (λ u. in_turn u.stage ≡ true → h ≡ none) (set vs id l) r (λ e. absurd (off e))
            (set_each (λ u. in_turn u.stage ≡ true → h ≡ none) vs id l (λ e. absurd (off e))
            (λ j u other there. o.away j u there));
        one_holder = λ t. One-snoc (HasTicket t) (set vs id l) r (q.one_holder t) (λ j u there pu pr. none_some t pr);
        held = λ t low high. let x =
            q.held t low high in (x.0, x.1, at_longer (set vs id l) (r ∷ []) x.0 x.1 x.2, x.3);
        one_caller = λ m. One-snoc (HasNumber m) (set vs id l) r (q.one_caller m)
            (λ j u there pu pr. ⊎_elim (λ (a : (is_live r.stage ≡ true) × (r.caller ≡ m)).
            set_each (λ z. HasNumber m z → ⊥) vs id l
            (λ h'. ⊎_elim (λ (b : (is_live l.stage ≡ true) × (l.caller ≡ m)). p.1 (sym num ∙ (a.1 ∙ sym b.1)))
            (λ (b : named_of l.stage ≡ Some m). none_some m b) h')
            (λ i z other here h'. other
            (o.one_caller m i id z v here at h'
            (inr (ap named_of names_
            ∙ ap (λ (d : ℕ). let f : Option ℕ = Some d in f) (sym num ∙ a.1))))) j u there pu)
            (λ (b : named_of r.stage ≡ Some m). none_some m b) pr);
        at_home = λ all. o.at_home
            (NoneOf-before in_turn vs id v l at (ap in_turn names_) (NoneOf-shorter in_turn (set vs id l) r all));
      }

  -- joining a pass to another
  pub joins : (c n s k : ℕ) (h : Home) (vs : List View) (o : Rule c n s k h vs) (id : ℕ) (v : View)
      → get_elem? vs id ≡ some v → v.stage ≡ Idle → (other : ℕ) (w : View) → ¬ (other ≡ id)
      → get_elem? (set vs id (joining v w)) other ≡ some w → w.stage ≡ Idle
      → Rule c n s k h (set (set vs id (joining v w)) other spent)
  joins c n s k h vs o id v at idle other w apart there rested =
      let mine = o.each id v at in let live : is_live v.stage ≡ true = ap is_live idle in let b : View = joining v w in
      let its = o.each other w (sym (set_else vs id other b apart) ∙ there) in let theirs =
      its.known (ap is_live rested) in
      let q : Rule c n s k h (set vs id b) =
      rests lines frame fixed c n s k h vs o id v b at (ap ticket_of idle) (ap in_turn idle)
      (ap has_recorded idle) refl record {
        known = λ _. mine.known live;
        aware = max_least v.callers w.callers k mine.aware its.aware;
        behind = mine.behind;
        framed = λ _. mine.framed live;
        drawn = λ t e. absurd (none_some t e);
        served = λ t e _. absurd (off e);
        whole = λ e. absurd (off e);
        found = λ e. absurd (off e);
        promised = λ m e. absurd (none_some m e);
        joined = (its.behind, Grows-follows w.caller w.past w.seen o.log theirs.1);
      } (Some-set (HasSeen o.log) vs id v b at
      (λ p. let mine_whole : v.seen ≡ o.log = sym (longer_of-nil v.seen)
      ∙ (ap (λ (z : List Line). longer_of v.seen z) (sym (ap joined_seen idle)) ∙ p.1) in
      (refl, longer_of-keeps v.seen w.seen theirs.1.news (mine_whole ∙ theirs.1.longer) ∙ mine_whole)) o.longest)
      (λ m. numbers_back m v b live refl refl) in
      let here = set_at vs id v b at in let seen = (q.each id b here).known refl in
      rests lines frame fixed c n s k h (set vs id b) q other w spent there (ap ticket_of rested) (ap in_turn rested)
      (ap has_recorded rested) refl record {
        known = λ e. absurd (off e);
        aware = omega arith;
        behind = omega arith;
        framed = λ e. absurd (off e);
        drawn = λ t e. absurd (none_some t e);
        served = λ t e _. absurd (off e);
        whole = λ e. absurd (off e);
        found = λ e. absurd (off e);
        promised = λ m e. absurd (none_some m e);
        joined = (omega arith, Follows-first _);
      } (given_over q.log (set vs id b) id other b w spent (λ e. apart (sym e)) here there refl refl
      (ap joined_seen rested) seen.1.news seen.1.longer q.longest)
      (λ m x. ⊎_elim (λ (t : (is_live spent.stage ≡ true) × (spent.caller ≡ m)). absurd (off t.0))
      (λ (t : named_of spent.stage ≡ Some m). absurd (none_some m t)) x)

  -- taking in what a joined pass had seen
  pub takes_in : (c n s k : ℕ) (h : Home) (vs : List View) (o : Rule c n s k h vs) (id : ℕ) (v : View)
      → get_elem? vs id ≡ some v → (p : ℕ) (ls : List Line) → v.stage ≡ Joined p ls
      → Grows v.caller v.past v.seen (longer_of v.seen ls) × Follows p ls (longer_of v.seen ls)
      × Rule c n s k h (set vs id (merged v))
  takes_in c n s k h vs o id v at p ls joins_ =
      let mine = o.each id v at in let live : is_live v.stage ≡ true = ap is_live joins_ in let known =
      mine.known live in let jp : ℕ = joined_past v.stage in let js : List Line = joined_seen v.stage in
      let g = known.1 in let f : Follows jp js o.log =
      mine.joined.1 in let is_p : jp ≡ p = ap joined_past joins_ in let is_ls : js ≡ ls = ap joined_seen joins_ in (
        subst (λ (z : List Line). Grows v.caller v.past v.seen (longer_of v.seen z)) is_ls
            (Grows-longer_of v.caller v.past jp v.seen js o.log g f),
        subst (λ (z : ℕ × List Line). Follows z.0 z.1 (longer_of v.seen z.1)) (λ i. (is_p i, is_ls i))
            (Follows-longer_of v.caller v.past jp v.seen js o.log g f),
        rests lines frame fixed c n s k h vs o id v (merged v) at (ap ticket_of joins_) (ap in_turn joins_)
            (ap has_recorded joins_) refl
            (Suits-idle o.log n s k fixed v.caller v.callers (max v.past jp) (longer_of v.seen js) v.frame
            (known.0, Grows-merged v.caller v.past jp v.seen js o.log g f) mine.aware
            (max_least v.past jp s mine.behind mine.joined.0) (mine.framed live))
            (Some-set (HasSeen o.log) vs id v (merged v) at
            (λ p. (refl, longer_of-nil (longer_of v.seen js) ∙ p.1)) o.longest)
            (λ m. numbers_back m v (merged v) live refl refl),
      )
