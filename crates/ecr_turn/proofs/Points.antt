-- The seven points follow from the rule of the table.
use Rattle.std.proofs.Common.{◌≡◌, ◌≢◌, ◌⊎◌, ℕ, zero, suc, ◌<◌, Bool, true, false, List, [], ◌∷◌, length, Option, Some, None, refl, sym, ap, ◌∙◌, subst, ⊎_elim, inl, inr, arith}
use mathlib.Core.Logic.{dite}
use mathlib.Core.Option.{some, some-injective, some-ne-none}
use mathlib.Core.Option as maybe
use native.Mathlib.Decide.{ℕ_discrete}
use lib.ListN.{get_elem?}
use Rattle.atomic_table.specs.Table.{State}
use Rattle.ecr_model.specs.declared.registry.journal.Line.{Line}
use Rattle.ecr_model.specs.declared.registry.journal.Frame.{Frame}
use Rattle.ecr_turn.specs.declared.board.View.{View}
use Rattle.ecr_turn.specs.declared.board.Stage.{Stage}
use Rattle.ecr_turn.specs.declared.board.Stage.TheVariants.{Idle, Waits, Found, Holds, Recorded, Named, Joined, Spent}
use Rattle.ecr_turn.specs.Turns.{named_of, in_turn, has_recorded, is_live, HasTicket, SomeOne, Numbers, ServesInOrder, HasOneJournal, TicketsRise, CallersDiffer, StateIsKept, SeesInTurn, SeesThePast, SevenPoints}
use Rattle.ecr_turn.specs.Rule.{NoneOf, Order, Kept}
use Rattle.ecr_turn.specs.Laws.{IsTurnstile}
use Rattle.ecr_turn.proofs.Views.{off, turn_ticket}
use Rattle.ecr_model.proofs.lemmas.registry.GrowthLemmas.{Each-weaker, Rises-each}
use Rattle.ecr_turn.proofs.Journals.{ordered}

none_more : (test : Stage → Bool) (x : View) (xs : List View) → test x.stage ≡ false → NoneOf test xs
    → (j : ℕ) (v : View) → get_elem? (x ∷ xs) j ≡ some v → test v.stage ≡ false
none_more test x xs isn't rest zero v e = subst (λ (z : View). test z.stage ≡ false) (some-injective x v e) isn't
none_more test x xs isn't rest (suc j) v e = rest j v e

found_more : (test : Stage → Bool) (x : View) (xs : List View) (b : Bool) → test x.stage ≡ b → NoneOf test xs
    ⊎ SomeOne (λ v. test v.stage ≡ true) xs
    → NoneOf test (x ∷ xs) ⊎ SomeOne (λ v. test v.stage ≡ true) (x ∷ xs)
found_more test x xs true e rest = inr (0, x, refl, e)
found_more test x xs false e rest =
    ⊎_elim (λ (n : NoneOf test xs). inl (none_more test x xs e n))
    (λ (s : SomeOne (λ v. test v.stage ≡ true) xs). inr (suc s.0, s.1, s.2, s.3)) rest

-- a pass at such a stage is found, or there is none
pub found : (test : Stage → Bool) (vs : List View) → NoneOf test vs ⊎ SomeOne (λ v. test v.stage ≡ true) vs
found test [] = inl (λ j v e. absurd (some-ne-none v (sym e)))
found test (x ∷ xs) = found_more test x xs (test x.stage) refl (found test xs)

recorded_in_turn : (s : Stage) → has_recorded s ≡ true → in_turn s ≡ true
recorded_in_turn Idle e = absurd (off e)
recorded_in_turn (Waits t) e = absurd (off e)
recorded_in_turn (Found t ls) e = refl
recorded_in_turn (Holds t) e = refl
recorded_in_turn (Recorded t) e = refl
recorded_in_turn (Named n) e = absurd (off e)
recorded_in_turn (Joined p ls) e = absurd (off e)
recorded_in_turn Spent e = absurd (off e)

abbrev or_else : {B : Type 0} → B → Option B → B
or_else d (Some b) = b
or_else d None = d

module _ {B : Type 0} (lines : B → List Line) (frame : B → Frame) (fixed : Frame) (c n s k : ℕ)
    (h : maybe.Option (Option B)) (vs : List View) (o : Order lines frame fixed c n s k h vs) where
  abbrev numbers : Numbers
  numbers = record { entries = c; tickets = n; serving = s; callers = k }

  first : ServesInOrder numbers vs
  first = record {
    begun = o.begun;
    held = o.held;
    once = o.one_holder;
    drawn = λ j v at. (o.each j v at).drawn;
    turn = λ j v at e. let t =
        turn_ticket v.stage e in t.1 ∙ ap (λ (z : ℕ). let x : Option ℕ = Some z in x)
        ((o.each j v at).served t.0 e t.1);
  }

  second : HasOneJournal numbers vs o.log
  second = record {
    beginnings = λ j v at live. let g = ((o.each j v at).known live).1 in (g.news, g.longer);
    ordered = λ j v at live i w there alive. let g = ((o.each j v at).known live).1 in let f =
        ((o.each i w there).known alive).1 in ordered v.seen g.news w.seen f.news (sym g.longer ∙ f.longer);
    longest = o.longest;
    counted = o.counted;
  }

  abbrev IsPlaced : Line → Type 0
  IsPlaced l = (l.ticket < s) ⊎ ((l.ticket ≡ s) × SomeOne (λ v. (has_recorded v.stage ≡ true) × HasTicket s v) vs)

  placed : SomeOne (λ v. (has_recorded v.stage ≡ true) × HasTicket s v) vs → (l : Line) → l.ticket < suc s → IsPlaced l
  placed who l lt = dite (ℕ_discrete l.ticket s) (λ e. inr (e, who)) (λ ne. inl (less l.ticket lt ne))
    where
      less : (t : ℕ) → t < suc s → t ≢ s → t < s
      less t lt ne = omega arith

  third : TicketsRise numbers vs o.log
  third = record {
    rises = o.rises;
    recorded = ⊎_elim (λ (nobody : NoneOf has_recorded vs). Each-weaker (λ l. l.ticket < s) IsPlaced
        (λ l lt. inl lt) o.log (Rises-each 0 o.log s (o.unrecorded nobody)))
        (λ (t : SomeOne (λ v. has_recorded v.stage ≡ true) vs).
        Each-weaker (λ l. l.ticket < suc s) IsPlaced
        (placed (t.0, t.1, t.2, (t.3, first.turn t.0 t.1 t.2 (recorded_in_turn t.1.stage t.3)))) o.log
        (Rises-each 0 o.log (suc s) o.rises))
        (found has_recorded vs);
  }

  fourth : CallersDiffer numbers vs o.log
  fourth = record {
    once = o.one_caller;
    given = λ j v at m number. ⊎_elim
        (λ (t : (is_live v.stage ≡ true) × (v.caller ≡ m)). subst (λ (z : ℕ). z < k) t.1
        ((o.each j v at).known t.0).0) (λ (e : named_of v.stage ≡ Some m). ((o.each j v at).promised m e).0) number;
    apart = λ j v at m e. ((o.each j v at).promised m e).1;
    entries = o.numbered;
    to_come = λ j v at m e. ((o.each j v at).promised m e).2;
    own = λ j v at live. let g = ((o.each j v at).known live).1 in (g.news, g.longer, g.others);
    aware = λ j v at. (o.each j v at).aware;
  }

  fifth : StateIsKept lines frame fixed h vs o.log
  fifth = record {
    whole = λ b e. ⊎_elim (λ (nobody : NoneOf in_turn vs). let a = o.at_home nobody in let same : a.0 ≡ b = ap
        (or_else b) (some-injective (Some a.0) (Some b) (sym a.1 ∙ e)) in
        (subst (λ (z : B). lines z ≡ o.log) same a.2, subst (λ (z : B). frame z ≡ fixed) same a.3))
        (λ (t : SomeOne (λ v. in_turn v.stage ≡ true) vs). absurd
        (some-ne-none (Some b) (sym e ∙ o.away t.0 t.1 t.2 t.3))) (found in_turn vs);
    away = ⊎_elim (λ (nobody : NoneOf in_turn vs). let a = o.at_home nobody in inl (a.0, a.1))
        (λ (t : SomeOne (λ v. in_turn v.stage ≡ true) vs). inr t) (found in_turn vs);
  }

  sixth : SeesInTurn numbers vs o.log
  sixth j v at e = let w = (o.each j v at).whole e in (w, ap length w ∙ o.counted)

  seventh : SeesThePast numbers vs o.log
  seventh = record {
    behind = λ j v at. (o.each j v at).behind;
    seen = λ j v at live. let g = ((o.each j v at).known live).1 in (g.news, g.longer, g.later);
  }

  pub points : SevenPoints lines frame fixed numbers h vs o.log
  points = record {
    first = first;
    second = second;
    third = third;
    fourth = fourth;
    fifth = fifth;
    sixth = sixth;
    seventh = seventh;
  }

-- the table of a turnstile at its numbers, with its passes and its journal
pub IsTurnstile-kept : {B : Type 0} (lines : B → List Line) (frame : B → Frame) (fixed : Frame)
    (s : State (Option B) View)
    → Kept lines frame fixed s → IsTurnstile lines frame fixed s
IsTurnstile-kept lines frame fixed s r = record {
  numbers = record { entries = r.count; tickets = r.tickets; serving = r.serving; callers = r.callers };
  home = r.home;
  journal = r.order.log;
  words_are = r.words_are;
  homes_are = r.homes_are;
  points = points lines frame fixed r.count r.tickets r.serving r.callers r.home s.views r.order;
}
