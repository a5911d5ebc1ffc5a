-- Laws of stages and of lists of views.
use Rattle.std.proofs.Common.{◌≡◌, ◌≢◌, ◌⊎◌, ℕ, zero, suc, Bool, true, false, true≢false, List, [], ◌∷◌, set, Option, Some, None, refl, sym, ap, ◌∙◌, subst, ⊎_elim, inl, inr, ◌++◌, length}
use mathlib.Core.Option.{some, some-injective, some-ne-none}
use lib.ListN.{get_elem?}
use Rattle.atomic_table.proofs.Lists.{at_set, at_longer}
use Rattle.ecr_turn.specs.declared.board.View.{View}
use Rattle.ecr_turn.specs.declared.board.Stage.{Stage}
use Rattle.ecr_turn.specs.declared.board.Stage.TheVariants.{Idle, Waits, Found, Holds, Recorded, Named, Joined, Spent}
use Rattle.ecr_turn.specs.Turns.{ticket_of, in_turn, has_learned, is_found, has_recorded, One}
use Rattle.ecr_turn.specs.Rule.{NoneOf}

-- false is not true
pub off : false ≡ true → ⊥
off e = true≢false (sym e)

-- what is not true is false
pub is_false : (b : Bool) → (b ≡ true → ⊥) → b ≡ false
is_false true no_ = absurd (no_ refl)
is_false false no_ = refl

-- the number, or another where there is none
abbrev pub value_or : ℕ → Option ℕ → ℕ
value_or d (Some n) = n
value_or d None = d

-- a number is there
abbrev pub is_some : Option ℕ → Bool
is_some (Some n) = true
is_some None = false

-- two numbers that are there are one
pub same_some : (a b : ℕ) → Some a ≡ Some b → a ≡ b
same_some a b e = ap (value_or 0) e

-- none is no number
pub none_some : (a : ℕ) → None ≡ Some a → ⊥
none_some a e = off (ap is_some e)

-- a pass in its turn has a ticket
pub turn_ticket : (s : Stage) → in_turn s ≡ true → (t : ℕ) × (ticket_of s ≡ Some t)
turn_ticket Idle e = absurd (off e)
turn_ticket (Waits t) e = absurd (off e)
turn_ticket (Found t ls) e = (t, refl)
turn_ticket (Holds t) e = (t, refl)
turn_ticket (Recorded t) e = (t, refl)
turn_ticket (Named n) e = absurd (off e)
turn_ticket (Joined p ls) e = absurd (off e)
turn_ticket Spent e = absurd (off e)

-- a pass that has looked at the journal is in its turn
pub learned_turn : (s : Stage) → has_learned s ≡ true → in_turn s ≡ true
learned_turn Idle e = absurd (off e)
learned_turn (Waits t) e = absurd (off e)
learned_turn (Found t ls) e = refl
learned_turn (Holds t) e = refl
learned_turn (Recorded t) e = refl
learned_turn (Named n) e = absurd (off e)
learned_turn (Joined p ls) e = absurd (off e)
learned_turn Spent e = absurd (off e)

-- a pass that is to look at the journal is in its turn
pub found_turn : (s : Stage) → is_found s ≡ true → in_turn s ≡ true
found_turn Idle e = absurd (off e)
found_turn (Waits t) e = absurd (off e)
found_turn (Found t ls) e = refl
found_turn (Holds t) e = refl
found_turn (Recorded t) e = refl
found_turn (Named n) e = absurd (off e)
found_turn (Joined p ls) e = absurd (off e)
found_turn Spent e = absurd (off e)

-- a pass in no turn has counted no entry
pub recorded_turn : (s : Stage) → in_turn s ≡ false → has_recorded s ≡ false
recorded_turn Idle e = refl
recorded_turn (Waits t) e = refl
recorded_turn (Found t ls) e = refl
recorded_turn (Holds t) e = refl
recorded_turn (Recorded t) e = absurd (off (sym e))
recorded_turn (Named n) e = refl
recorded_turn (Joined p ls) e = refl
recorded_turn Spent e = refl

-- the view that was set stands at its place
pub set_at : (l : List View) (i : ℕ) (a b : View) → get_elem? l i ≡ some a → get_elem? (set l i b) i ≡ some b
set_at [] i a b e = absurd (some-ne-none a (sym e))
set_at (x ∷ xs) zero a b e = refl
set_at (x ∷ xs) (suc i) a b e = set_at xs i a b e

-- two views at one place are one
pub same_view : (l : List View) (i : ℕ) (v w : View) → get_elem? l i ≡ some v → get_elem? l i ≡ some w → v ≡ w
same_view l i v w e f = some-injective v w (sym e ∙ f)

-- each view has P where the one that was set has it, and the others
pub set_each : (P : View → Type 0) (l : List View) (i : ℕ) (w : View) → P w
    → ((j : ℕ) (u : View) → j ≢ i → get_elem? l j ≡ some u → P u) → (j : ℕ) (u : View)
    → get_elem? (set l i w) j ≡ some u → P u
set_each P l i w mine others j u e =
    ⊎_elim (λ (t : (j ≡ i) × (w ≡ u)). subst P t.1 mine)
    (λ (t : (j ≢ i) × (get_elem? l j ≡ some u)). others j u t.0 t.1) (at_set l i j w u e)

-- one view at most has P, also where w stands at i, if no other view has it where w does
pub One-set : (P : View → Type 0) (l : List View) (i : ℕ) (w : View) → One P l
    → ((j : ℕ) (u : View) → j ≢ i → get_elem? l j ≡ some u → P u → P w → ⊥) → One P (set l i w)
One-set P l i w one apart j k u v ju kv pu pv =
    ⊎_elim (λ (s : (j ≡ i) × (w ≡ u)). ⊎_elim (λ (t : (k ≡ i) × (w ≡ v)). s.0 ∙ sym t.0)
    (λ (t : (k ≢ i) × (get_elem? l k ≡ some v)). absurd (apart k v t.0 t.1 pv (subst P (sym s.1) pu)))
    (at_set l i k w v kv))
    (λ (s : (j ≢ i) × (get_elem? l j ≡ some u)). ⊎_elim
    (λ (t : (k ≡ i) × (w ≡ v)). absurd (apart j u s.0 s.1 pu (subst P (sym t.1) pv)))
    (λ (t : (k ≢ i) × (get_elem? l k ≡ some v)). one j k u v s.1 t.1 pu pv) (at_set l i k w v kv))
    (at_set l i j w u ju)

-- the same where the view that stood at i had it too
pub One-kept : (P : View → Type 0) (l : List View) (i : ℕ) (v w : View) → get_elem? l i ≡ some v → (P w → P v)
    → One P l → One P (set l i w)
One-kept P l i v w at back one =
    One-set P l i w one (λ j u other there pu pw. other (one j i u v there at pu (back pw)))

at_end : (l : List View) (a b : View) (j : ℕ) → get_elem? (l ++ a ∷ []) j ≡ some b → (get_elem? l j ≡ some b)
    ⊎ ((j ≡ length l) × (a ≡ b))
at_end [] a b zero e = inr (refl, some-injective a b e)
at_end [] a b (suc j) e = absurd (some-ne-none b (sym e))
at_end (x ∷ xs) a b zero e = inl e
at_end (x ∷ xs) a b (suc j) e =
    ⊎_elim (λ (t : get_elem? xs j ≡ some b). inl t) (λ (t : (j ≡ length xs) × (a ≡ b)). inr (ap suc t.0, t.1))
    (at_end xs a b j e)

-- each view has P where the last one has it, and the others
pub snoc_each : (P : View → Type 0) (l : List View) (w : View) → P w
    → ((j : ℕ) (u : View) → get_elem? l j ≡ some u → P u) → (j : ℕ) (u : View) → get_elem? (l ++ w ∷ []) j ≡ some u
    → P u
snoc_each P l w mine others j u e =
    ⊎_elim (λ (t : get_elem? l j ≡ some u). others j u t) (λ (t : (j ≡ length l) × (w ≡ u)). subst P t.1 mine)
    (at_end l w u j e)

-- one view at most has P, also with a last one that shares it with none
pub One-snoc : (P : View → Type 0) (l : List View) (w : View) → One P l
    → ((j : ℕ) (u : View) → get_elem? l j ≡ some u → P u → P w → ⊥) → One P (l ++ w ∷ [])
One-snoc P l w one apart j k u v ju kv pu pv =
    ⊎_elim (λ (s : get_elem? l j ≡ some u). ⊎_elim (λ (t : get_elem? l k ≡ some v). one j k u v s t pu pv)
    (λ (t : (k ≡ length l) × (w ≡ v)). absurd (apart j u s pu (subst P (sym t.1) pv))) (at_end l w v k kv))
    (λ (s : (j ≡ length l) × (w ≡ u)). ⊎_elim
    (λ (t : get_elem? l k ≡ some v). absurd (apart k v t pv (subst P (sym s.1) pu)))
    (λ (t : (k ≡ length l) × (w ≡ v)). s.0 ∙ sym t.0) (at_end l w v k kv))
    (at_end l w u j ju)

-- no view is at such a stage without the last one either
pub NoneOf-shorter : (test : Stage → Bool) (l : List View) (w : View) → NoneOf test (l ++ w ∷ []) → NoneOf test l
NoneOf-shorter test l w all j u there = all j u (at_longer l (w ∷ []) j u there)
