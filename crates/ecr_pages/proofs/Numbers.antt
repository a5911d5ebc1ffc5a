-- Numbers as keys, truth values, and look-ups.
use Rattle.std.proofs.Common.{◌≡◌, ◌||◌, ◌&&◌, ℕ, Bool, true, false, cond, List, [], ◌∷◌, Option, None, Some, is_some, refl, sym, ap, ◌∙◌}
use mathlib.Core.Bool.{true≢false}
use Rattle.std.proofs.lemmas.Map.Lookups.{exact_unsigned}
use Rattle.std.specs.BTreeMap.{is_at}
use Rattle.std.specs.Cmp.{Equal-is, tied_itself, nat_cmp_total, eq_by_cmp_equiv}
use Rattle.std.specs.Map.{keys_of}
use Rattle.std.specs.Option.{option_flatten}
use Rattle.std.specs.Ordering.{nat_cmp, eq_by_cmp}
use Rattle.ecr_pages.specs.Places.{at, is_one_of}

pub no_way : {A : Type 0} → true ≡ false → A
no_way e = absurd (true≢false e)

pub tied_same : (a b : ℕ) → eq_by_cmp nat_cmp a b ≡ true → a ≡ b
tied_same a b e = exact_unsigned a b ((Equal-is (nat_cmp a b)).0 e)

pub tied_self : (a : ℕ) → eq_by_cmp nat_cmp a a ≡ true
tied_self a = (Equal-is (nat_cmp a a)).1 (tied_itself nat_cmp_total a)

pub tied_back : (a b : ℕ) → eq_by_cmp nat_cmp a b ≡ eq_by_cmp nat_cmp b a
tied_back a b = (eq_by_cmp_equiv nat_cmp_total).symm a b

pub or_left : (a b : Bool) → a ≡ true → (a || b) ≡ true
or_left a b e = ap (λ x. x || b) e

or_true : (a : Bool) → (a || true) ≡ true
or_true true = refl
or_true false = refl

pub or_right : (a b : Bool) → b ≡ true → (a || b) ≡ true
or_right a b e = ap (λ x. a || x) e ∙ or_true a

-- where what is there is covered, it is there
pub covered : {A : Type 0} (m : Bool) (o : Option A) → (is_some o ≡ true → m ≡ true) → cond m o None ≡ o
covered true o h = refl
covered false None h = refl
covered false (Some x) h = no_way (sym (h refl))

pub covered_test : (m b : Bool) → (b ≡ true → m ≡ true) → (m && b) ≡ b
covered_test true b h = refl
covered_test false false h = refl
covered_test false true h = h refl

-- two tests of which each implies the other
pub same_test : (a b : Bool) → (a ≡ true → b ≡ true) → (b ≡ true → a ≡ true) → a ≡ b
same_test true b f g = sym (f refl)
same_test false true f g = g refl
same_test false false f g = refl

pub some_flat : {A : Type 0} (o : Option (Option A)) → is_some (option_flatten o) ≡ true → is_some o ≡ true
some_flat None h = h
some_flat (Some o) h = refl

pub flat_cond : {A : Type 0} (b : Bool) (o : Option A) (x : Option (Option A))
    → option_flatten (cond b (Some o) x) ≡ cond b o (option_flatten x)
flat_cond true o x = refl
flat_cond false o x = refl

-- a key is there exactly where it is one of the keys
pub is_some-at : {X : Type 0} (entries : List (ℕ × X)) (q : ℕ) → is_some (at entries q) ≡ is_one_of (keys_of entries) q
is_some-at [] q = refl
is_some-at (e ∷ entries) q =
    elim (eq_by_cmp nat_cmp q e.0) as
    (λ b. is_some (cond b (Some e.1) (at entries q)) ≡ (b || is_one_of (keys_of entries) q)) [
      | true ↦ refl
      | false ↦ is_some-at entries q
    ]

-- what is written at a key that is there leaves what is there
pub is_some-written : {X : Type 0} (old new : List (ℕ × X)) (k : ℕ) (x y : X) → at old k ≡ Some x
    → ((q : ℕ) → at new q ≡ cond (is_at (nat_cmp k) q) (Some y) (at old q)) → (q : ℕ)
    → is_some (at new q) ≡ is_some (at old q)
is_some-written old new k x y found is q =
    ap is_some (is q)
    ∙ (elim (eq_by_cmp nat_cmp k q) as (λ b. eq_by_cmp nat_cmp k q ≡ b
    → is_some (cond b (Some y) (at old q)) ≡ is_some (at old q)) [
      | true ↦ λ t. sym (ap is_some (ap (at old) (sym (tied_same k q t)) ∙ found))
      | false ↦ λ t. refl
    ]) refl
