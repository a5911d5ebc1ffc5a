-- The members of lists of numbers.
use Rattle.std.proofs.Common.{◌≡◌, ◌||◌, ℕ, Bool, true, false, cond, List, [], ◌∷◌, map, refl, sym, ap, ◌∙◌}
use Rattle.std.specs.List.{list_any, filter, AllByRecursion}
use Rattle.std.specs.Ordering.{nat_cmp, eq_by_cmp}
use Rattle.ecr_pages.specs.Places.{is_one_of}
use Rattle.ecr_pages.proofs.Numbers.{no_way, tied_same, tied_self, or_left, or_right}

-- one that passes is enough
pub any_of : (p : ℕ → Bool) (xs : List ℕ) (b : ℕ) → is_one_of xs b ≡ true → p b ≡ true → list_any p xs ≡ true
any_of p [] b h e = h
any_of p (x ∷ xs) b h e =
    (elim (eq_by_cmp nat_cmp b x) as (λ t. eq_by_cmp nat_cmp b x ≡ t → (t || is_one_of xs b) ≡ true
    → (p x || list_any p xs) ≡ true) [
      | true ↦ λ t _. or_left (p x) (list_any p xs) (ap p (sym (tied_same b x t)) ∙ e)
      | false ↦ λ t h. or_right (p x) (list_any p xs) (any_of p xs b h e)
    ]) refl h

-- where one passes, there is one
pub some_of : (p : ℕ → Bool) (xs : List ℕ) → list_any p xs ≡ true → (b : ℕ) × (is_one_of xs b ≡ true) × (p b ≡ true)
some_of p [] h = no_way (sym h)
some_of p (x ∷ xs) h =
    (elim (p x) as (λ t. p x ≡ t → (t || list_any p xs) ≡ true
    → (b : ℕ) × ((eq_by_cmp nat_cmp b x || is_one_of xs b) ≡ true) × (p b ≡ true)) [
      | true ↦ λ t _. (x, or_left (eq_by_cmp nat_cmp x x) (is_one_of xs x) (tied_self x), t)
      | false ↦ λ t h. let rest =
          some_of p xs h in (rest.0, or_right (eq_by_cmp nat_cmp rest.0 x) (is_one_of xs rest.0) rest.1, rest.2)
    ]) refl h

pub to_map : (f : ℕ → ℕ) (xs : List ℕ) (b : ℕ) → is_one_of xs b ≡ true → is_one_of (map f xs) (f b) ≡ true
to_map f [] b h = h
to_map f (x ∷ xs) b h =
    (elim (eq_by_cmp nat_cmp b x) as (λ t. eq_by_cmp nat_cmp b x ≡ t → (t || is_one_of xs b) ≡ true
    → (eq_by_cmp nat_cmp (f b) (f x) || is_one_of (map f xs) (f b)) ≡ true) [
      | true ↦ λ t _. or_left _ _ (ap (λ (y : ℕ). eq_by_cmp nat_cmp (f b) (f y)) (sym (tied_same b x t))
          ∙ tied_self (f b))
      | false ↦ λ t h. or_right (eq_by_cmp nat_cmp (f b) (f x)) (is_one_of (map f xs) (f b)) (to_map f xs b h)
    ]) refl h

pub from_map : (f : ℕ → ℕ) (xs : List ℕ) (q : ℕ) → is_one_of (map f xs) q ≡ true
    → (b : ℕ) × (is_one_of xs b ≡ true) × (q ≡ f b)
from_map f [] q h = no_way (sym h)
from_map f (x ∷ xs) q h =
    (elim (eq_by_cmp nat_cmp q (f x)) as (λ t. eq_by_cmp nat_cmp q (f x) ≡ t → (t || is_one_of (map f xs) q) ≡ true
    → (b : ℕ) × ((eq_by_cmp nat_cmp b x || is_one_of xs b) ≡ true) × (q ≡ f b)) [
      | true ↦ λ t _. (x, or_left (eq_by_cmp nat_cmp x x) (is_one_of xs x) (tied_self x), tied_same q (f x) t)
      | false ↦ λ t h. let rest =
          from_map f xs q h in (rest.0, or_right (eq_by_cmp nat_cmp rest.0 x) (is_one_of xs rest.0) rest.1, rest.2)
    ]) refl h

pub to_filter : (p : ℕ → Bool) (xs : List ℕ) (b : ℕ) → is_one_of xs b ≡ true → p b ≡ true
    → is_one_of (filter p xs) b ≡ true
to_filter p [] b h e = h
to_filter p (x ∷ xs) b h e =
    (elim (eq_by_cmp nat_cmp b x) as (λ t. eq_by_cmp nat_cmp b x ≡ t → (t || is_one_of xs b) ≡ true
    → is_one_of (cond (p x) (x ∷ filter p xs) (filter p xs)) b ≡ true) [
      | true ↦ λ t _. ap (λ c. is_one_of (cond c (x ∷ filter p xs) (filter p xs)) b) (ap p (sym (tied_same b x t)) ∙ e)
          ∙ or_left _ _ t
      | false ↦ λ t h. let rest = to_filter p xs b h e in
          elim (p x) as (λ c. is_one_of (cond c (x ∷ filter p xs) (filter p xs)) b ≡ true) [
            | true ↦ or_right (eq_by_cmp nat_cmp b x) (is_one_of (filter p xs) b) rest
            | false ↦ rest
          ]
    ]) refl h

pub from_filter : (p : ℕ → Bool) (xs : List ℕ) (b : ℕ) → is_one_of (filter p xs) b ≡ true
    → (is_one_of xs b ≡ true) × (p b ≡ true)
from_filter p [] b h = no_way (sym h)
from_filter p (x ∷ xs) b h =
    (elim (p x) as (λ c. p x ≡ c → is_one_of (cond c (x ∷ filter p xs) (filter p xs)) b ≡ true
    → ((eq_by_cmp nat_cmp b x || is_one_of xs b) ≡ true) × (p b ≡ true)) [
      | true ↦ λ px h. (elim (eq_by_cmp nat_cmp b x) as (λ t. eq_by_cmp nat_cmp b x ≡ t
          → (t || is_one_of (filter p xs) b) ≡ true → ((t || is_one_of xs b) ≡ true) × (p b ≡ true)) [
            | true ↦ λ t _. (refl, ap p (tied_same b x t) ∙ px)
            | false ↦ λ t h. from_filter p xs b h
          ]) refl h
      | false ↦ λ px h. let rest =
          from_filter p xs b h in (or_right (eq_by_cmp nat_cmp b x) (is_one_of xs b) rest.0, rest.1)
    ]) refl h

-- what holds of each member
pub each_of : (P : ℕ → Type 0) (xs : List ℕ) → ((x : ℕ) → is_one_of xs x ≡ true → P x) → AllByRecursion P xs
each_of P [] h = tt
each_of P (x ∷ xs) h = (
  h x (or_left (eq_by_cmp nat_cmp x x) (is_one_of xs x) (tied_self x)),
  each_of P xs (λ y e. h y (or_right (eq_by_cmp nat_cmp y x) (is_one_of xs y) e)),
)

-- what differs from each is no member
pub none_of : (x : ℕ) (xs : List ℕ) → AllByRecursion (λ y. eq_by_cmp nat_cmp x y ≡ false) xs → is_one_of xs x ≡ false
none_of x [] h = refl
none_of x (y ∷ ys) h = ap (λ t. t || is_one_of ys x) h.0 ∙ none_of x ys h.1
