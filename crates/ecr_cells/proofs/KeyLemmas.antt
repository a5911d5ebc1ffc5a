-- Keys of maps: which have an entry, and copies of them.
use Rattle.std.proofs.Common.{◌≡◌, ◌++◌, ◌∷◌, Bool, true, false, List, [], Option, Some, IsSome, All, cond, refl, sym, ap, ◌∙◌, subst, ⊎_elim, arith, append_assoc, append-nil}
use Rattle.std.specs.BTreeMap.{is_at}
use Rattle.std.specs.Map.{keys_of, lookup}
use Rattle.std.specs.Ordering.{is_eq}
use Rattle.std.specs.declared.cmp.Ordering.{Ordering}
use Rattle.std.proofs.lemmas.Bool.{cases_Bool, cond-true, cond-false}
use Rattle.std.proofs.lemmas.List.Elements.{All-tail, All-weaker}

-- of all keys, and so of one that is found
pub All-found : {K X : Type 0} (order : K → K → Ordering) (P : K → Type 0) (es : List (K × X)) (k : K)
    → ((a b : K) → is_eq (order a b) ≡ true → a ≡ b)
    → IsSome (lookup (is_at (order k)) es) → All P (keys_of es) → P k
All-found order P [] k same found all = let no : false ≡ true = found in cc no
All-found {K} {X} order P (e ∷ es) k same found all =
    ⊎_elim
    (λ yes. subst P (sym (same k e.0 yes)) (all 0 e.0 (omega arith)))
    (λ differs. All-found order P es k same
    (subst (λ (o : Option X). IsSome o)
    (cond-false (is_at (order k) e.0) (Some e.1) (lookup (is_at (order k)) es) differs) found)
    (All-tail P e.0 (keys_of es) all))
    (cases_Bool (is_at (order k) e.0))

there_still : {X : Type 0} (same : Bool) (x : X) (o : Option X) → IsSome o → IsSome (cond same (Some x) o)
there_still true x o there = refl
there_still false x o there = there

-- keys that have entries have them still where another entry was put
pub All-put : {K X : Type 0} (order : K → K → Ordering) (entries news : List (K × X)) (key : K) (x : X) (keys : List K)
    → ((k : K) → lookup (is_at (order k)) news
    ≡ cond (is_at (order key) k) (Some x) (lookup (is_at (order k)) entries))
    → All (λ k. IsSome (lookup (is_at (order k)) entries)) keys → All (λ k. IsSome (lookup (is_at (order k)) news)) keys
All-put {K} {X} order entries news key x keys puts all =
    All-weaker (λ k. IsSome (lookup (is_at (order k)) entries)) (λ k. IsSome (lookup (is_at (order k)) news))
    (λ k there. subst (λ (o : Option X). IsSome o) (sym (puts k))
    (there_still (is_at (order key) k) x (lookup (is_at (order k)) entries) there))
    keys all

-- the key at which an entry was put has it
pub IsSome-put : {K X : Type 0} (order : K → K → Ordering) (entries news : List (K × X)) (key : K) (x : X)
    → is_at (order key) key ≡ true
    → ((k : K) → lookup (is_at (order k)) news
    ≡ cond (is_at (order key) k) (Some x) (lookup (is_at (order k)) entries))
    → IsSome (lookup (is_at (order key)) news)
IsSome-put {K} {X} order entries news key x same puts =
    subst (λ (o : Option X). IsSome o)
    (sym (puts key ∙ cond-true (is_at (order key) key) (Some x) (lookup (is_at (order key)) entries) same)) refl

-- ---- copies

-- one more key is copied: the copies and the keys that are left are all keys still
pub copied-more : {A : Type 0} (copies rest all : List A) (key copy : A) {now left : List A}
    → now ≡ copies ++ copy ∷ [] → copy ≡ key → left ≡ key ∷ rest → copies ++ left ≡ all → now ++ rest ≡ all
copied-more {A} copies rest all key copy pushed same next before =
    ap (λ (ks : List A). ks ++ rest) pushed ∙ ap (λ (k : A). (copies ++ k ∷ []) ++ rest) same
    ∙ append_assoc copies (key ∷ []) rest ∙ ap (λ (ks : List A). copies ++ ks) (sym next) ∙ before

-- where no key is left, all keys are copied
pub copied-all : {A : Type 0} (copies all : List A) {left : List A} → left ≡ [] → copies ++ left ≡ all → copies ≡ all
copied-all {A} copies all none before =
    sym (append-nil copies) ∙ ap (λ (ks : List A). copies ++ ks) (sym none) ∙ before
