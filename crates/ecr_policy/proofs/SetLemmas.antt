-- Sets of texts, as lists in order.
use Rattle.std.proofs.Common.{◌≡◌, ℕ, Bool, true, false, ◌||◌, ◌&&◌, List, [], ◌∷◌, map, refl, sym, ap, subst, ◌∙◌, bytes_eq, Less}
use Rattle.std.specs.Cmp.Lexicographic.{pointwise, slice_cmp, nat_list_cmp_total, on_texts}
use Rattle.std.specs.List.{list_any, dedup, dedup_from, AllByRecursion}
use Rattle.std.specs.List.Retain.{DiffersFromLast, IsFiltered}
use Rattle.std.specs.List.Sorted.{IsPermutation, IsSorted, IsStrictlySortedBy}
use Rattle.std.specs.declared.cmp.Ordering.{Ordering}
use Rattle.std.specs.Ordering.{is_eq, nat_cmp, on}
use Rattle.std.proofs.lemmas.Bool.{and_parts, cond_both, and_from, or_left, or_right, or_cases, false≢true}
use Rattle.std.proofs.lemmas.Bool.Decides.{same_from_decides, Decides-like}
use Rattle.std.proofs.lemmas.List.Filters.{dedup_is}
use Rattle.std.proofs.lemmas.List.Kept.{IsStrictlySortedBy-dedup}
use Rattle.std.proofs.lemmas.List.Sorted.{list_any-IsPermutation}
use Rattle.std.proofs.lemmas.Map.Lookups.{btree_set_from_contains, exact_bytes}
use Rattle.std.proofs.lemmas.Map.Text.{is_eq-slice_cmp}
use Rattle.std.proofs.lemmas.Slice.Eq.{bytes_eq-Decides, slice_eq-Decides}
use denote.Ref.{Bor}
use mathlib.Core.Logic.{⊎_elim}
use Rattle.ecr_model.specs.declared.registry.lifecycle.Choose.{Choose}
use Rattle.ecr_model.specs.declared.registry.lifecycle.Choose.TheVariants.{Prefixes}
use Rattle.ecr_model.specs.documents.Policies.{is_subset, have_same_texts}
use Rattle.ecr_policy.specs.Sets.{prefixes_of, is_among, InOrder}

-- the order of the two doesn't matter
bytes_eq-swap : (a b : List ℕ) → bytes_eq a b ≡ bytes_eq b a
bytes_eq-swap a b =
    same_from_decides (bytes_eq a b) (bytes_eq b a) (bytes_eq-Decides a b)
    (Decides-like (bytes_eq b a) sym sym (bytes_eq-Decides b a))

-- as a set in order answers
is_among-slice_cmp : (texts : List (List ℕ)) (text : List ℕ)
    → list_any (λ t. is_eq (slice_cmp nat_cmp text t)) texts ≡ is_among texts text
is_among-slice_cmp [] text = refl
is_among-slice_cmp (t ∷ ts) text =
    λ i. (is_eq-slice_cmp text t ∙ bytes_eq-swap text t) i || is_among-slice_cmp ts text i

-- ---- subsets

-- a text of a subset
is_among-subset : (xs ys : List (List ℕ)) → is_subset xs ys ≡ true → (text : List ℕ) → is_among xs text ≡ true
    → is_among ys text ≡ true
is_among-subset [] ys h text there = absurd (false≢true there)
is_among-subset (x ∷ xs) ys h text there =
    let parts = and_parts (is_among ys x) (is_subset xs ys) h in
    ⊎_elim
    (λ e. subst (λ (t : List ℕ). is_among ys t ≡ true) ((bytes_eq-Decides x text).0 e) parts.0)
    (λ e. is_among-subset xs ys parts.1 text e)
    (or_cases (bytes_eq x text) (is_among xs text) there)

-- the texts of a subset are among the others
is_subset-is_among : (xs ys : List (List ℕ)) → ((text : List ℕ) → is_among xs text ≡ true → is_among ys text ≡ true)
    → is_subset xs ys ≡ true
is_subset-is_among [] ys h = refl
is_subset-is_among (x ∷ xs) ys h =
    and_from (is_among ys x) (is_subset xs ys)
    (h x (or_left (bytes_eq x x) (is_among xs x) ((bytes_eq-Decides x x).1 refl)))
    (is_subset-is_among xs ys (λ text e. h text (or_right (bytes_eq x text) (is_among xs text) e)))

-- two answers that imply one another
pub same_answer : (a b : Bool) → (a ≡ true → b ≡ true) → (b ≡ true → a ≡ true) → a ≡ b
same_answer a b f g = same_from_decides {P = a ≡ true} a b ((λ e. e), (λ e. e)) (g, f)

-- ---- lists in order

-- two sets are the same exactly where the lists are
pub pointwise-InOrder : (a b xs ys : List (List ℕ)) → InOrder a xs → InOrder b ys
    → pointwise bytes_eq a b ≡ (is_subset xs ys && is_subset ys xs)
pointwise-InOrder a b xs ys p q =
    let same : is_subset xs ys && is_subset ys xs ≡ true → a ≡ b =
    λ e. let parts = and_parts (is_subset xs ys) (is_subset ys xs) e in
    btree_set_from_contains nat_list_cmp_total (record { keys = a }) (record { keys = b }) p.ascending q.ascending
    (λ text. is_among-slice_cmp a text ∙ p.same text
    ∙ same_answer (is_among xs text) (is_among ys text) (is_among-subset xs ys parts.0 text)
    (is_among-subset ys xs parts.1 text)
    ∙ sym (q.same text) ∙ sym (is_among-slice_cmp b text))
    exact_bytes in
    let alike : a ≡ b → (text : List ℕ) → is_among xs text ≡ is_among ys text =
    λ e text. sym (p.same text) ∙ ap (λ (l : List (List ℕ)). is_among l text) e ∙ q.same text in
    same_from_decides {P = a ≡ b} (pointwise bytes_eq a b) (is_subset xs ys && is_subset ys xs)
    (slice_eq-Decides bytes_eq-Decides a b (pointwise bytes_eq a b) refl) (
      same,
      λ e. and_from (is_subset xs ys) (is_subset ys xs)
          (is_subset-is_among xs ys (λ text h. sym (alike e text) ∙ h))
          (is_subset-is_among ys xs (λ text h. alike e text ∙ h)),
    )

-- ---- by references

-- the order of two references is that of their texts
abbrev by_text : Bor (List ℕ) → Bor (List ℕ) → Ordering
by_text = on (λ x. x.now) (slice_cmp nat_cmp)

-- two references are equal where their texts are
abbrev same_text : Bor (List ℕ) → Bor (List ℕ) → Bool
same_text x y = bytes_eq x.now y.now

below-now : (x : Bor (List ℕ)) (ts : List (Bor (List ℕ))) → AllByRecursion (λ y. by_text x y ≡ Less) ts
    → AllByRecursion (λ y. slice_cmp nat_cmp x.now y ≡ Less) (map (λ t. t.now) ts)
below-now x [] h = tt
below-now x (t ∷ ts) h = (h.0, below-now x ts h.1)

ascending-now : (ts : List (Bor (List ℕ))) → IsStrictlySortedBy by_text ts
    → IsStrictlySortedBy (slice_cmp nat_cmp) (map (λ t. t.now) ts)
unfolding IsStrictlySortedBy
ascending-now [] h = tt
ascending-now (t ∷ ts) h = (below-now t ts h.0, ascending-now ts h.1)

is_among-now : (ts : List (Bor (List ℕ))) (text : List ℕ)
    → is_among (map (λ t. t.now) ts) text ≡ list_any (λ t. bytes_eq t.now text) ts
is_among-now [] text = refl
is_among-now (t ∷ ts) text = ap (λ b. bytes_eq t.now text || b) (is_among-now ts text)

or_again : (a b : Bool) → (a || (a || b)) ≡ (a || b)
or_again true b = refl
or_again false b = refl

-- a test that equal texts pass alike finds the same among neighbours of which equal ones are dropped
list_any-dedup_from : (text : List ℕ) (k : Bor (List ℕ)) (ts : List (Bor (List ℕ)))
    → list_any (λ t. bytes_eq t.now text) (dedup_from same_text k ts) ≡
    (bytes_eq k.now text || list_any (λ t. bytes_eq t.now text) ts)
list_any-dedup_from text k [] = refl
list_any-dedup_from text k (t ∷ ts) =
    cond_both (same_text t k) (dedup_from same_text k ts) (k ∷ dedup_from same_text t ts)
    (λ kept. list_any (λ t. bytes_eq t.now text) kept ≡
    (bytes_eq k.now text || (bytes_eq t.now text || list_any (λ t. bytes_eq t.now text) ts)))
    (λ e. list_any-dedup_from text k ts
    ∙ sym (or_again (bytes_eq k.now text) (list_any (λ t. bytes_eq t.now text) ts))
    ∙ ap (λ (x : List ℕ). bytes_eq k.now text || (bytes_eq x text || list_any (λ t. bytes_eq t.now text) ts))
    (sym ((bytes_eq-Decides t.now k.now).0 e)))
    (λ e. ap (λ b. bytes_eq k.now text || b) (list_any-dedup_from text t ts))

list_any-dedup : (text : List ℕ) (ts : List (Bor (List ℕ)))
    → list_any (λ t. bytes_eq t.now text) (dedup same_text ts) ≡ list_any (λ t. bytes_eq t.now text) ts
list_any-dedup text [] = refl
list_any-dedup text (t ∷ ts) = list_any-dedup_from text t ts

-- what a sort leaves, of which equal neighbours were dropped
pub InOrder-dedup : (given sorted kept : List (Bor (List ℕ))) (texts : List (List ℕ)) → map (λ t. t.now) given ≡ texts
    → IsPermutation given sorted → IsSorted by_text sorted → IsFiltered (DiffersFromLast same_text) [] sorted kept
    → InOrder (map (λ t. t.now) kept) texts
InOrder-dedup given sorted kept texts e permutation order filtered =
    let is = dedup_is same_text sorted kept filtered in
    record {
      ascending = ascending-now kept (subst (IsStrictlySortedBy by_text) (sym is)
          (IsStrictlySortedBy-dedup (on_texts (λ x. x.now)) (λ x y. sym (is_eq-slice_cmp x.now y.now)) sorted order));
      same = λ text. is_among-now kept text
          ∙ ap (list_any (λ t. bytes_eq t.now text)) is
          ∙ list_any-dedup text sorted
          ∙ sym (list_any-IsPermutation (λ t. bytes_eq t.now text) given sorted permutation)
          ∙ sym (is_among-now given text)
          ∙ ap (λ (ts : List (List ℕ)). is_among ts text) e;
    }

-- of two lists of prefixes
pub have_same_texts-Prefixes : (c d : Choose) (xs ys : List (List ℕ)) → c ≡ Prefixes xs → d ≡ Prefixes ys
    → (is_subset (prefixes_of c) (prefixes_of d) && is_subset (prefixes_of d) (prefixes_of c)) ≡ have_same_texts c d
have_same_texts-Prefixes c d xs ys p q =
    subst (λ (a : Choose). (is_subset (prefixes_of a) (prefixes_of d) && is_subset (prefixes_of d) (prefixes_of a))
    ≡ have_same_texts a d) (sym p)
    (subst (λ (b : Choose). (is_subset xs (prefixes_of b) && is_subset (prefixes_of b) xs) ≡ have_same_texts
    (Prefixes xs) b) (sym q) refl)
