-- Why it suffices to go on from the first place at which the bytes before the next `*` match.
use Rattle.std.proofs.Common.{◌≡◌, ◌∙◌, ◌⊎◌, ◌||◌, ◌==◌, ◌+◌, ◌<◌, ◌≤◌, ℕ, zero, suc, Bool, true, false, List, [], ◌∷◌, length, drop, slice_index, refl, sym, ap, subst, nat_lt, inl, inr, arith, drop-drop, add-one}
use Rattle.std.proofs.lemmas.List.{drop_all, drop_more}
use Rattle.std.proofs.lemmas.Bool.{and_parts, and_from, or_cases, false≢true, eqb-true, ne_eqb, eq-eqb, ltb-true, lt-ltb, both_ways}
use Rattle.ecr_tagmatch.specs.Matches.{wild}
use Rattle.ecr_tagmatch.specs.Agreed.{agreed, is_star, is_whole}

-- ---- truth values

split : (b : Bool) → (b ≡ true) ⊎ (b ≡ false)
split true = inl refl
split false = inr refl

both : (a b : Bool) → (a ≡ true → b ≡ true) → (b ≡ true → a ≡ true) → a ≡ b
both true b there back = sym (there refl)
both false true there back = back refl
both false false there back = refl

or_first : (a b : Bool) → a ≡ true → (a || b) ≡ true
or_first true b h = refl
or_first false b h = absurd (false≢true h)

or_second : (a b : Bool) → b ≡ true → (a || b) ≡ true
or_second true b h = refl
or_second false b h = h

-- ---- how far they agree

-- a pattern and a tag agree in no more bytes than either has
pub agreed-le : (p t : List ℕ) → (agreed p t ≤ length p) × (agreed p t ≤ length t)
agreed-le [] t = (omega arith, omega arith)
agreed-le (p ∷ ps) [] = (omega arith, omega arith)
agreed-le (p ∷ ps) (t ∷ ts) = grind (arith, agreed-le ps ts)

agreed-none : (p : List ℕ) → agreed p [] ≡ 0
agreed-none [] = refl
agreed-none (p ∷ ps) = refl

-- past the tag's end no byte of the pattern agrees
pub agreed-past_tag : (p t : List ℕ) (i : ℕ) → length t ≤ i → agreed p (drop i t) ≡ 0
agreed-past_tag p t i h = ap (λ l. agreed p l) (drop_all i t h) ∙ agreed-none p

-- the bytes that agree match
pub wild-agreed : (p t : List ℕ) → wild p t ≡ wild (drop (agreed p t) p) (drop (agreed p t) t)
wild-agreed [] t = refl
wild-agreed (p ∷ ps) [] = refl
wild-agreed (p ∷ ps) (t ∷ ts) = grind (arith, wild-agreed ps ts)

-- where they end before a byte that differs, the pattern doesn't match
pub wild-refused : (p t : List ℕ) → agreed p t < length p → (slice_index p (agreed p t) == 42) ≡ false
    → wild p t ≡ false
wild-refused [] t h k = absurd (omega (arith, h))
wild-refused (p ∷ ps) [] h k = grind (arith, k)
wild-refused (p ∷ ps) (t ∷ ts) h k = grind (arith, h, k, wild-refused ps ts)

-- where the whole pattern agrees, it matches exactly the tag of that length
pub wild-whole : (p t : List ℕ) → agreed p t ≡ length p → wild p t ≡ (length p == length t)
wild-whole [] [] h = refl
wild-whole [] (t ∷ ts) h = sym (ne_eqb 0 (suc (length ts)) (λ e. omega (arith, e)))
wild-whole (p ∷ ps) [] h = absurd (omega (arith, h))
wild-whole (p ∷ ps) (t ∷ ts) h = grind (arith, h, wild-whole ps ts)

-- ---- places

-- a match after a byte of the pattern
wild-byte : (p : ℕ) (ps s : List ℕ) → (p == 42) ≡ false → wild (p ∷ ps) s ≡ true → wild ps (drop 1 s) ≡ true
wild-byte p ps [] h m = grind (arith, h, m)
wild-byte p ps (t ∷ ts) h m = grind (arith, h, m)

-- what matches at a later place goes on from the bytes that agree here
wild-later : (p t : List ℕ) (k : ℕ) → wild p (drop k t) ≡ true
    → wild (drop (agreed p t) p) (drop k (drop (agreed p t) t)) ≡ true
wild-later [] t k m = m
wild-later (p ∷ ps) [] k m = m
wild-later (p ∷ ps) (t ∷ ts) k m = elim (split (p == 42)) [
  | inl e ↦ grind (arith, e, m)
  | inr e ↦ elim (split (p == t)) [
    | inl f ↦ grind (arith, e, f, wild-later ps ts k, wild-byte p ps (drop k (t ∷ ts)) e m, drop-tail k t ts)
    | inr f ↦ grind (arith, e, f, m)
  ]
]
  where
    drop-tail : (k : ℕ) (t : ℕ) (ts : List ℕ) → drop 1 (drop k (t ∷ ts)) ≡ drop k ts
    drop-tail k t ts = drop-drop 1 k (t ∷ ts) ∙ ap (λ n. drop n (t ∷ ts)) (add-one k)

-- a `*` leads to some place
star-place : (p t : List ℕ) → wild (42 ∷ p) t ≡ true → (k : ℕ) × (wild p (drop k t) ≡ true)
star-place p [] m = (0, m)
star-place p (t ∷ ts) m = elim (or_cases (wild p (t ∷ ts)) (wild (42 ∷ p) ts) m) [
  | inl e ↦ (0, e)
  | inr e ↦ let r = star-place p ts e in (suc r.0, r.1)
]

-- and it takes what stands before
star-before : (p t : List ℕ) (k : ℕ) → wild (42 ∷ p) (drop k t) ≡ true → wild (42 ∷ p) t ≡ true
star-before p t zero m = m
star-before p [] (suc k) m = m
star-before p (t ∷ ts) (suc k) m = or_second (wild p (t ∷ ts)) (wild (42 ∷ p) ts) (star-before p ts k m)

star-here : (p t : List ℕ) → wild p t ≡ true → wild (42 ∷ p) t ≡ true
star-here p [] m = m
star-here p (t ∷ ts) m = or_first (wild p (t ∷ ts)) (wild (42 ∷ p) ts) m

-- ---- the steps

parts-star : (p t : List ℕ) → agreed p t < length p → slice_index p (agreed p t) ≡ 42
    → drop (agreed p t) p ≡ 42 ∷ drop (agreed p t + 1) p
parts-star p t h e = drop_more p (agreed p t) 0 h ∙ ap (λ c. c ∷ drop (agreed p t + 1) p) e

-- at the next `*` of the pattern
pub wild-star : (p t : List ℕ) → agreed p t < length p → slice_index p (agreed p t) ≡ 42
    → wild p t ≡ wild (42 ∷ drop (agreed p t + 1) p) (drop (agreed p t) t)
wild-star p t h e = wild-agreed p t ∙ ap (λ l. wild l (drop (agreed p t) t)) (parts-star p t h e)

-- the place is never gone back to
pub wild-next_star : (p t : List ℕ) → agreed p t < length p → slice_index p (agreed p t) ≡ 42
    → wild (42 ∷ p) t ≡ wild (42 ∷ drop (agreed p t + 1) p) (drop (agreed p t) t)
wild-next_star p t h e = both (wild (42 ∷ p) t) (wild (42 ∷ drop (agreed p t + 1) p) (drop (agreed p t) t)) there back
  where
    there : wild (42 ∷ p) t ≡ true → wild (42 ∷ drop (agreed p t + 1) p) (drop (agreed p t) t) ≡ true
    there m =
        let r = star-place p t m in
        star-before (drop (agreed p t + 1) p) (drop (agreed p t) t) r.0
        (ap (λ l. wild l (drop r.0 (drop (agreed p t) t))) (sym (parts-star p t h e)) ∙ wild-later p t r.0 r.1)

    back : wild (42 ∷ drop (agreed p t + 1) p) (drop (agreed p t) t) ≡ true → wild (42 ∷ p) t ≡ true
    back m = star-here p t (wild-star p t h e ∙ m)

-- it doesn't match here
wild-fails : (p t : List ℕ) → (agreed p t < length p → slice_index p (agreed p t) ≡ 42 → ⊥)
    → (agreed p t ≡ length p → agreed p t ≡ length t → ⊥) → wild p t ≡ false
wild-fails p t h k = elim (split (agreed p t == length p)) [
  | inl e ↦ wild-whole p t (eqb-true (agreed p t) (length p) e)
      ∙ ne_eqb (length p) (length t) (λ same. k (eqb-true _ _ e) (eqb-true _ _ e ∙ same))
  | inr e ↦ let below : agreed p t < length p = grind (arith, e, (agreed-le p t).0) in
      wild-refused p t below (ne_eqb (slice_index p (agreed p t)) 42 (h below))
]

-- ---- by the tests of the code

star_parts : (p : List ℕ) (n : ℕ) → is_star p n ≡ true → (n < length p) × (slice_index p n ≡ 42)
star_parts p n h = let q =
    and_parts (nat_lt n (length p)) (slice_index p n == 42) h in
    (ltb-true n (length p) q.0, eqb-true (slice_index p n) 42 q.1)

whole_parts : (p t : List ℕ) (n : ℕ) → is_whole p t n ≡ true → (n ≡ length p) × (n ≡ length t)
whole_parts p t n h = let q =
    and_parts (n == length p) (n == length t) h in (eqb-true n (length p) q.0, eqb-true n (length t) q.1)

-- behind the bytes that agree a `*` and the rest of the pattern have to match the rest of the tag
pub star-first : (p t : List ℕ) (n : ℕ) → n ≡ agreed p t → is_star p n ≡ true
    → wild p t ≡ wild (42 ∷ drop (n + 1) p) (drop n t)
star-first p t n e h = let q =
    star_parts p n h in rw e
    (wild-star p t (subst (λ m. m < length p) e q.0) (subst (λ m. slice_index p m ≡ 42) e q.1))

-- a `*` before the pattern gives way to the next one, behind the bytes that agree
pub star-next : (p t : List ℕ) (n : ℕ) → n ≡ agreed p t → is_star p n ≡ true
    → wild (42 ∷ p) t ≡ wild (42 ∷ drop (n + 1) p) (drop n t)
star-next p t n e h = let q =
    star_parts p n h in rw e
    (wild-next_star p t (subst (λ m. m < length p) e q.0) (subst (λ m. slice_index p m ≡ 42) e q.1))

whole-here : (p t : List ℕ) (n : ℕ) → n ≡ agreed p t → is_whole p t n ≡ true → wild p t ≡ true
whole-here p t n e h = let q =
    whole_parts p t n h in wild-whole p t (sym e ∙ q.0) ∙ eq-eqb (length p) (length t) (sym q.0 ∙ q.1)

fails-here : (p t : List ℕ) (n : ℕ) → n ≡ agreed p t → is_star p n ≡ false → is_whole p t n ≡ false → wild p t ≡ false
fails-here p t n e h k = wild-fails p t
    (λ l s. both_ways (is_star p n) h (rw e (and_from _ _ (lt-ltb (agreed p t) (length p) l) (eq-eqb _ _ s))))
    (λ l s. both_ways (is_whole p t n) k (rw e (and_from _ _ (eq-eqb _ _ l) (eq-eqb _ _ s))))

-- where no `*` stands behind the bytes that agree, a match is one of the whole pattern
pub whole-only : (p t : List ℕ) (n : ℕ) → n ≡ agreed p t → is_star p n ≡ false → wild p t ≡ is_whole p t n
whole-only p t n e h = elim (split (is_whole p t n)) [
  | inl k ↦ whole-here p t n e k ∙ sym k
  | inr k ↦ fails-here p t n e h k ∙ sym k
]

-- behind a `*` a whole match at this place is a match
pub place-here : (p t : List ℕ) (n : ℕ) → n ≡ agreed p t → is_whole p t n ≡ true → wild (42 ∷ p) t ≡ true
place-here p t n e h = star-here p t (whole-here p t n e h)

-- behind a `*` nothing matches at the tag's end but a whole match
pub place-last : (p t : List ℕ) (n : ℕ) → n ≡ agreed p t → is_star p n ≡ false → is_whole p t n ≡ false → length t ≡ 0
    → wild (42 ∷ p) t ≡ false
place-last p [] n e h k l = fails-here p [] n e h k
place-last p (t ∷ ts) n e h k l = absurd (omega (arith, l))

-- behind a `*` the next place is tried where this one doesn't match
pub place-next : (p t : List ℕ) (n : ℕ) → n ≡ agreed p t → is_star p n ≡ false → is_whole p t n ≡ false → 0 < length t
    → wild (42 ∷ p) t ≡ wild (42 ∷ p) (drop 1 t)
place-next p [] n e h k l = absurd (omega (arith, l))
place-next p (t ∷ ts) n e h k l = ap (λ b. b || wild (42 ∷ p) ts) (fails-here p (t ∷ ts) n e h k)

pub ruleset first_place = (star-first, whole-only)

pub ruleset next_places = (star-next, place-here, place-last, place-next)
