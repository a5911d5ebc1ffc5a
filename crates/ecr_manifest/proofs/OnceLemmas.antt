-- Digests without repeats.
use Rattle.std.proofs.Common.{◌≡◌, ℕ, ◌+◌, ◌<◌, Bool, true, false, not, ◌||◌, cond, List, [], ◌∷◌, ◌++◌, length, take, get_or, refl, sym, ap, ◌∙◌}
use Rattle.std.specs.Bool.{OnFalse}
use Rattle.std.specs.Prelude.{bytes_eq}
use Rattle.std.specs.List.{fold, list_any}
use Rattle.std.proofs.lemmas.Bool.{cond-true, cond-false}
use Rattle.std.proofs.lemmas.List.Sums.{fold_more}
use Rattle.std.proofs.lemmas.Slice.Eq.{bytes_eq-Decides}
use Rattle.std.proofs.lemmas.Bool.Decides.{same_from_decides, Decides-like}
use Rattle.ecr_model.specs.declared.names.Digest.{Digest}
use Rattle.ecr_model.specs.documents.Manifests.{with_digest}

-- whether the bytes are those of one of the digests
abbrev pub is_kept : List ℕ → List Digest → Bool
is_kept bytes digests = list_any (λ d. bytes_eq bytes d.bytes) digests

-- a new digest goes to the end
pub kept-added : (xs kept : List Digest) (i : ℕ) (e : Digest) → i < length xs → kept ≡ fold with_digest [] (take i xs)
    → is_kept (get_or xs i e).bytes kept ≡ false → kept ++ get_or xs i e ∷ [] ≡ fold with_digest [] (take (i + 1) xs)
kept-added xs kept i e h k new =
    sym (fold_more with_digest [] xs i e h ∙ ap (λ (l : List Digest). with_digest l (get_or xs i e)) (sym k)
    ∙ cond-false (is_kept (get_or xs i e).bytes kept) kept (kept ++ get_or xs i e ∷ []) new)

-- one that is there changes nothing
pub kept-present : (xs kept : List Digest) (i : ℕ) (e : Digest) → i < length xs
    → kept ≡ fold with_digest [] (take i xs)
    → is_kept (get_or xs i e).bytes kept ≡ true → kept ≡ fold with_digest [] (take (i + 1) xs)
kept-present xs kept i e h k there =
    sym (fold_more with_digest [] xs i e h ∙ ap (λ (l : List Digest). with_digest l (get_or xs i e)) (sym k)
    ∙ cond-true (is_kept (get_or xs i e).bytes kept) kept (kept ++ get_or xs i e ∷ []) there)

or_none : (b : Bool) → (b || false) ≡ b
or_none true = refl
or_none false = refl

or_cons : (a b c d : Bool) → b ≡ (c || d) → (a || b) ≡ ((a || c) || d)
or_cons true b c d h = refl
or_cons false b c d h = h

or_swap : (a b : Bool) → (a || b) ≡ cond b true a
or_swap true true = refl
or_swap true false = refl
or_swap false true = refl
or_swap false false = refl

-- what is asked of a list with one more
is_kept-push : (q : List ℕ) (kept : List Digest) (d : Digest)
    → is_kept q (kept ++ d ∷ []) ≡ (is_kept q kept || bytes_eq q d.bytes)
is_kept-push q [] d = or_none (bytes_eq q d.bytes)
is_kept-push q (k ∷ rest) d =
    or_cons (bytes_eq q k.bytes) (is_kept q (rest ++ d ∷ [])) (is_kept q rest) (bytes_eq q d.bytes)
    (is_kept-push q rest d)

-- the order of the two doesn't matter
bytes_eq-swap : (a b : List ℕ) → bytes_eq a b ≡ bytes_eq b a
bytes_eq-swap a b =
    same_from_decides (bytes_eq a b) (bytes_eq b a) (bytes_eq-Decides a b)
    (Decides-like (bytes_eq b a) sym sym (bytes_eq-Decides b a))

-- as a set answers after the digest was added to it
pub is_kept-added : (q : List ℕ) (kept : List Digest) (d : Digest)
    → is_kept q (kept ++ d ∷ []) ≡ cond (bytes_eq d.bytes q) true (is_kept q kept)
is_kept-added q kept d =
    is_kept-push q kept d ∙ ap (λ (b : Bool). is_kept q kept || b) (bytes_eq-swap q d.bytes)
    ∙ or_swap (is_kept q kept) (bytes_eq d.bytes q)

-- what the answer says of the set before
pub absent_where_new : (new there : Bool) → new ≡ true → new ≡ not there → there ≡ false
absent_where_new new true h e = cc (sym e ∙ h)
absent_where_new new false h e = refl

-- a digest that isn't new was there
pub there_where_old : (new there : Bool) → new ≡ false → new ≡ not there → there ≡ true
there_where_old new true h e = refl
there_where_old new false h e = cc (sym e ∙ h)

-- where a test is false, a fact that is said of a false test holds
pub where_false : (b : Bool) (P : Type 0) → b ≡ false → OnFalse b P → P
where_false true P h p = cc h
where_false false P h p = p
