-- The words of a session determine its moment and its sites.
use Rattle.std.proofs.Common.{◌≡◌, ◌≢◌, ◌≤◌, ℕ, List, [], ◌∷◌, ◌++◌, Option, Some, None, All, length, map, refl, sym, ap, ◌∙◌, arith, codes, length-append}
use Rattle.std.specs.Fmt.{decimal}
use Rattle.std.proofs.lemmas.Fmt.{decimal_injective}
use Rattle.std.proofs.lemmas.List.Elements.{All-head, All-tail}
use Rattle.ecr_model.specs.declared.names.SiteId.{SiteId}
use Rattle.ecr_model.specs.declared.names.TheConstants.{MAX_MOMENT}
use Rattle.ecr_model.specs.names.Sites.{IsSite, site_word, site_of}
use Rattle.ecr_model.specs.sessions.Commands.{IsSession, clock_words}
use Rattle.ecr_model.proofs.lemmas.names.SitesLemmas.{site_of-site_word}

-- lists that are equal and not empty have equal first items and equal rests
pub same_parts : {A : Type 0} (x y : A) (xs ys : List A) → x ∷ xs ≡ y ∷ ys → (x ≡ y) × (xs ≡ ys)
same_parts x y xs ys e = (cc, cc)

same_site : (a b : SiteId) → Some a ≡ Some b → a ≡ b
same_site a b e = cc

-- the word of a site determines it
pub site_word-unique : (a b : SiteId) → IsSite a → IsSite b → site_word a ≡ site_word b → a ≡ b
site_word-unique a b s t e = same_site a b (sym (site_of-site_word a s) ∙ ap site_of e ∙ site_of-site_word b t)

-- and the words of sites do
pub site_words-unique : (xs ys : List SiteId) → All IsSite xs → All IsSite ys → map site_word xs ≡ map site_word ys
    → xs ≡ ys
site_words-unique [] [] s t e = refl
site_words-unique [] (y ∷ ys) s t e = absurd (cc)
site_words-unique (x ∷ xs) [] s t e = absurd (cc)
site_words-unique (x ∷ xs) (y ∷ ys) s t e =
    let parts = same_parts (site_word x) (site_word y) (map site_word xs) (map site_word ys) e in
    let first = site_word-unique x y (All-head IsSite x xs s) (All-head IsSite y ys t) parts.0 in
    let rest = site_words-unique xs ys (All-tail IsSite x xs s) (All-tail IsSite y ys t) parts.1 in
    cc

-- a site's word is longer than `--clock`
pub site_word-no_clock : (site : SiteId) → IsSite site → site_word site ≢ codes "--clock"
site_word-no_clock site s e =
    let long = s.account_form.long in
    omega (arith, ap length e, length-append site.region (47 ∷ site.account))

-- so no words of sites begin with it
pub site_words-no_clock : (sites : List SiteId) (rest : List (List ℕ)) → All IsSite sites
    → map site_word sites ≢ codes "--clock" ∷ rest
site_words-no_clock [] rest s e = cc
site_words-no_clock (site ∷ sites) rest s e =
    site_word-no_clock site (All-head IsSite site sites s)
    (same_parts (site_word site) (codes "--clock") (map site_word sites) rest e).0

-- what stands behind `session` is the same in both readings
same_tail : (words : List (List ℕ)) (m n : Option ℕ) (xs ys : List SiteId) → IsSession words m xs
    → IsSession words n ys
    → clock_words m ++ map site_word xs ≡ clock_words n ++ map site_word ys
same_tail words m n xs ys s t =
    (same_parts (codes "session") (codes "session") (clock_words m ++ map site_word xs)
    (clock_words n ++ map site_word ys) (sym s.words_are ∙ t.words_are)).1

-- the words of a session say one fixed moment at most, and one list of sites
pub IsSession-unique : (words : List (List ℕ)) (m n : Option ℕ) (xs ys : List SiteId) → IsSession words m xs
    → IsSession words n ys → (m ≡ n) × (xs ≡ ys)
IsSession-unique words None None xs ys s t =
    (refl, site_words-unique xs ys s.are_sites t.are_sites (same_tail words None None xs ys s t))
IsSession-unique words None (Some n) xs ys s t =
    absurd (site_words-no_clock xs (decimal n ∷ map site_word ys) s.are_sites
    (same_tail words None (Some n) xs ys s t))
IsSession-unique words (Some m) None xs ys s t =
    absurd (site_words-no_clock ys (decimal m ∷ map site_word xs) t.are_sites
    (sym (same_tail words (Some m) None xs ys s t)))
IsSession-unique words (Some m) (Some n) xs ys s t =
    let behind = same_parts (codes "--clock") (codes "--clock") (decimal m ∷ map site_word xs)
    (decimal n ∷ map site_word ys) (same_tail words (Some m) (Some n) xs ys s t) in
    let parts = same_parts (decimal m) (decimal n) (map site_word xs) (map site_word ys) behind.1 in
    let first : m ≤ MAX_MOMENT = s.in_range in
    let second : n ≤ MAX_MOMENT = t.in_range in (
      ap Some (decimal_injective m n (omega arith) (omega arith) parts.0),
      site_words-unique xs ys s.are_sites t.are_sites parts.1,
    )
