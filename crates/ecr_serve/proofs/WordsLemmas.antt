-- What the words of a session read as, part by part.
use Rattle.std.proofs.Common.{◌≡◌, ◌≢◌, ◌↔◌, ◌≤◌, ◌<◌, ◌^◌, ◌+◌, ◌∙◌, ℕ, true, List, [], ◌∷◌, ◌++◌, Some, None, Option, Ok, Err, Result, length, take, get_or, map, codes, refl, sym, ap, subst, arith, length-take}
use Rattle.std.specs.Prelude.{decimal, Contains, IfOk, MatchOption}
use Rattle.std.proofs.lemmas.List.{length-map, get_or-map, get_or-take, map_more, map_push}
use Rattle.std.specs.List.{list_any}
use Rattle.std.specs.Str.{bytes_eq}
use Rattle.std.proofs.lemmas.List.Elements.{All-push}
use Rattle.std.proofs.lemmas.List.Folds.{Any-from_list_any, list_any_at}
use Rattle.std.proofs.lemmas.Slice.Eq.{bytes_eq-Decides}
use Rattle.std.proofs.lemmas.List.Quantifiers.{all_pairs_push}
use Rattle.std.proofs.lemmas.Fmt.{decimal_injective}
use Rattle.std.specs.Str.Parse.{ParsesUnsigned}
use Rattle.std.proofs.lemmas.Fmt.{parse-decimal}
use Rattle.ecr_model.specs.declared.names.TheConstants.{MAX_MOMENT}
use Rattle.ecr_model.specs.declared.names.SiteId.{SiteId}
use Rattle.ecr_model.specs.names.Sites.{IsSite, site_word}
use Rattle.ecr_model.specs.sessions.Commands.{IsNoCommand, IsSession, clock_words}
use Rattle.ecr_model.proofs.lemmas.sessions.CommandLemmas.{same_parts, site_word-unique, site_words-no_clock}
use Rattle.ecr_serve.specs.declared.words.SessionWords.{SessionWords}
use Rattle.ecr_serve.specs.Words.{AreSites, IsMoment, IsNew, IsNoNumber, IsNumber}

-- ---- a number

-- a number's word parses as it
pub parse-number : {E : Type 0} (most : ℕ) (word : List ℕ) (r : Result ℕ E) (m : ℕ) → most < 2 ^ 64
    → ParsesUnsigned 64 10 word r → IsNumber most word m → r ≡ Ok m
parse-number most word r m small p h =
    let fits : m < 2 ^ 64 = let in_range = h.in_range in omega arith in
    parse-decimal 64 m word r fits fits h.spelled p

-- a word that doesn't parse is no number
pub no_number-Err : {E : Type 0} (most : ℕ) (word : List ℕ) (r : Result ℕ E) (e : E) → most < 2 ^ 64
    → ParsesUnsigned 64 10 word r → r ≡ Err e → IsNoNumber most word
no_number-Err most word r e small p is m h = let k = parse-number most word r m small p h in cc

-- nor is one that parses as a number that is too great
pub no_number-above : {E : Type 0} (most : ℕ) (word : List ℕ) (r : Result ℕ E) (n : ℕ) → most < 2 ^ 64
    → ParsesUnsigned 64 10 word r → r ≡ Ok n → most < n → IsNoNumber most word
no_number-above most word r n small p is above m h =
    let k = parse-number most word r m small p h in
    let same : n ≡ m = cc in
    let in_range = h.in_range in
    omega arith

-- or as one that is written otherwise
pub no_number-other : {E : Type 0} (most : ℕ) (word : List ℕ) (r : Result ℕ E) (n : ℕ) → most < 2 ^ 64
    → ParsesUnsigned 64 10 word r → r ≡ Ok n → word ≢ decimal n → IsNoNumber most word
no_number-other most word r n small p is other m h =
    let k = parse-number most word r m small p h in
    let same : n ≡ m = cc in
    other (h.spelled ∙ ap decimal (sym same))

-- ---- the sites

-- a list that has a place has an item
item_at : {X : Type 0} (xs : List X) (k : ℕ) → k < length xs → X
item_at [] k inside = absurd (omega arith)
item_at (x ∷ xs) k inside = x

-- a word is one of the words where a test of each says so
pub Contains-list_any : {X : Type 0} (f : X → List ℕ) (xs : List X) (word : List ℕ)
    → (list_any (λ x. bytes_eq (f x) word) xs ≡ true) ↔ Contains (map f xs) word
Contains-list_any f xs word = (there, back)
  where
    there : list_any (λ x. bytes_eq (f x) word) xs ≡ true → Contains (map f xs) word
    there e =
        let found = Any-from_list_any (λ x. bytes_eq (f x) word) xs e in
        let k = found.0 in
        let inside = found.2 in (
          k,
          omega (arith, inside, length-map xs f),
          get_or-map f xs k found.1 word inside ∙ ap f found.3 ∙ (bytes_eq-Decides (f found.1) word).0 found.4,
        )

    back : Contains (map f xs) word → list_any (λ x. bytes_eq (f x) word) xs ≡ true
    back found =
        let k = found.0 in
        let inside : k < length xs = omega (arith, found.1, length-map xs f) in
        let d = item_at xs k inside in
        list_any_at (λ x. bytes_eq (f x) word) xs k d inside
        ((bytes_eq-Decides (f (get_or xs k d)) word).1 (sym (get_or-map f xs k d word inside) ∙ found.2))

-- one site more
pub AreSites-more : {X : Type 0} (f : X → List ℕ) (xs : List X) (i : ℕ) (x : X) (sites : List SiteId) (site : SiteId)
    → i < length xs → x ≡ get_or xs i x
    → AreSites (map f (take i xs)) sites → IsNew (map f (take i xs)) (f x) site
    → AreSites (map f (take (i + 1) xs)) (sites ++ site ∷ [])
AreSites-more f xs i x sites site inside at h new =
    let earlier = map f (take i xs) in
    record {
      spelled = map_more f xs i x inside ∙ ap (λ y. earlier ++ f y ∷ []) (sym at)
          ∙ ap (λ l. l ++ f x ∷ []) h.spelled ∙ ap (λ w. map site_word sites ++ w ∷ []) new.reads.spelled
          ∙ sym (map_push site_word sites site);
      are_sites = All-push IsSite sites site h.are_sites new.reads.form;
      differ = all_pairs_push ◌≢◌ sites site h.differ (λ k d below same. new.is_new (
        k,
        omega (arith, ap length h.spelled, length-map sites site_word),
        ap (λ l. get_or l k (f x)) h.spelled ∙ get_or-map site_word sites k d (f x) below ∙ ap site_word same
            ∙ sym new.reads.spelled,
      ));
    }

-- a default for reading a list
no_site : SiteId
no_site = record { region = []; account = [] }

-- where a word reads as no new site, the words are no different sites
pub no_sites-at : {X : Type 0} (f : X → List ℕ) (xs : List X) (i : ℕ) (x : X) → i < length xs → x ≡ get_or xs i x
    → ((site : SiteId) → ¬ (IsNew (map f (take i xs)) (f x) site)) → (sites : List SiteId)
    → ¬ (AreSites (map f xs) sites)
no_sites-at f xs i x inside at none sites h =
    let same_length : length sites ≡ length xs =
    omega (arith, ap length h.spelled, length-map xs f, length-map sites site_word) in
    let word_at = λ (k : ℕ) (below : k < length xs). let there : k < length sites = omega arith in
    sym (get_or-map f xs k x [] below) ∙ ap (λ l. get_or l k []) h.spelled
    ∙ get_or-map site_word sites k no_site [] there in
    let there : i < length sites = omega arith in
    let here = ap f at ∙ word_at i inside in
    none (get_or sites i no_site) (record {
      reads = record { spelled = here; form = h.are_sites i no_site there };
      is_new = λ earlier.
          let k = earlier.0 in
          let before : k < i = omega (arith, earlier.1, length-map (take i xs) f, length-take i xs) in
          let among : k < length (take i xs) = omega (arith, earlier.1, length-map (take i xs) f) in
          let read = sym (ap f (get_or-take i xs k x before)) ∙ sym (get_or-map f (take i xs) k x (f x) among)
          ∙ earlier.2 in
          let k_there : k < length sites = omega arith in
          let words = sym (word_at k (omega arith)) ∙ read ∙ here in
          h.differ k i no_site before there
          (site_word-unique (get_or sites k no_site) (get_or sites i no_site) (h.are_sites k no_site k_there)
          (h.are_sites i no_site there) words);
    })

-- ---- the words behind `--clock`

-- the first of them is the moment
session_moment : (word : List ℕ) (words : List (List ℕ)) (fixed : Option ℕ) (sites : List SiteId)
    → IsSession (codes "session" ∷ codes "--clock" ∷ word ∷ words) fixed sites
    → (m : ℕ) × (fixed ≡ Some m) × IsMoment word m
session_moment word words None sites s =
    absurd (site_words-no_clock sites (word ∷ words) s.are_sites
    (sym (same_parts (codes "session") (codes "session") (codes "--clock" ∷ word ∷ words)
    (map site_word sites) s.words_are).1))
session_moment word words (Some m) sites s =
    let behind = same_parts (codes "session") (codes "session") (codes "--clock" ∷ word ∷ words)
    (codes "--clock" ∷ decimal m ∷ map site_word sites) s.words_are in
    let next = same_parts (codes "--clock") (codes "--clock") (word ∷ words)
    (decimal m ∷ map site_word sites) behind.1 in (
      m,
      refl,
      record {
        spelled = (same_parts word (decimal m) words (map site_word sites) next.1).0;
        in_range = s.in_range;
      },
    )

-- what is no moment makes no command
pub no_command-moment : (word : List ℕ) (words : List (List ℕ)) → IsNoNumber MAX_MOMENT word
    → IsNoCommand (codes "session" ∷ codes "--clock" ∷ word ∷ words)
no_command-moment word words none fixed sites s =
    let read = session_moment word words fixed sites s in none read.0 read.2

-- a moment has one reading
IsMoment-unique : (word : List ℕ) (m n : ℕ) → IsMoment word m → IsMoment word n → m ≡ n
IsMoment-unique word m n s t =
    let first = s.in_range in
    let second = t.in_range in
    decimal_injective m n (omega arith) (omega arith) (sym s.spelled ∙ t.spelled)

-- where it is one, what was read behind it decides
pub served_fixed : {E : Type 0} (word : List ℕ) (words : List (List ℕ)) (m : ℕ) (r : Result (Option SessionWords) E)
    → IsMoment word m
    → IfOk r (λ o. MatchOption o
    ((sites : List SiteId) → ¬ (IsSession (codes "session" ∷ clock_words (Some m) ++ words) (Some m) sites))
    (λ s. (s.fixed ≡ Some m) × IsSession (codes "session" ∷ clock_words (Some m) ++ words) (Some m) s.sites))
    → IfOk r (λ o. MatchOption o (IsNoCommand (codes "session" ∷ codes "--clock" ∷ word ∷ words))
    (λ s. IsSession (codes "session" ∷ codes "--clock" ∷ word ∷ words) s.fixed s.sites))
served_fixed word words m (Err e) moment h = tt
served_fixed word words m (Ok None) moment h = λ fixed sites s.
    let read = session_moment word words fixed sites s in
    let same : fixed ≡ Some m = read.1 ∙ ap Some (IsMoment-unique word read.0 m read.2 moment) in
    h sites
    (subst (λ w. IsSession (codes "session" ∷ codes "--clock" ∷ w ∷ words) (Some m) sites) moment.spelled
    (subst (λ o. IsSession (codes "session" ∷ codes "--clock" ∷ word ∷ words) o sites) same s))
served_fixed word words m (Ok (Some s)) moment h =
    subst (λ o. IsSession (codes "session" ∷ codes "--clock" ∷ word ∷ words) o s.sites) (sym h.0)
    (subst (λ w. IsSession (codes "session" ∷ codes "--clock" ∷ w ∷ words) (Some m) s.sites) (sym moment.spelled) h.1)
