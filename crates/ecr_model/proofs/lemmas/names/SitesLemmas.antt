-- `site_of` reads exactly the words of sites, and what a text of UTF-8 keeps.
use Rattle.std.proofs.Common.{◌≡◌, ◌∙◌, ◌↔◌, ◌&&◌, ◌==◌, ◌++◌, ◌∷◌, ◌-◌, ◌<◌, ◌≤◌, ℕ, suc, true, false, List, [], Some, None, length, take, drop, get_or, IsTrue, nat_le, refl, sym, ap, subst, inl, inr, arith, append_assoc, length-append, length-take}
use Rattle.std.specs.List.{list_all}
use Rattle.std.specs.Str.{IsUtf8}
use Rattle.std.specs.Str.Lossy.{utf8_valid_len}
use Rattle.std.proofs.Math.Seq.{drop-cons, get_or-append_seam, take-append_seam, drop-append_seam}
use Rattle.std.proofs.lemmas.Bool.{and_parts, and_from, cond-true, cond-false, cases_Bool, eqb-true, eq-eqb, ne_eqb, leb-true, le-leb}
use Rattle.std.proofs.lemmas.List.{take-append-drop}
use Rattle.std.proofs.lemmas.Str.{utf8_valid_len-IsUtf8}
use Rattle.ecr_model.specs.declared.names.SiteId.{SiteId}
use Rattle.ecr_model.specs.names.Sites.{is_region_byte, is_digit, IsRegion, IsAccount, IsSite, ReadsSite, site_word, is_region, is_account, region_of, account_digits, is_site_word, site_of, utf8_or_empty}

-- ---- the tests of the parts

-- the test of a region passes exactly the regions
pub is_region-IsRegion : (text : List ℕ) → IsTrue (is_region text) ↔ IsRegion text
is_region-IsRegion text = (there, back)
  where
    there : IsTrue (is_region text) → IsRegion text
    there h =
        let p = and_parts (nat_le 1 (length text) && nat_le (length text) 32) (list_all is_region_byte text) h in
        let q = and_parts (nat_le 1 (length text)) (nat_le (length text) 32) p.0 in
        record { at_least = leb-true 1 (length text) q.0; at_most = leb-true (length text) 32 q.1; plain = p.1 }

    back : IsRegion text → IsTrue (is_region text)
    back h = and_from _ _ (and_from _ _ (le-leb 1 (length text) h.at_least)
        (le-leb (length text) 32 h.at_most)) h.plain

-- the test of an account passes exactly the accounts
pub is_account-IsAccount : (text : List ℕ) → IsTrue (is_account text) ↔ IsAccount text
is_account-IsAccount text = (there, back)
  where
    there : IsTrue (is_account text) → IsAccount text
    there h =
        let p = and_parts (length text == 12) (list_all is_digit text) h in
        record { long = eqb-true (length text) 12 p.0; digits = p.1 }

    back : IsAccount text → IsTrue (is_account text)
    back h = and_from _ _ (eq-eqb (length text) 12 h.long) h.digits

-- ---- the parts of a word

-- a list at one of its places
parts_at : (word : List ℕ) (k : ℕ) → k < length word → word ≡ take k word ++ (get_or word k 0 ∷ drop (suc k) word)
parts_at word k h = sym (take-append-drop k word) ∙ ap (λ l. take k word ++ l) (drop-cons word k 0 h)

region_of-site : (region account : List ℕ) → length account ≡ 12 → region_of (region ++ (47 ∷ account)) ≡ region
region_of-site region account h =
    let e : length (region ++ (47 ∷ account)) - 13 ≡ length region =
    omega (arith, length-append region (47 ∷ account)) in
    ap (λ n. take n (region ++ (47 ∷ account))) e ∙ take-append_seam region (47 ∷ account)

slash-site : (region account : List ℕ) → length account ≡ 12
    → get_or (region ++ (47 ∷ account)) (length (region ++ (47 ∷ account)) - 13) 0 ≡ 47
slash-site region account h =
    let e : length (region ++ (47 ∷ account)) - 13 ≡ length region =
    omega (arith, length-append region (47 ∷ account)) in
    ap (λ n. get_or (region ++ (47 ∷ account)) n 0) e ∙ get_or-append_seam region 47 account 0

account_digits-site : (region account : List ℕ) → length account ≡ 12
    → account_digits (region ++ (47 ∷ account)) ≡ account
account_digits-site region account h =
    let e : length (region ++ (47 ∷ account)) - 12 ≡ length (region ++ 47 ∷ []) =
    omega (arith, length-append region (47 ∷ account), length-append region (47 ∷ [])) in
    ap (λ n. drop n (region ++ (47 ∷ account))) e
    ∙ ap (drop (length (region ++ 47 ∷ []))) (sym (append_assoc region (47 ∷ []) account))
    ∙ drop-append_seam (region ++ 47 ∷ []) account

-- ---- the reader

abbrev parts_of : List ℕ → SiteId
parts_of word = record { region = region_of word; account = account_digits word }

ReadsSite-is_site_word : (word : List ℕ) → IsTrue (is_site_word word) → ReadsSite word (parts_of word)
unfolding is_site_word
ReadsSite-is_site_word word h =
    let p = and_parts (is_region (region_of word) && get_or word (length word - 13) 0 == 47)
    (is_account (account_digits word)) h in
    let q = and_parts (is_region (region_of word)) (get_or word (length word - 13) 0 == 47) p.0 in
    let region = (is_region-IsRegion (region_of word)).0 q.0 in
    let some : 1 ≤ length (take (length word - 13) word) = region.at_least in
    let long : 13 < length word = omega (arith, some, length-take (length word - 13) word) in
    let next : suc (length word - 13) ≡ length word - 12 = omega arith in
    record {
      spelled = parts_at word (length word - 13) (omega arith)
          ∙ ap (λ b. region_of word ++ (b ∷ drop (suc (length word - 13)) word))
          (eqb-true (get_or word (length word - 13) 0) 47 q.1)
          ∙ ap (λ n. region_of word ++ (47 ∷ drop n word)) next;
      form = record { region_form = region; account_form = (is_account-IsAccount (account_digits word)).0 p.1 };
    }

site_of-parts : (region account : List ℕ) → IsRegion region → IsAccount account
    → site_of (region ++ (47 ∷ account)) ≡ Some (record { region = region; account = account })
unfolding site_of is_site_word
site_of-parts region account r a =
    let word = region ++ (47 ∷ account) in
    let er = region_of-site region account a.long in
    let ea = account_digits-site region account a.long in
    cond-true (is_site_word word) _ _
    (and_from _ _
    (and_from _ _ (ap is_region er ∙ (is_region-IsRegion region).1 r)
    (eq-eqb (get_or word (length word - 13) 0) 47 (slash-site region account a.long)))
    (ap is_account ea ∙ (is_account-IsAccount account).1 a))
    ∙ ap (λ l. Some (record { region = l; account = account_digits word })) er
    ∙ ap (λ l. Some (record { region = region; account = l })) ea

-- a word reads as a site exactly where the reader says so
pub site_of-ReadsSite : (word : List ℕ) (site : SiteId) → (site_of word ≡ Some site) ↔ ReadsSite word site
unfolding site_of
site_of-ReadsSite word site = (there, back)
  where
    there : site_of word ≡ Some site → ReadsSite word site
    there h = elim (cases_Bool (is_site_word word)) [
      | inl e ↦
          let same : parts_of word ≡ site = cc (cond-true (is_site_word word) (Some (parts_of word)) None e, h) in
          subst (ReadsSite word) same (ReadsSite-is_site_word word e)
      | inr e ↦ let none : None ≡ Some site =
          sym (cond-false (is_site_word word) (Some (parts_of word)) None e) ∙ h in absurd (cc none)
    ]

    back : ReadsSite word site → site_of word ≡ Some site
    back h = ap site_of h.spelled ∙ site_of-parts site.region site.account h.form.region_form h.form.account_form

-- what the test says of the reader
pub site_of-off : (word : List ℕ) → is_site_word word ≡ false → site_of word ≡ None
unfolding site_of
site_of-off word h = cond-false (is_site_word word) (Some (parts_of word)) None h

-- a word of a site reads as the site of its region and its account
pub site_of-on : (word region account : List ℕ) → is_site_word word ≡ true → region ≡ region_of word
    → account ≡ account_digits word → site_of word ≡ Some (record { region = region; account = account })
unfolding site_of
site_of-on word region account h r a =
    cond-true (is_site_word word) (Some (parts_of word)) None h
    ∙ ap (λ l. Some (record { region = l; account = account_digits word })) (sym r)
    ∙ ap (λ l. Some (record { region = region; account = l })) (sym a)

-- where the reader says none, the word reads as no site
pub site_of-none : (word : List ℕ) → site_of word ≡ None → (site : SiteId) → ¬ (ReadsSite word site)
site_of-none word e site r =
    let none : None ≡ Some site = sym e ∙ (site_of-ReadsSite word site).1 r in absurd (cc none)

-- the word of a site reads as it
pub site_of-site_word : (site : SiteId) → IsSite site → site_of (site_word site) ≡ Some site
site_of-site_word site h = (site_of-ReadsSite (site_word site) site).1 (record { spelled = refl; form = h })

-- ---- texts

-- a text of UTF-8 is kept
pub utf8_or_empty-IsUtf8 : (text : List ℕ) → IsUtf8 text → utf8_or_empty text ≡ text
unfolding utf8_or_empty
utf8_or_empty-IsUtf8 text h =
    cond-true _ _ _ (eq-eqb (utf8_valid_len text) (length text) (utf8_valid_len-IsUtf8 text h))

-- of a text that isn't UTF-8 throughout nothing is kept
pub utf8_or_empty-short : (text : List ℕ) → utf8_valid_len text < length text → utf8_or_empty text ≡ []
unfolding utf8_or_empty
utf8_or_empty-short text h = cond-false _ _ _ (ne_eqb (utf8_valid_len text) (length text) (λ e. omega arith))
