-- When two cells are the same, by the tests and the orders of their keys.
use Rattle.std.proofs.Common.{◌≡◌, true, ◌&&◌, List, ℕ, refl, ap, ◌∙◌, bytes_eq}
use Rattle.std.specs.Cmp.Lexicographic.{slice_cmp}
use Rattle.std.specs.Ordering.{nat_cmp, is_eq, ordering_then}
use Rattle.std.specs.declared.cmp.Ordering.{Ordering}
use Rattle.std.specs.declared.cmp.Ordering.TheVariants.{Less, Equal, Greater}
use Rattle.std.proofs.lemmas.Bool.{and_parts}
use Rattle.std.proofs.lemmas.Map.Text.{is_eq-slice_cmp}
use Rattle.std.proofs.lemmas.Slice.Eq.{bytes_eq-Decides}
use Rattle.ecr_model.specs.declared.names.Name.{Name}
use Rattle.ecr_model.specs.declared.names.RepoKey.{RepoKey}
use Rattle.ecr_model.specs.declared.names.SiteId.{SiteId}
use Rattle.ecr_model.specs.registry.Directories.{name_order}
use Rattle.ecr_model.specs.registry.Scripts.{same_site, same_key}
use Rattle.ecr_model.specs.names.Sites.{site_order}

is_eq-then : (o p : Ordering) → is_eq (ordering_then o p) ≡ (is_eq o && is_eq p)
is_eq-then Less p = refl
is_eq-then Equal p = refl
is_eq-then Greater p = refl

-- sites compare equal where they are the same
pub is_eq-site_order : (a b : SiteId) → is_eq (site_order a b) ≡ same_site a b
is_eq-site_order a b =
    is_eq-then (slice_cmp nat_cmp a.region b.region) (slice_cmp nat_cmp a.account b.account)
    ∙ ap (λ t. t && is_eq (slice_cmp nat_cmp a.account b.account)) (is_eq-slice_cmp a.region b.region)
    ∙ ap (λ t. bytes_eq a.region b.region && t) (is_eq-slice_cmp a.account b.account)

-- names compare equal where their texts are the same
pub is_eq-name_order : (a b : Name) → is_eq (name_order a b) ≡ bytes_eq a.text b.text
is_eq-name_order a b = is_eq-slice_cmp a.text b.text

bytes_eq-self : (a : List ℕ) → bytes_eq a a ≡ true
bytes_eq-self a = (bytes_eq-Decides a a).1 refl

bytes_eq-same : (a b : List ℕ) → bytes_eq a b ≡ true → a ≡ b
bytes_eq-same a b is = (bytes_eq-Decides a b).0 is

-- a site is the same as itself, and as no other
pub same_site-self : (a : SiteId) → same_site a a ≡ true
same_site-self a = ap (λ t. t && bytes_eq a.account a.account) (bytes_eq-self a.region) ∙ bytes_eq-self a.account

-- sites that compare as the same are equal
pub same_site-same : (a b : SiteId) → same_site a b ≡ true → a ≡ b
same_site-same a b is =
    let parts = and_parts (bytes_eq a.region b.region) (bytes_eq a.account b.account) is in
    let region : a.region ≡ b.region = bytes_eq-same a.region b.region parts.0 in
    let account : a.account ≡ b.account = bytes_eq-same a.account b.account parts.1 in
    ap (λ r. record { region = r; account = a.account }) region
    ∙ ap (λ t. record { region = b.region; account = t }) account

-- so is a repository
pub same_key-self : (a : RepoKey) → same_key a a ≡ true
same_key-self a = ap (λ t. t && same_site a.site a.site) (bytes_eq-self a.name.text) ∙ same_site-self a.site

-- repositories that compare as the same are equal
pub same_key-same : (a b : RepoKey) → same_key a b ≡ true → a ≡ b
same_key-same a b is =
    let parts = and_parts (bytes_eq a.name.text b.name.text) (same_site a.site b.site) is in
    let name : a.name.text ≡ b.name.text = bytes_eq-same a.name.text b.name.text parts.0 in
    let site : a.site ≡ b.site = same_site-same a.site b.site parts.1 in
    ap (λ n. record { site = a.site; name = record { text = n } }) name
    ∙ ap (λ t. record { site = t; name = b.name }) site
