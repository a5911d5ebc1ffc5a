-- What a request may ask of a desk.
use Rattle.std.proofs.Common.{◌≡◌, ◌<◌, ◌^◌, ◌&&◌, ℕ, zero, suc, Bool, true, false, cond, List, [], ◌∷◌, length, Option, None, Some, refl, subst, arith}
use Rattle.std.specs.Prelude.{Contains, find, unwrap_or, option_and_then, nat_lt}
use Rattle.std.specs.Option.{option_map_or, option_or}
use Rattle.std.proofs.lemmas.Bool.Decides.{nat_tests}
use Rattle.serde_json.specs.Data.{Data}
use Rattle.ecr_model.specs.declared.requests.action.Action.{Action}
use Rattle.ecr_model.specs.declared.names.SiteId.{SiteId}
use Rattle.ecr_model.specs.declared.requests.refusal.Parameter.{Parameter}
use Rattle.ecr_model.specs.declared.requests.refusal.Parameter.TheVariants.{RegistryId, NextToken}
use Rattle.ecr_model.specs.declared.requests.refusal.Refusal.TheVariants.{Serialization}
use Rattle.ecr_model.specs.requests.Actions.{Asked, Made, one, several, Reading, asks, refuses, made_in, asked_in, made_by, unless_bad, values_reading, typed_reading, body_reading, action_reading, reading, site_in, text_of_parameter, members_of, action_of}
use Rattle.ecr_model.specs.http.Hosts.{first_site, first_with, named_site, registry_host, api_host, site_for, without_port}
use Rattle.ecr_model.specs.documents.Documents.{document}
use Rattle.ecr_model.specs.requests.Members.{Valued, typed_members, digits_value, first_bad, is_decimal, token_place, site_of_account}
use Rattle.ecr_session.specs.Turns.{IsAskable}

-- ---- the site is served

-- an item of a list is one of a longer list
Contains-behind : {X : Type 0} (y x : X) (xs : List X) → Contains xs x → Contains (y ∷ xs) x
Contains-behind y x xs c = (suc c.0, omega (arith, c.1), c.2)

-- what is found in a list is one of its items
Contains-find : {X : Type 0} (test : X → Bool) (xs : List X) (x : X) → find test xs ≡ Some x → Contains xs x
Contains-find test [] x found = absurd (let no : None ≡ Some x = found in cc)
Contains-find test (y ∷ ys) x found = by (test y) found (λ e. Contains-find test ys x e) where
  by : (b : Bool) → cond b (Some y) (find test ys) ≡ Some x → (find test ys ≡ Some x → Contains ys x)
      → Contains (y ∷ ys) x
  by true e rest = subst (λ z. Contains (y ∷ ys) z) (let same : y ≡ x = cc in same) (zero, omega arith, refl)
  by false e rest = Contains-behind y x ys (rest e)

-- one of the served sites, or else one that is served
Contains-or : (served : List SiteId) (base : SiteId) (o : Option SiteId)
    → ((s : SiteId) → o ≡ Some s → Contains served s) → Contains served base → Contains served (unwrap_or o base)
Contains-or served base None named at = at
Contains-or served base (Some s) named at = named s refl

Contains-either : (served : List SiteId) (o p : Option SiteId) → ((s : SiteId) → o ≡ Some s → Contains served s)
    → ((s : SiteId) → p ≡ Some s → Contains served s)
    → (s : SiteId) → option_or o p ≡ Some s → Contains served s
Contains-either served None p left right s e = right s e
Contains-either served (Some t) p left right s e = left s e

Contains-then : {X : Type 0} (served : List SiteId) (o : Option X) (f : X → Option SiteId)
    → ((x : X) (s : SiteId) → f x ≡ Some s → Contains served s)
    → (s : SiteId) → option_and_then f o ≡ Some s → Contains served s
Contains-then served None f each s e = absurd (let no : None ≡ Some s = e in cc)
Contains-then served (Some x) f each s e = each x s e

-- the site that a host names
named_site-served : (served : List SiteId) (host : List ℕ) (s : SiteId) → named_site served host ≡ Some s
    → Contains served s
unfolding named_site
named_site-served served host s e =
    Contains-either served (first_with registry_host host served) (first_with api_host host served)
    (λ t f. Contains-find _ served t f) (λ t f. Contains-find _ served t f) s e

first_site-served : (served : List SiteId) → 0 < length served → Contains served (first_site served)
first_site-served [] some = absurd (omega arith)
first_site-served (s ∷ served) some = (zero, omega arith, refl)

-- the site to which a request comes is served
pub site_for-served : (served : List SiteId) (host : Option (List ℕ)) → 0 < length served
    → Contains served (site_for served host)
unfolding site_for
site_for-served served host some =
    Contains-or served (first_site served) (option_and_then (λ value. named_site served (without_port value)) host)
    (Contains-then served host (λ value. named_site served (without_port value))
    (λ value s e. named_site-served served (without_port value) s e))
    (first_site-served served some)

-- the site that a body names
site_of_account-served : (base : SiteId) (served : List SiteId) (account : List ℕ) (s : SiteId)
    → site_of_account base served account ≡ Some s → Contains served s
unfolding site_of_account
site_of_account-served base served account s e = Contains-find _ served s e

site_in-served : (base : SiteId) (served : List SiteId) (values : List Valued) → Contains served base
    → Contains served (site_in base served values)
site_in-served base served values at =
    Contains-or served base (option_and_then (site_of_account base served) (text_of_parameter RegistryId values))
    (Contains-then served (text_of_parameter RegistryId values) (site_of_account base served)
    (site_of_account-served base served))
    at

-- ---- the first place of a page

token_place-below : (text : Option (List ℕ)) → unwrap_or (option_and_then token_place text) 0 < 2 ^ 63
unfolding token_place
token_place-below None = omega arith
token_place-below (Some text) = by (is_decimal text) (digits_value text) where
  by : (b : Bool) (value : ℕ) → unwrap_or (cond (b && nat_lt value (2 ^ 63)) (Some value) None) 0 < 2 ^ 63
  by true value = grind (arith, nat_tests)
  by false value = omega arith

-- ---- what is asked

asked_in-askable : (base : SiteId) (served : List SiteId) (values : List Valued) (made : Made) → Contains served base
    → IsAskable served (asked_in base served values made)
asked_in-askable base served values (one call) at = record { at = site_in-served base served values at; page = tt }
asked_in-askable base served values several at =
    record { at = site_in-served base served values at; page = token_place-below (text_of_parameter NextToken values) }

-- what is asked may be asked of a desk
abbrev IsFit : List SiteId → Reading → Type 0
IsFit served (asks asked) = IsAskable served asked
IsFit served (refuses refusal) = Unit {0}

unless_bad-fit : (served : List SiteId) (bad : Option Parameter) (reading : Reading) → IsFit served reading
    → IsFit served (unless_bad bad reading)
unless_bad-fit served None reading fit = fit
unless_bad-fit served (Some parameter) reading fit = tt

values-fit : (base : SiteId) (served : List SiteId) (action : Action) (values : List Valued) → Contains served base
    → IsFit served (values_reading base served action values)
unfolding values_reading made_by
values-fit base served action values at =
    unless_bad-fit served (first_bad base served values) (made_by base served action values)
    (asked_in-askable base served values (made_in action values) at)

typed-fit : (base : SiteId) (served : List SiteId) (action : Action) (body : Data) → Contains served base
    → IsFit served (typed_reading base served action body)
unfolding typed_reading
typed-fit base served action body at = by (typed_members (members_of action) body) where
  by : (o : Option (List Valued)) → IsFit served
      (option_map_or (values_reading base served action) o (refuses Serialization))
  by None = tt
  by (Some values) = values-fit base served action values at

body-fit : (base : SiteId) (served : List SiteId) (action : Action) (body : Option Data) → Contains served base
    → IsFit served (body_reading base served action body)
body-fit base served action None at = tt
body-fit base served action (Some body) at = typed-fit base served action body at

action-fit : (base : SiteId) (served : List SiteId) (action : Option Action) (body : List ℕ) → Contains served base
    → IsFit served (action_reading base served action body)
action-fit base served None body at = tt
action-fit base served (Some action) body at = body-fit base served action (document body) at

reading-fit : (target body : List ℕ) (base : SiteId) (served : List SiteId) → Contains served base
    → IsFit served (reading target body base served)
unfolding reading
reading-fit target body base served at = action-fit base served (action_of target) body at

-- what a body asks is for a served site, and its page is in range
pub reading-askable : (target body : List ℕ) (base : SiteId) (served : List SiteId) (asked : Asked)
    → Contains served base → reading target body base served ≡ asks asked → IsAskable served asked
reading-askable target body base served asked at is = subst (IsFit served) is (reading-fit target body base served at)
