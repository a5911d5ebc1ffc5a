-- A body that is read thinly asks for the same.
use Rattle.std.proofs.Common.{◌≡◌, ◌∙◌, ◌≤◌, ◌<◌, ◌&&◌, ◌||◌, ℕ, zero, suc, Bool, true, false, not, List, [], ◌∷◌, map, take, length, Option, None, Some, is_some, cond, if◌then◌else◌, option_map, option_and_then, nat_le, refl, sym, ap, ap₂, arith, bytes_eq, true≢false}
use Rattle.std.specs.List.{cons_option, find}
use Rattle.std.specs.Option.{option_map_or}
use Rattle.std.proofs.lemmas.Bool.Decides.{nat_tests}
use Rattle.serde_json.specs.Data as json_data
use Rattle.serde_json.specs.Data.{Data, Items, no_items, item, array, object, no_members}
use Rattle.serde_json.specs.Find.{get, as_str, as_bool, as_array, as_number, as_integer, as_object}
use Rattle.ecr_json.specs.Thin.{are_texts, first_items, max_texts, thin, IsThin, IsThinOf}
use Rattle.ecr_model.specs.declared.requests.action.Action.{Action}
use Rattle.ecr_model.specs.declared.requests.action.Domain.{Domain}
use Rattle.ecr_model.specs.declared.requests.action.Domain.TheVariants as domains
use Rattle.ecr_model.specs.declared.requests.action.Member.{Member}
use Rattle.ecr_model.specs.declared.names.SiteId.{SiteId}
use Rattle.ecr_model.specs.declared.requests.refusal.Parameter.{Parameter}
use Rattle.ecr_model.specs.declared.requests.refusal.Refusal.TheVariants.{Serialization}
use Rattle.ecr_model.specs.requests.Actions.{Reading, refuses, members_of, made_by, unless_bad, values_reading, typed_reading, body_reading}
use Rattle.ecr_model.specs.requests.Members as model
use Rattle.ecr_model.specs.requests.Members.{Typed, absent, text, whole, truth, texts, Valued, valued, unless_null, member_at, all_texts, as_whole, typed, typed_member, all_typed, typed_members, named_value, value_at, is_there, text_in, whole_in, truth_in, texts_in, site_of_account, token_place, rows_of, mutability_of, are_names, allows, stands_beside, is_bad, first_bad}
use Rattle.ecr_model.specs.names.Names.{is_name}
use Rattle.ecr_model.specs.documents.Policies.{texts_of}
use Rattle.ecr_model.specs.requests.Refusals.{parameter_text}
use Rattle.ecr_api.specs.Named.{IsNamed, AreNamed}

-- ---- one value

-- the value as it is kept: of a list of texts the first
abbrev cut : Typed → Typed
cut absent = absent
cut (text t) = text t
cut (whole n) = whole n
cut (truth b) = truth b
cut (texts ts) = texts (take max_texts ts)

-- a list as it is kept, under f, where f gives the same for the list and for `{}`
kept_list : {A : Type 0} (f : Data → A) (a : A) (b : Bool) (ds : Items) → f (array ds) ≡ a → f (object no_members) ≡ a
    → f (if b then array ds else object no_members) ≡ a
kept_list f a true ds x y = x
kept_list f a false ds x y = y

as_str-thin : (d : Data) → as_str (thin d) ≡ as_str d
as_str-thin json_data.null = refl
as_str-thin (json_data.boolean b) = refl
as_str-thin (json_data.number n) = refl
as_str-thin (json_data.string s) = refl
as_str-thin (array ds) = kept_list as_str None (are_texts ds) (first_items max_texts ds) refl refl
as_str-thin (object ms) = refl

as_bool-thin : (d : Data) → as_bool (thin d) ≡ as_bool d
as_bool-thin json_data.null = refl
as_bool-thin (json_data.boolean b) = refl
as_bool-thin (json_data.number n) = refl
as_bool-thin (json_data.string s) = refl
as_bool-thin (array ds) = kept_list as_bool None (are_texts ds) (first_items max_texts ds) refl refl
as_bool-thin (object ms) = refl

as_number-thin : (d : Data) → as_number (thin d) ≡ as_number d
as_number-thin json_data.null = refl
as_number-thin (json_data.boolean b) = refl
as_number-thin (json_data.number n) = refl
as_number-thin (json_data.string s) = refl
as_number-thin (array ds) = kept_list as_number None (are_texts ds) (first_items max_texts ds) refl refl
as_number-thin (object ms) = refl

unless_null-thin : (d : Data) → unless_null (thin d) ≡ option_map thin (unless_null d)
unless_null-thin json_data.null = refl
unless_null-thin (json_data.boolean b) = refl
unless_null-thin (json_data.number n) = refl
unless_null-thin (json_data.string s) = refl
unless_null-thin (array ds) = there (are_texts ds) (first_items max_texts ds)
  where
    there : (b : Bool) (fs : Items) → unless_null (if b then array fs else object no_members) ≡ Some
        (if b then array fs else object no_members)
    there true fs = refl
    there false fs = refl
unless_null-thin (object ms) = refl

both_are : (a b : Bool) → (a && b) ≡ true → (a ≡ true) × (b ≡ true)
both_are true b e = (refl, e)
both_are false b e = absurd (true≢false (sym e))

are_texts-first_items : (n : ℕ) (ds : Items) → are_texts ds ≡ true → model.are_texts (first_items n ds) ≡ true
are_texts-first_items n no_items e = refl
are_texts-first_items zero (item d ds) e = refl
are_texts-first_items (suc n) (item d ds) e =
    let each = both_are (is_some (as_str d)) (are_texts ds) e in
    ap₂ (λ a b. a && b) each.0 (are_texts-first_items n ds each.1)

are_texts-same : (ds : Items) → are_texts ds ≡ model.are_texts ds
are_texts-same no_items = refl
are_texts-same (item d ds) = ap (λ b. is_some (as_str d) && b) (are_texts-same ds)

take_option : (n : ℕ) (o : Option (List ℕ)) (ts us : List (List ℕ)) → is_some o ≡ true → ts ≡ take n us
    → cons_option o ts ≡ take (suc n) (cons_option o us)
take_option n None ts us e same = absurd (true≢false (sym e))
take_option n (Some t) ts us e same = ap (λ l. t ∷ l) same

texts_of-first_items : (n : ℕ) (ds : Items) → are_texts ds ≡ true → texts_of (first_items n ds) ≡ take n (texts_of ds)
texts_of-first_items zero no_items e = refl
texts_of-first_items (suc n) no_items e = refl
texts_of-first_items zero (item d ds) e = refl
texts_of-first_items (suc n) (item d ds) e =
    let each = both_are (is_some (as_str d)) (are_texts ds) e in
    take_option n (as_str d) (texts_of (first_items n ds)) (texts_of ds) each.0 (texts_of-first_items n ds each.1)

-- a list of texts stays one, and no other value becomes one
list_kept : (b : Bool) (ds : Items) → are_texts ds ≡ b
    → option_map texts (option_and_then all_texts
    (as_array (if b then array (first_items max_texts ds) else object no_members))) ≡ option_map cut
    (option_map texts (all_texts ds))
list_kept true ds e =
    let kept : all_texts (first_items max_texts ds) ≡ Some (texts_of (first_items max_texts ds)) =
    ap (λ b. if b then Some (texts_of (first_items max_texts ds)) else None)
    (are_texts-first_items max_texts ds e) in
    let whole_list : all_texts ds ≡ Some (texts_of ds) =
    ap (λ b. if b then Some (texts_of ds) else None) (sym (are_texts-same ds) ∙ e) in
    ap (option_map texts) kept ∙ ap (λ ts. Some (texts ts)) (texts_of-first_items max_texts ds e)
    ∙ sym (ap (λ o. option_map cut (option_map texts o)) whole_list)
list_kept false ds e =
    let none_kept : all_texts ds ≡ None =
    ap (λ b. if b then Some (texts_of ds) else None) (sym (are_texts-same ds) ∙ e) in
    sym (ap (λ o. option_map cut (option_map texts o)) none_kept)

list-thin : (d : Data) → option_map texts (option_and_then all_texts (as_array (thin d))) ≡ option_map cut
    (option_map texts (option_and_then all_texts (as_array d)))
list-thin json_data.null = refl
list-thin (json_data.boolean b) = refl
list-thin (json_data.number n) = refl
list-thin (json_data.string s) = refl
list-thin (array ds) = list_kept (are_texts ds) ds refl
list-thin (object ms) = refl

text_kept : (o : Option (List ℕ)) → option_map text o ≡ option_map cut (option_map text o)
text_kept None = refl
text_kept (Some t) = refl

truth_kept : (o : Option Bool) → option_map truth o ≡ option_map cut (option_map truth o)
truth_kept None = refl
truth_kept (Some b) = refl

whole_kept : (d : Data) → option_map whole (as_whole d) ≡ option_map cut (option_map whole (as_whole d))
whole_kept d = by (as_whole d) where
  by : (o : Option _) → option_map whole o ≡ option_map cut (option_map whole o)
  by None = refl
  by (Some n) = refl

text-thin : (d : Data) → option_map text (as_str (thin d)) ≡ option_map cut (option_map text (as_str d))
text-thin d = ap (option_map text) (as_str-thin d) ∙ text_kept (as_str d)

-- a value keeps its type in each domain
typed-thin : (domain : Domain) (d : Data) → typed domain (thin d) ≡ option_map cut (typed domain d)
typed-thin domains.Account d = text-thin d
typed-thin domains.RepositoryName d = text-thin d
typed-thin domains.RepositoryNames d = list-thin d
typed-thin domains.Mutability d = text-thin d
typed-thin domains.Truth d = ap (option_map truth) (as_bool-thin d) ∙ truth_kept (as_bool d)
typed-thin domains.Results d =
    ap (λ o. option_map whole (option_and_then as_integer o)) (as_number-thin d) ∙ whole_kept d
typed-thin domains.Token d = text-thin d

-- ---- allowed values

text_in-cut : (v : Typed) → text_in (cut v) ≡ text_in v
text_in-cut absent = refl
text_in-cut (text t) = refl
text_in-cut (whole n) = refl
text_in-cut (truth b) = refl
text_in-cut (texts ts) = refl

whole_in-cut : (v : Typed) → whole_in (cut v) ≡ whole_in v
whole_in-cut absent = refl
whole_in-cut (text t) = refl
whole_in-cut (whole n) = refl
whole_in-cut (truth b) = refl
whole_in-cut (texts ts) = refl

truth_in-cut : (v : Typed) → truth_in (cut v) ≡ truth_in v
truth_in-cut absent = refl
truth_in-cut (text t) = refl
truth_in-cut (whole n) = refl
truth_in-cut (truth b) = refl
truth_in-cut (texts ts) = refl

take-all : (n : ℕ) (ts : List (List ℕ)) → length ts ≤ n → take n ts ≡ ts
take-all zero [] h = refl
take-all (suc n) [] h = refl
take-all zero (t ∷ ts) h = let never : ⊥ = omega arith in absurd never
take-all (suc n) (t ∷ ts) h = ap (λ l. t ∷ l) (take-all n ts (omega arith))

length-take : (n : ℕ) (ts : List (List ℕ)) → n ≤ length ts → length (take n ts) ≡ n
length-take zero [] h = refl
length-take (suc n) [] h = let never : ⊥ = omega arith in absurd never
length-take zero (t ∷ ts) h = refl
length-take (suc n) (t ∷ ts) h = ap suc (length-take n ts (omega arith))

too_many : (ts : List (List ℕ)) → 100 < length ts → are_names ts ≡ false
too_many ts h = grind (arith, nat_tests)

cut_names : (ts : List (List ℕ)) (b : Bool) → nat_le (length ts) 100 ≡ b → are_names (take 101 ts) ≡ are_names ts
cut_names ts true few = ap are_names (take-all 101 ts (grind (arith, nat_tests)))
cut_names ts false more =
    let above : 100 < length ts = grind (arith, nat_tests) in
    let size = length-take 101 ts (omega arith) in
    too_many (take 101 ts) (omega (arith, size)) ∙ sym (too_many ts above)

are_names-take : (ts : List (List ℕ)) → are_names (take max_texts ts) ≡ are_names ts
unfolding max_texts
are_names-take ts = cut_names ts (nat_le (length ts) 100) refl

-- where the texts are names, all of them are kept
few_names : (ts : List (List ℕ)) → are_names ts ≡ true → take max_texts ts ≡ ts
unfolding max_texts
few_names ts e = take-all 101 ts (grind (arith, nat_tests))

names-cut : (v : Typed) → option_map_or are_names (texts_in (cut v)) false ≡ option_map_or are_names (texts_in v) false
names-cut absent = refl
names-cut (text t) = refl
names-cut (whole n) = refl
names-cut (truth b) = refl
names-cut (texts ts) = are_names-take ts

not_bad : (a b : Bool) → (not a || b) ≡ false → a ≡ true
not_bad true b e = refl
not_bad false b e = absurd (true≢false e)

module _ (base : SiteId) (served : List SiteId) where
  -- what is kept of a value is in its domain where the value is
  allows-cut : (domain : Domain) (v : Typed) → allows base served domain (cut v) ≡ allows base served domain v
  allows-cut domains.Account v = ap (λ o. is_some (option_and_then (site_of_account base served) o)) (text_in-cut v)
  allows-cut domains.RepositoryName v = ap (λ o. option_map_or is_name o false) (text_in-cut v)
  allows-cut domains.RepositoryNames v = names-cut v
  allows-cut domains.Mutability v = ap (λ o. is_some (option_and_then mutability_of o)) (text_in-cut v)
  allows-cut domains.Truth v = ap is_some (truth_in-cut v)
  allows-cut domains.Results v = ap (λ o. is_some (option_and_then rows_of o)) (whole_in-cut v)
  allows-cut domains.Token v = ap (λ o. is_some (option_and_then token_place o)) (text_in-cut v)

  -- a list of texts that is allowed is kept whole
  allowed_whole : (domain : Domain) (ts : List (List ℕ)) → allows base served domain (texts ts) ≡ true
      → take max_texts ts ≡ ts
  allowed_whole domains.Account ts e = absurd (true≢false (sym e))
  allowed_whole domains.RepositoryName ts e = absurd (true≢false (sym e))
  allowed_whole domains.RepositoryNames ts e = few_names ts e
  allowed_whole domains.Mutability ts e = absurd (true≢false (sym e))
  allowed_whole domains.Truth ts e = absurd (true≢false (sym e))
  allowed_whole domains.Results ts e = absurd (true≢false (sym e))
  allowed_whole domains.Token ts e = absurd (true≢false (sym e))

  -- a value that isn't bad is kept whole
  fine_whole : (domain : Domain) (beside required : Bool) (v : Typed)
      → (if is_there v then not (allows base served domain v) || beside else required) ≡ false → cut v ≡ v
  fine_whole domain beside required absent e = refl
  fine_whole domain beside required (text t) e = refl
  fine_whole domain beside required (whole n) e = refl
  fine_whole domain beside required (truth b) e = refl
  fine_whole domain beside required (texts ts) e =
      ap texts (allowed_whole domain ts (not_bad (allows base served domain (texts ts)) beside e))

-- ---- the values of the members

-- the member with what is kept of its value
abbrev cut_value : Valued → Valued
cut_value v = record { name = v.name; member = v.member; value = cut v.value }

there_thin : (o : Option Data) → option_and_then unless_null (option_map thin o) ≡ option_map thin
    (option_and_then unless_null o)
there_thin None = refl
there_thin (Some d) = unless_null-thin d

typed_at : (domain : Domain) (o : Option Data)
    → option_map_or (typed domain) (option_map thin o) (Some absent) ≡ option_map cut
    (option_map_or (typed domain) o (Some absent))
typed_at domain None = refl
typed_at domain (Some d) = typed-thin domain d

behind : (m : Member) (o : Option Typed) (rest : Option (List Valued))
    → option_and_then (λ value. option_map (λ values. valued m value ∷ values) (option_map (map cut_value) rest))
    (option_map cut o)
    ≡ option_map (map cut_value) (option_and_then (λ value. option_map (λ values. valued m value ∷ values) rest) o)
behind m None rest = refl
behind m (Some v) None = refl
behind m (Some v) (Some values) = refl

where_object : (b : Bool) (o : Option (List Valued))
    → (if b then option_map (map cut_value) o else None) ≡ option_map (map cut_value) (if b then o else None)
where_object true o = refl
where_object false o = refl

module _ (names : List (List ℕ)) (kept all : Data) (h : IsThin names kept all) where
  typed_member-thin : (m : Member) → IsNamed names m.parameter
      → typed_member kept m ≡ option_map cut (typed_member all m)
  typed_member-thin m named =
      let name = parameter_text m.parameter in
      let same : member_at name kept ≡ option_map thin (member_at name all) =
      ap (option_and_then unless_null) (h.members name named) ∙ there_thin (get name all) in
      ap (λ o. option_map_or (typed m.domain) o (Some absent)) same ∙ typed_at m.domain (member_at name all)

  all_typed-thin : (ms : List Member) → AreNamed names ms
      → all_typed ms kept ≡ option_map (map cut_value) (all_typed ms all)
  all_typed-thin [] n = refl
  all_typed-thin (m ∷ ms) n =
      ap₂ (λ rest o. option_and_then (λ value. option_map (λ values. valued m value ∷ values) rest) o)
      (all_typed-thin ms n.2) (typed_member-thin m n.0)
      ∙ behind m (typed_member all m) (all_typed ms all)

  -- the values of the kept members are those of the body's members, cut
  typed_members-thin : (ms : List Member) → AreNamed names ms
      → typed_members ms kept ≡ option_map (map cut_value) (typed_members ms all)
  unfolding typed_members
  typed_members-thin ms n =
      ap₂ (λ b o. if b then o else None) h.objects (all_typed-thin ms n)
      ∙ where_object (is_some (as_object all)) (all_typed ms all)

-- ---- the first bad member

is_there-cut : (v : Typed) → is_there (cut v) ≡ is_there v
is_there-cut absent = refl
is_there-cut (text t) = refl
is_there-cut (whole n) = refl
is_there-cut (truth b) = refl
is_there-cut (texts ts) = refl

either_cut : (b : Bool) (v w x : Typed) → x ≡ cut w → (if b then cut v else x) ≡ cut (if b then v else w)
either_cut true v w x e = refl
either_cut false v w x e = e

named_value-cut : (name : List ℕ) (vs : List Valued) → named_value name (map cut_value vs) ≡ cut (named_value name vs)
named_value-cut name [] = refl
named_value-cut name (v ∷ vs) =
    either_cut (bytes_eq v.name name) v.value (named_value name vs) (named_value name (map cut_value vs))
    (named_value-cut name vs)

stands_beside-cut : (vs : List Valued) (o : Option Parameter) → stands_beside (map cut_value vs) o ≡ stands_beside vs o
stands_beside-cut vs None = refl
stands_beside-cut vs (Some p) = ap is_there (named_value-cut (parameter_text p) vs) ∙ is_there-cut (value_at p vs)

-- where no item of a list passes a test, the first of them doesn't, and none of the others
find-None : {X : Type 0} (p : X → Bool) (x : X) (xs : List X) → find p (x ∷ xs) ≡ None → (p x ≡ false)
    × (find p xs ≡ None)
find-None p x xs e = grind arith

-- an option that is none under f is none
option_map-None : {X Y : Type 0} (f : X → Y) (o : Option X) → option_map f o ≡ None → o ≡ None
option_map-None f None e = refl
option_map-None f (Some x) e = cc

abbrev parameter_of : Valued → Parameter
parameter_of v = v.member.parameter

either_named : (b : Bool) (v : Valued) (o p : Option Valued) → option_map parameter_of o ≡ option_map parameter_of p
    → option_map parameter_of (cond b (Some (cut_value v)) o) ≡ option_map parameter_of (cond b (Some v) p)
either_named true v o p e = refl
either_named false v o p e = e

module _ (base : SiteId) (served : List SiteId) where
  is_bad-cut : (all : List Valued) (v : Valued)
      → is_bad base served (map cut_value all) (cut_value v) ≡ is_bad base served all v
  is_bad-cut all v =
      ap₂ (λ t a. if t then not a || stands_beside (map cut_value all) v.member.apart else v.member.required)
      (is_there-cut v.value) (allows-cut base served v.member.domain v.value)
      ∙ ap (λ b. if is_there v.value then not
      (allows base served v.member.domain v.value) || b else v.member.required)
      (stands_beside-cut all v.member.apart)

  find-cut : (all vs : List Valued) → option_map parameter_of
      (find (is_bad base served (map cut_value all)) (map cut_value vs)) ≡ option_map parameter_of
      (find (is_bad base served all) vs)
  find-cut all [] = refl
  find-cut all (v ∷ vs) =
      ap (λ b. option_map parameter_of
      (cond b (Some (cut_value v)) (find (is_bad base served (map cut_value all)) (map cut_value vs))))
      (is_bad-cut all v)
      ∙ either_named (is_bad base served all v) v (find (is_bad base served (map cut_value all)) (map cut_value vs))
      (find (is_bad base served all) vs) (find-cut all vs)

  -- the same member is the first bad one
  first_bad-cut : (vs : List Valued) → first_bad base served (map cut_value vs) ≡ first_bad base served vs
  unfolding first_bad
  first_bad-cut vs = find-cut vs vs

  none_bad : (all vs : List Valued) → find (is_bad base served all) vs ≡ None → map cut_value vs ≡ vs
  none_bad all [] e = refl
  none_bad all (v ∷ vs) e =
      let each = find-None (is_bad base served all) v vs e in
      let same = fine_whole base served v.member.domain
      (stands_beside all v.member.apart) v.member.required v.value each.0 in
      ap₂ (λ x l. record { name = v.name; member = v.member; value = x } ∷ l) same (none_bad all vs each.1)

  -- where no member is bad, all values are kept whole
  all_whole : (vs : List Valued) → first_bad base served vs ≡ None → map cut_value vs ≡ vs
  unfolding first_bad
  all_whole vs e = none_bad vs vs (option_map-None parameter_of (find (is_bad base served vs) vs) e)

  -- ---- what is asked

  unless_at : (o : Option Parameter) (a b : Reading) → (o ≡ None → a ≡ b) → unless_bad o a ≡ unless_bad o b
  unless_at None a b same = same refl
  unless_at (Some p) a b same = refl

  values_reading-cut : (action : Action) (vs : List Valued)
      → values_reading base served action (map cut_value vs) ≡ values_reading base served action vs
  unfolding values_reading
  values_reading-cut action vs =
      ap (λ o. unless_bad o (made_by base served action (map cut_value vs))) (first_bad-cut vs)
      ∙ unless_at (first_bad base served vs) (made_by base served action (map cut_value vs))
      (made_by base served action vs) (λ e. ap (made_by base served action) (all_whole vs e))

  reading_at : (action : Action) (o : Option (List Valued))
      → option_map_or (values_reading base served action) (option_map (map cut_value) o) (refuses Serialization)
      ≡ option_map_or (values_reading base served action) o (refuses Serialization)
  reading_at action None = refl
  reading_at action (Some vs) = values_reading-cut action vs

  typed_reading-thin : (names : List (List ℕ)) (kept all : Data) → IsThin names kept all → (action : Action)
      → AreNamed names (members_of action)
      → typed_reading base served action kept ≡ typed_reading base served action all
  unfolding typed_reading
  typed_reading-thin names kept all h action n =
      ap (λ o. option_map_or (values_reading base served action) o (refuses Serialization))
      (typed_members-thin names kept all h (members_of action) n)
      ∙ reading_at action (typed_members (members_of action) all)

  -- a body asks for the same as what is kept of it by the names of the action's members
  pub body_reading-thin : (names : List (List ℕ)) (action : Action) (kept all : Option Data)
      → AreNamed names (members_of action) → IsThinOf names kept all
      → body_reading base served action kept ≡ body_reading base served action all
  body_reading-thin names action None None n h = refl
  body_reading-thin names action (Some kept) (Some all) n h = typed_reading-thin names kept all h action n
  body_reading-thin names action None (Some all) n h = absurd h
  body_reading-thin names action (Some kept) None n h = absurd h
