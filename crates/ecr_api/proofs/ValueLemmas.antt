-- The values of members as they are read.
use Rattle.std.proofs.Common.{◌≡◌, ◌∙◌, ◌&&◌, ◌≤◌, ℕ, suc, ◌-◌, get_or, take, slice_range, arith, length, List, [], ◌∷◌, ◌++◌, map, true, false, Bool, Option, None, Some, is_some, if◌then◌else◌, option_map, option_and_then, unwrap_or, refl, sym, ap, subst, append_assoc, true≢false}
use Rattle.std.specs.Option.{option_map_or}
use Rattle.std.specs.List.{cons_option, list_all}
use Rattle.serde_json.specs.Data.{Data}
use Rattle.serde_json.specs.Find.{as_object, as_str}
use Rattle.serde_json.specs.View.{view, items_view}
use Rattle.serde_json.specs.declared.value.Value.{Value}
use Rattle.ecr_json.specs.Fields.{field, of_type}
use Rattle.ecr_json.specs.declared.field.Field.{Field}
use Rattle.ecr_json.specs.declared.field.Field.TheVariants.{Absent, Wrong, Here}
use Rattle.ecr_model.specs.declared.requests.action.Member.{Member}
use Rattle.ecr_model.specs.requests.Members.{Typed, Valued, absent, all_texts, all_typed, are_texts, member_at, typed_member, typed_members, valued}
use Rattle.ecr_model.specs.names.Names.{is_name}
use Rattle.ecr_model.specs.documents.Policies.{texts_of}
use Rattle.ecr_api.specs.Readings.{AreApart, AreMembers, IsMemberOrNone}
use Rattle.ecr_api.specs.declared.values.Valued as kept
use Rattle.ecr_api.specs.Values.{item_text, member_as, valued_members, valued_of}

-- the value of what was read of a member
abbrev pub read_as : {A : Type 0} → (A → Option Typed) → Field A → Option Typed
read_as f Absent = Some absent
read_as f Wrong = None
read_as f (Here a) = f a

type_at : {A : Type 0} (f : A → Typed) (o : Option A) → read_as (λ a. Some (f a)) (of_type o) ≡ option_map f o
type_at f None = refl
type_at f (Some a) = refl

field_at : {A : Type 0} (f : A → Typed) (reads : Data → Option A) (o : Option Data)
    → read_as (λ a. Some (f a)) (option_map_or (λ d. of_type (reads d)) o Absent) ≡ option_map_or
    (λ v. option_map f (reads v)) o (Some absent)
field_at f reads None = refl
field_at f reads (Some d) = type_at f (reads d)

-- a member that is read as a type
pub member_as-field : {A : Type 0} (f : A → Typed) (reads : Data → Option A) (name : List ℕ) (body : Data)
    → member_as (λ v. option_map f (reads v)) name body ≡ read_as (λ a. Some (f a)) (field reads name body)
member_as-field f reads name body = sym (field_at f reads (member_at name body))

-- ---- the members in order

-- one value more stands behind those before
pub option_map-behind : (old : List Valued) (v : Valued) (o : Option (List Valued))
    → option_map (λ more. old ++ more) (option_map (λ more. v ∷ more) o) ≡ option_map
    (λ more. (old ++ v ∷ []) ++ more) o
option_map-behind old v None = refl
option_map-behind old v (Some more) = ap Some (sym (append_assoc old (v ∷ []) more))

valued_members-append : (xs ys : List kept.Valued) → valued_members (xs ++ ys) ≡ valued_members xs ++ valued_members ys
valued_members-append [] ys = refl
valued_members-append (x ∷ xs) ys = ap (λ l. valued_of x ∷ l) (valued_members-append xs ys)

one_more : (old : List Valued) (v : Valued) (m : Member) (o : Option Typed) (rest : Option (List Valued))
    → Some v ≡ option_map (valued m) o
    → option_map (λ more. old ++ more)
    (option_and_then (λ value. option_map (λ values. valued m value ∷ values) rest) o) ≡ option_map
    (λ more. (old ++ v ∷ []) ++ more) rest
one_more old v m None rest e = absurd (let no : Some v ≡ None = e in cc)
one_more old v m (Some t) rest e =
    let same : valued m t ≡ v = cc in
    ap (λ x. option_map (λ more. old ++ more) (option_map (λ more. x ∷ more) rest)) same ∙ option_map-behind old v rest

all_typed-cons : (old : List kept.Valued) (v : kept.Valued) (m : Member) (ms : List Member) (body : Data)
    → Some (valued_of v) ≡ option_map (valued m) (typed_member body m)
    → option_map (λ more. valued_members old ++ more) (all_typed (m ∷ ms) body) ≡ option_map
    (λ more. valued_members (old ++ v ∷ []) ++ more) (all_typed ms body)
all_typed-cons old v m ms body e =
    one_more (valued_members old) (valued_of v) m (typed_member body m) (all_typed ms body) e
    ∙ ap (λ l. option_map (λ more. l ++ more) (all_typed ms body)) (sym (valued_members-append old (v ∷ [])))

take-whole : (ms : List Member) → take (length ms) ms ≡ ms
take-whole [] = refl
take-whole (m ∷ ms) = ap (λ l. m ∷ l) (take-whole ms)

-- the first of the members is read, and the rest stands behind it
pub all_typed-first : (old : List kept.Valued) (v : kept.Valued) (ms : List Member) (d : Member) (body : Data)
    → 1 ≤ length ms → Some (valued_of v) ≡ option_map (valued (get_or ms 0 d)) (typed_member body (get_or ms 0 d))
    → option_map (λ more. valued_members old ++ more) (all_typed ms body) ≡ option_map
    (λ more. valued_members (old ++ v ∷ []) ++ more) (all_typed (slice_range ms 1 (length ms)) body)
all_typed-first old v [] d body some e = absurd (let never : ⊥ = omega (arith, some) in never)
all_typed-first old v (m ∷ ms) d body some e =
    let size : length (m ∷ ms) - 1 ≡ length ms = omega arith in
    let rest : slice_range (m ∷ ms) 1 (length (m ∷ ms)) ≡ ms = ap (λ n. take n ms) size ∙ take-whole ms in
    all_typed-cons old v m ms body e ∙ ap
    (λ l. option_map (λ more. valued_members (old ++ v ∷ []) ++ more) (all_typed l body)) (sym rest)

-- where one of the members stands apart from another, that is a member
valued_apart : (m : Member) (o : Option Typed) (rest : Option (List Valued)) (values : List Valued)
    → IsMemberOrNone m.apart → ((vs : List Valued) → rest ≡ Some vs → AreApart vs)
    → option_and_then (λ value. option_map (λ vs. valued m value ∷ vs) rest) o ≡ Some values → AreApart values
valued_apart m None rest values apart more e = absurd (let no : None ≡ Some values = e in cc)
valued_apart m (Some v) None values apart more e = absurd (let no : None ≡ Some values = e in cc)
valued_apart m (Some v) (Some vs) values apart more e =
    subst AreApart (let same : valued m v ∷ vs ≡ values = cc in same) (apart, more vs refl)

all_typed-apart : (ms : List Member) (body : Data) (values : List Valued) → AreMembers ms
    → all_typed ms body ≡ Some values → AreApart values
all_typed-apart [] body values named e = subst AreApart (let same : [] ≡ values = cc in same) tt
all_typed-apart (m ∷ ms) body values named e =
    valued_apart m (typed_member body m) (all_typed ms body) values named.1
    (λ vs is. all_typed-apart ms body vs named.2 is) e

object_apart : (b : Bool) (o : Option (List Valued)) (values : List Valued)
    → ((vs : List Valued) → o ≡ Some vs → AreApart vs) → (if b then o else None) ≡ Some values → AreApart values
object_apart true o values each e = each values e
object_apart false o values each e = absurd (let no : None ≡ Some values = e in cc)

-- the values of members with different names have different names
pub typed_members-apart : (ms : List Member) (body : Data) (values : List Valued) → AreMembers ms
    → typed_members ms body ≡ Some values → AreApart values
unfolding typed_members
typed_members-apart ms body values named e =
    object_apart (is_some (as_object body)) (all_typed ms body) values (λ vs is. all_typed-apart ms body vs named is) e

-- ---- lists of texts

text_first : (o : Option (List ℕ)) (ts us : List (List ℕ)) → is_some o ≡ true → ts ≡ us
    → cons_option o ts ≡ unwrap_or o [] ∷ us
text_first None ts us e same = absurd (true≢false (sym e))
text_first (Some t) ts us e same = ap (λ l. t ∷ l) same

both_are : (a b : Bool) → (a && b) ≡ true → (a ≡ true) × (b ≡ true)
both_are true b e = (refl, e)
both_are false b e = absurd (true≢false (sym e))

-- the texts of items that are all texts
texts_of-items_view : (vs : List Value) → are_texts (items_view vs) ≡ true
    → texts_of (items_view vs) ≡ map item_text vs
texts_of-items_view [] e = refl
texts_of-items_view (v ∷ vs) e =
    let each = both_are (is_some (as_str (view v))) (are_texts (items_view vs)) e in
    text_first (as_str (view v)) (texts_of (items_view vs)) (map item_text vs) each.0 (texts_of-items_view vs each.1)

-- where each item is a text, the texts are those of the items
pub all_texts-items_view : (vs : List Value) → are_texts (items_view vs) ≡ true
    → all_texts (items_view vs) ≡ Some (map item_text vs)
all_texts-items_view vs e =
    ap (λ b. if b then Some (texts_of (items_view vs)) else None) e ∙ ap Some (texts_of-items_view vs e)

-- where some value is no text there are no texts
pub all_texts-other : (vs : List Value) → are_texts (items_view vs) ≡ false → all_texts (items_view vs) ≡ None
all_texts-other vs e = ap (λ b. if b then Some (texts_of (items_view vs)) else None) e

-- there are as many texts as values
pub length-map : (vs : List Value) → length (map item_text vs) ≡ length vs
length-map [] = refl
length-map (v ∷ vs) = ap suc (length-map vs)

-- all texts are names where all values' texts are
pub list_all-map : (vs : List Value) → list_all is_name (map item_text vs) ≡ list_all (λ v. is_name (item_text v)) vs
list_all-map [] = refl
list_all-map (v ∷ vs) = ap (λ b. is_name (item_text v) && b) (list_all-map vs)

pub ruleset items = (length-map, list_all-map)
