-- The members of an object as they are read thinly.
use Rattle.std.proofs.Common.{◌≡◌, ℕ, ◌-◌, ◌<◌, List, [], ◌∷◌, length, true, false, Option, Some, None, is_some, if◌then◌else◌, option_map, refl, sym, ap, ◌∙◌, subst, arith, true≢false, bytes_eq}
use Rattle.std.specs.Prelude.{Bool as Truth}
use Rattle.std.specs.Bool.{MatchBool}
use Rattle.std.proofs.lemmas.Slice.Eq.{bytes_eq-Decides}
use Rattle.json.specs.Token.{Token}
use Rattle.json.specs.Json as json
use Rattle.json.specs.Json.{parse_map, if_last, read_key, members, value}
use Rattle.json.proofs.Grammar.{value-begin_object, read_key-shorter, left_some, left_none}
use Rattle.serde_json.specs.Data as json_data
use Rattle.serde_json.specs.Data.{Data, null, object, Members, no_members, put}
use Rattle.serde_json.specs.Find.{get, get_member, as_object}
use Rattle.serde_json.specs.Read.{of_json, converted}
use Rattle.serde_json.proofs.Views.{get_member-put, get_member-put_other}
use Rattle.ecr_json.specs.Passing.{behind, passed}
use Rattle.ecr_json.specs.Thin.{is_named, thin, IsThin, IsThinOf}
use Rattle.ecr_json.specs.Thinning.{read_members, only_last, HasThin, Keeps, KeepsOf, ReadsMembers}
use Rattle.ecr_json.proofs.ReadingLemmas.{converted-object, members-more, members-refused, members-no_key, members-over, whole, whole-Some, whole-more, whole-None}
use Rattle.ecr_json.proofs.PassingLemmas.{passed-shorter}
use Rattle.ecr_json.proofs.ThinningLemmas.{opens, value-first, value-empty}

-- ---- one member

put_same : (q name : List ℕ) (kept all : Members) (d : Data) → q ≡ name
    → get_member q (put name (thin d) kept) ≡ option_map thin (get_member q (put name d all))
put_same q name kept all d is = rw (is, get_member-put name (thin d) kept, get_member-put name d all)

put_other : (q name : List ℕ) (kept all : Members) (d : Data) → (q ≡ name → ⊥)
    → get_member q kept ≡ option_map thin (get_member q all)
    → get_member q kept ≡ option_map thin (get_member q (put name d all))
put_other q name kept all d other same = same ∙ ap (option_map thin) (sym (get_member-put_other q name d all other))

put_at : (q name : List ℕ) (kept all : Members) (d : Data) (b : Truth) → bytes_eq q name ≡ b
    → get_member q kept ≡ option_map thin (get_member q all)
    → get_member q (put name (thin d) kept) ≡ option_map thin (get_member q (put name d all))
put_at q name kept all d true e same = put_same q name kept all d ((bytes_eq-Decides q name).0 e)
put_at q name kept all d false e same =
    let other = λ (is : q ≡ name). true≢false (sym ((bytes_eq-Decides q name).1 is) ∙ e) in
    get_member-put_other q name (thin d) kept other ∙ put_other q name kept all d other same

-- a named member is kept
pub HasThin-named : (names : List (List ℕ)) (name : List ℕ) (kept all : Members) (d : Data) → HasThin names kept all
    → HasThin names (put name (thin d) kept) (put name d all)
HasThin-named names name kept all d h =
    record { members = λ q is. put_at q name kept all d (bytes_eq q name) refl (h.members q is) }

-- an unnamed member is left out
pub HasThin-unnamed : (names : List (List ℕ)) (name : List ℕ) (kept all : Members) (d : Data)
    → is_named name names ≡ false → HasThin names kept all → HasThin names kept (put name d all)
HasThin-unnamed names name kept all d unnamed h = record {
  members = λ q is. put_other q name kept all d
      (λ same. true≢false (sym is ∙ ap (λ n. is_named n names) same ∙ unnamed)) (h.members q is);
}

-- the member's value isn't kept
pub Keeps-unnamed : (names : List (List ℕ)) (name : List ℕ) (read : Option (Data × List Token)) (kept : Members)
    (r : List Token) (right : Truth) → is_named name names ≡ false
    → MatchBool right (behind read ≡ Some r) (behind read ≡ None)
    → MatchBool right (Keeps names name read kept kept r) (read ≡ None)
Keeps-unnamed names name read kept r true unnamed e =
    let d = left_some read r e in (d.0, d.1, λ all h. HasThin-unnamed names name kept all d.0 unnamed h)
Keeps-unnamed names name read kept r false unnamed e = left_none read e

abbrev data_in : Option (Data × List Token) → Data
data_in None = null
data_in (Some p) = p.0

abbrev rest_in : Option (Data × List Token) → List Token
rest_in None = []
rest_in (Some p) = p.1

-- the member's value is kept thinly
pub Keeps-named : (names : List (List ℕ)) (name : List ℕ) (read : Option (Data × List Token)) (kept new : Members)
    (r : List Token) (v : Data) → parse_map thin read ≡ Some (v, r) → new ≡ put name v kept
    → Keeps names name read kept new r
Keeps-named names name None kept new r v e is = absurd (cc)
Keeps-named names name (Some p) kept new r v e is =
    let same : new ≡ put name (thin p.0) kept = is ∙ ap (λ x. put name (data_in x) kept) (sym e) in (
      p.0,
      ap (λ x. Some (p.0, rest_in x)) e,
      λ all h. subst (λ x. HasThin names x (put name p.0 all)) (sym same) (HasThin-named names name kept all p.0 h),
    )

-- what isn't read thinly isn't read
pub thinly-None : (read : Option (Data × List Token)) → parse_map thin read ≡ None → read ≡ None
thinly-None None e = refl
thinly-None (Some p) e = absurd (cc)

-- ---- the members of an object

-- nothing is read yet
pub ReadsMembers-none : (names : List (List ℕ)) (depth : ℕ) (first : List Token) (kept : Members) → kept ≡ no_members
    → ReadsMembers names depth first first kept
ReadsMembers-none names depth first kept is = record {
  turns = length first;
  found = no_members;
  enough = omega arith;
  same = refl;
  thinly = record { members = λ q named. ap (get_member q) is };
}

module _ (names : List (List ℕ)) (depth : ℕ) (first left : List Token) (kept : Members) where
  -- one member more is read
  pub ReadsMembers-more : (name : List ℕ) (s r : List Token) (new : Members)
      → ReadsMembers names depth first left kept → read_key left ≡ Some (Some name, s)
      → Keeps names name (converted of_json (value depth s)) kept new r → ReadsMembers names depth first r new
  ReadsMembers-more name s r new h key keeps =
      let less = passed-shorter depth s r (ap behind keeps.1) in
      let named = read_key-shorter left (Some name) s key in
      let some : 0 < h.turns = omega (arith, h.enough) in
      record {
        turns = h.turns - 1;
        found = put name keeps.0 h.found;
        enough = omega (arith, h.enough);
        same = h.same ∙ members-more (value depth) h.found h.turns name left s r keeps.0 some key keeps.1;
        thinly = keeps.2 h.found h.thinly;
      }

  -- there are fewer tokens behind a member
  pub ReadsMembers-smaller : (name : List ℕ) (s r : List Token) (new : Members) → read_key left ≡ Some (Some name, s)
      → Keeps names name (converted of_json (value depth s)) kept new r → length r < length left
  ReadsMembers-smaller name s r new key keeps =
      omega (arith, passed-shorter depth s r (ap behind keeps.1), read_key-shorter left (Some name) s key)

  -- a member has a wrong value
  pub ReadsMembers-refused : (name : List ℕ) (s rest : List Token) → ReadsMembers names depth first left kept
      → read_key left ≡ Some (Some name, s) → converted of_json (value depth s) ≡ None
      → KeepsOf (HasThin names) (read_members depth first) None rest
  ReadsMembers-refused name s rest h key e =
      subst (λ x. KeepsOf (HasThin names) x None rest)
      (sym (h.same ∙ members-refused (value depth) h.found h.turns name left s key e)) tt

  -- a member has no name
  pub ReadsMembers-no_key : (rest : List Token) → ReadsMembers names depth first left kept → read_key left ≡ None
      → KeepsOf (HasThin names) (read_members depth first) None rest
  ReadsMembers-no_key rest h key =
      subst (λ x. KeepsOf (HasThin names) x None rest)
      (sym (h.same ∙ members-no_key (value depth) h.found h.turns left key)) tt

  -- no member is left
  pub ReadsMembers-over : (r : List Token) → ReadsMembers names depth first left kept → read_key left ≡ Some (None, r)
      → KeepsOf (HasThin names) (read_members depth first) (Some kept) r
  ReadsMembers-over r h key =
      subst (λ x. KeepsOf (HasThin names) x (Some kept) r)
      (sym (h.same ∙ members-over (value depth) h.found h.turns left r h.enough key)) (h.thinly, refl)

-- ---- the value at the front

IsThin-object : (names : List (List ℕ)) (kept all : Members) → HasThin names kept all
    → IsThin names (object kept) (object all)
IsThin-object names kept all h = record { objects = refl; members = h.members }

by_members : (names : List (List ℕ)) (x : Option (Members × List Token)) (o : Option Members) (r : List Token)
    → KeepsOf (HasThin names) x o r → KeepsOf (IsThin names) (parse_map object x) (option_map object o) r
by_members names None None r h = tt
by_members names (Some p) (Some kept) r h = (IsThin-object names kept p.0 h.0, h.1)
by_members names None (Some kept) r h = h
by_members names (Some p) None r h = h

-- an object is kept by its members
pub KeepsOf-object : (names : List (List ℕ)) (ts : List Token) (o : Option Members) (r : List Token)
    → KeepsOf (HasThin names) (read_members 126 ts) o r
    → KeepsOf (IsThin names) (converted of_json (value 127 (Token.begin_object ∷ ts))) (option_map object o) r
KeepsOf-object names ts o r h =
    let opened = ap (converted of_json) (value-begin_object 127 ts (omega arith))
    ∙ converted-object (members (value 126) (length ts) ts) in
    subst (λ x. KeepsOf (IsThin names) x (option_map object o) r) (sym opened)
    (by_members names (read_members 126 ts) o r h)

no_member : (d : Data) (name : List ℕ) → is_some (as_object d) ≡ false → get name d ≡ None
no_member json_data.null name e = refl
no_member (json_data.boolean b) name e = refl
no_member (json_data.number n) name e = refl
no_member (json_data.string s) name e = refl
no_member (json_data.array ds) name e = refl
no_member (json_data.object ms) name e = absurd (true≢false e)

-- of a value that isn't an object null is kept
IsThin-other : (names : List (List ℕ)) (d : Data) → is_some (as_object d) ≡ false → IsThin names null d
IsThin-other names d e = record {
  objects = sym e;
  members = λ name named. ap (option_map thin) (sym (no_member d name e));
}

-- a value that isn't an object is passed over
pub KeepsOf-other : (names : List (List ℕ)) (t : Token) (s r : List Token) (right : Truth) (o : Option Data)
    → opens t ≡ false → MatchBool right (passed 127 (t ∷ s) ≡ Some r) (passed 127 (t ∷ s) ≡ None)
    → o ≡ (if right then Some null else None) → KeepsOf (IsThin names) (converted of_json (value 127 (t ∷ s))) o r
KeepsOf-other names t s r true o other e is =
    let d = left_some (converted of_json (value 127 (t ∷ s))) r e in
    let kind = value-first 127 s t d.0 r d.1 in
    rw (is, d.1) (IsThin-other names d.0 (kind.1 ∙ other), refl)
KeepsOf-other names t s r false o other e is = rw (is, left_none (converted of_json (value 127 (t ∷ s))) e) tt

-- nothing is in an empty text
pub KeepsOf-empty : (names : List (List ℕ)) (ts r : List Token) → ts ≡ []
    → KeepsOf (IsThin names) (converted of_json (value 127 ts)) None r
KeepsOf-empty names ts r is = rw (is, value-empty 127) tt

-- ---- the whole text

last_at : (names : List (List ℕ)) (v : Option (json.Json × List Token)) (kept : Data) (rest : List Token)
    (x : Option (Data × List Token)) → converted of_json v ≡ x
    → KeepsOf (IsThin names) x (Some kept) rest → IsThinOf names (only_last rest kept) (whole v)
last_at names v kept rest None e h = absurd h
last_at names v kept [] (Some (d, r)) e h = rw (whole-Some v d (e ∙ ap (λ s. Some (d, s)) h.1)) h.0
last_at names v kept (t ∷ ts) (Some (d, r)) e h = rw (whole-more v d t ts (e ∙ ap (λ s. Some (d, s)) h.1)) tt

-- the value is kept where nothing is behind it
pub IsThinOf-last : (names : List (List ℕ)) (v : Option (json.Json × List Token)) (kept : Data) (rest : List Token)
    → KeepsOf (IsThin names) (converted of_json v) (Some kept) rest
    → IsThinOf names (only_last rest kept) (whole v)
IsThinOf-last names v kept rest h = last_at names v kept rest (converted of_json v) refl h

none_at : (names : List (List ℕ)) (v : Option (json.Json × List Token)) (rest : List Token)
    (x : Option (Data × List Token)) → converted of_json v ≡ x → KeepsOf (IsThin names) x None rest
    → IsThinOf names None (whole v)
none_at names v rest None e h = rw (whole-None v e) tt
none_at names v rest (Some p) e h = absurd h

-- no value is at the front
pub IsThinOf-None : (names : List (List ℕ)) (v : Option (json.Json × List Token)) (rest : List Token)
    → KeepsOf (IsThin names) (converted of_json v) None rest → IsThinOf names None (whole v)
IsThinOf-None names v rest h = none_at names v rest (converted of_json v) refl h
