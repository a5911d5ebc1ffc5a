-- The members of JSON objects (RFC 8259, section 4). A text is the list of its bytes.
use Rattle.std.specs.Prelude.{ℕ, ◌^◌, ℤ, pos, neg_ℤ, ◌≤ℤ◌, ◌<ℤ◌, List, Option, Some, None, is_some, if◌then◌else◌, option_map, option_and_then}
use Rattle.std.specs.Option.{option_map_or}
use Rattle.serde_json.specs.Data.{Data, object}
use Rattle.serde_json.specs.Find.{get, as_null, as_object, as_number, as_integer}
use Rattle.ecr_json.specs.declared.field.Field.{Field}
use Rattle.ecr_json.specs.declared.field.Field.TheVariants.{Absent, Wrong, Here}

-- the value, unless it is null
abbrev pub unless_null : Data → Option Data
unless_null value = if is_some (as_null value) then None else Some value

-- the member of that name, where it is there; null counts as absent (of this registry)
abbrev pub there : List ℕ → Data → Option Data
there name value = option_and_then unless_null (get name value)

-- the reading of a member that is there: `Wrong` where it has another type
abbrev pub of_type : {A : Type 0} → Option A → Field A
of_type None = Wrong
of_type (Some a) = Here a

-- the member of that name, read as a type
abbrev pub field : {A : Type 0} → (Data → Option A) → List ℕ → Data → Field A
field reads name value = option_map_or (λ d. of_type (reads d)) (there name value) Absent

-- the field, with its value under f
abbrev pub field_map : {A B : Type 0} → (A → B) → Field A → Field B
field_map f Absent = Absent
field_map f Wrong = Wrong
field_map f (Here a) = Here (f a)

-- the whole number that the value is; one that is written with a fraction or an exponent isn't whole (RFC 8259, section
-- 6)
abbrev pub as_whole : Data → Option ℤ
as_whole value = option_and_then as_integer (as_number value)

-- the number is one from -2^63 to 2^64 - 1
abbrev pub Is64Bits : ℤ → Type 0
Is64Bits n = (neg_ℤ (pos (2 ^ 63)) ≤ℤ n) × (n <ℤ pos (2 ^ 64))

-- the value, where it is an object
abbrev pub as_itself : Data → Option Data
as_itself value = option_map object (as_object value)
