-- JSON objects by their members (RFC 8259, section 4).
use Rattle.std.specs.Prelude.{◌≡◌, ℕ, List, true, is_some, unwrap_or}
use Rattle.serde_json.specs.Data.{Data, number, unsigned, object, Members, no_members, put}
use Rattle.serde_json.specs.Find.{as_object}

-- the value is an object
abbrev pub IsObject : Data → Type 0
IsObject value = is_some (as_object value) ≡ true

-- the members of the object that the value is, in byte order of their names
abbrev pub object_members : Data → Members
object_members value = unwrap_or (as_object value) no_members

-- the object with that member, in place of one of its name
abbrev pub with_member : List ℕ → Data → Data → Data
with_member name member value = object (put name member (object_members value))

-- a whole number that isn't negative, as JSON
abbrev pub unsigned_value : ℕ → Data
unsigned_value n = number (unsigned n)
