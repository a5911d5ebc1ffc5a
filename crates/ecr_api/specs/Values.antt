-- The values of a body's members, as they are kept: texts stay in the tree that was read.
use Rattle.std.specs.Prelude.{ℕ, List, [], map, Option, Some, unwrap_or}
use Rattle.std.specs.Option.{option_map_or}
use Rattle.serde_json.specs.Data.{Data}
use Rattle.serde_json.specs.Find.{as_str}
use Rattle.serde_json.specs.View.{view}
use Rattle.serde_json.specs.declared.value.Value.{Value}
use Rattle.ecr_model.specs.requests.Members as members
use Rattle.ecr_model.specs.requests.Members.{member_at}
use Rattle.ecr_model.specs.requests.Actions as actions
use Rattle.ecr_api.specs.declared.calls.Made.{Made}
use Rattle.ecr_api.specs.declared.calls.Made.TheVariants.{One, Several}
use Rattle.ecr_api.specs.declared.values.Typed.{Typed}
use Rattle.ecr_api.specs.declared.values.Typed.TheVariants.{Absent, Text, Whole, Truth, Texts}
use Rattle.ecr_api.specs.declared.values.Valued.{Valued}

-- the text of an item; of an item that is none, the empty one
abbrev pub item_text : Value → List ℕ
item_text item = unwrap_or (as_str (view item)) []

-- the value that is kept
abbrev pub typed_of : Typed → members.Typed
typed_of Absent = members.absent
typed_of (Text t) = members.text t.now
typed_of (Whole n) = members.whole n
typed_of (Truth b) = members.truth b
typed_of (Texts items) = members.texts (map item_text items.now)

-- the member with its value
abbrev pub valued_of : Valued → members.Valued
valued_of v = record { name = v.name.now; member = v.member; value = typed_of v.value }

-- the members of a body with their values
abbrev pub valued_members : List Valued → List members.Valued
valued_members values = map valued_of values

-- the value of the member of that name, where it is read so
abbrev pub member_as : (Data → Option members.Typed) → List ℕ → Data → Option members.Typed
member_as reads name body = option_map_or reads (member_at name body) (Some members.absent)

-- the call that the values make, as it is defined
abbrev pub made_of : Made → actions.Made
made_of (One call) = actions.one call
made_of Several = actions.several
