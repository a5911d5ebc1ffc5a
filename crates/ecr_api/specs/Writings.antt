-- What is written of replies (RFC 8259).
use Rattle.std.specs.Prelude.{List, [], ◌∷◌}
use Rattle.json.specs.Token.{Token}
use Rattle.json.specs.Tree.{json_tokens, items_tokens, members_tokens}
use Rattle.serde_json.specs.Data.{Data, string, Items, Members, member, no_members}
use Rattle.serde_json.specs.Written.{outline, items_outline, members_outline}
use Rattle.ecr_api.specs.declared.bodies.Written.{Written}

-- the tokens of a value
abbrev pub data_tokens : Data → List Token
data_tokens value = json_tokens (outline value)

-- those of the rest of an array, with its end
abbrev pub rest_tokens : Items → List Token
rest_tokens items = items_tokens (items_outline items)

-- those of the rest of an object, with its end
abbrev pub member_tokens : Members → List Token
member_tokens members = members_tokens (members_outline members)

-- the members that are written, in their order
abbrev pub written_data : List Written → Members
written_data [] = no_members
written_data (w ∷ ws) = member w.name.now (string w.text.now) (written_data ws)
