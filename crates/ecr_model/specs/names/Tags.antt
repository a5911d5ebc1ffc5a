-- Tags (OCI Distribution 1.1, "Pulling manifests", `<reference>` as a tag). Lengths are in bytes.
use Rattle.std.specs.Prelude.{ℕ, Bool, false, ◌&&◌, ◌||◌, ◌==◌, nat_le, List, [], ◌∷◌, length, Option, None, Some, if◌then◌else◌}
use Rattle.std.specs.List.{list_all}
use Rattle.ecr_model.specs.declared.names.Tag.{Tag}

-- `[a-zA-Z0-9_]`
abbrev pub begins_tag : ℕ → Bool
begins_tag c = (nat_le 97 c && nat_le c 122) || (nat_le 65 c && nat_le c 90) || (nat_le 48 c && nat_le c 57) || c == 95

-- `[a-zA-Z0-9._-]`
abbrev pub is_tag_byte : ℕ → Bool
is_tag_byte c = begins_tag c || c == 46 || c == 45

-- whether the text is a tag: `[a-zA-Z0-9_][a-zA-Z0-9._-]{0,127}`
unfoldable pub is_tag : List ℕ → Bool
is_tag [] = false
is_tag (c ∷ rest) = begins_tag c && nat_le (length rest) 127 && list_all is_tag_byte rest

-- the tag that the text is, or none
unfoldable pub tag_of : List ℕ → Option Tag
tag_of text = if is_tag text then Some (record { text = text }) else None
