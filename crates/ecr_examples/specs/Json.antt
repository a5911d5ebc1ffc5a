-- JSON values and what is kept of them, tags that prefixes and patterns match, and sets of prefixes, at examples (RFC
-- 8259, sections 4 and 6; RFC 4648, section 10; Amazon ECR User Guide, lifecycle policies, `tagPrefixList` and
-- `tagPatternList`).
use Rattle.std.specs.Prelude.{◌≡◌, ℕ, pos, negsuc, true, false, List, [], ◌∷◌, map, None, Some, codes}
use Rattle.serde_json.specs.Data.{Data, null, boolean, number, unsigned, negative, string, array, object, Items, no_items, item, member, no_members}
use Rattle.serde_json.specs.Find.{as_str}
use Rattle.ecr_json.specs.Blobs.{blob_of}
use Rattle.ecr_json.specs.Fields as fields
use Rattle.ecr_json.specs.Fields.{there, of_type, field, field_map, as_itself}
use Rattle.ecr_json.specs.Objects.{IsObject, object_members, with_member, unsigned_value}
use Rattle.ecr_json.specs.Thin as thinly
use Rattle.ecr_json.specs.Thin.{first_items, max_texts, thin, is_named}
use Rattle.ecr_json.specs.declared.field.Field.TheVariants.{Absent, Wrong, Here}
use Rattle.ecr_model.specs.declared.registry.lifecycle.Choose.TheVariants.{Untagged, Any, Prefixes}
use Rattle.ecr_policy.specs.Marks.{byte_mark, text_mark, mark_of}
use Rattle.ecr_policy.specs.Sets.{prefixes_of, is_among}
use Rattle.ecr_tagmatch.specs.Matches.{starts, wild, starts_some, all_start, matches_some, all_wild}

-- `{"b": "x", "c": null, "d": 7}`
abbrev body : Data
body = object (member (codes "b") (string (codes "x")) (member (codes "c") null
    (member (codes "d") (number (unsigned 7)) no_members)))

-- the members of objects; null counts as absent
pub record MembersAreFound : Type 0 where
  pub no_null : fields.unless_null null ≡ None
  pub value : fields.unless_null (boolean false) ≡ Some (boolean false)
  pub is_there : there (codes "b") body ≡ Some (string (codes "x"))
  pub null_there : there (codes "c") body ≡ None
  pub none_there : there (codes "a") body ≡ None
  pub right : of_type {A = ℕ} (Some 3) ≡ Here 3
  pub wrong : of_type {A = ℕ} None ≡ Wrong
  pub here : field as_str (codes "b") body ≡ Here (codes "x")
  pub absent : field as_str (codes "c") body ≡ Absent
  pub of_other : field as_str (codes "d") body ≡ Wrong
  pub mapped : field_map (λ (n : ℕ). n ∷ []) (Here 3) ≡ Here (3 ∷ [])
  pub mapped_absent : field_map (λ (n : ℕ). n ∷ []) Absent ≡ Absent
  pub mapped_wrong : field_map (λ (n : ℕ). n ∷ []) Wrong ≡ Wrong
  pub whole : fields.as_whole (number (unsigned 7)) ≡ Some (pos 7)
  pub below : fields.as_whole (number (negative (negsuc 6))) ≡ Some (negsuc 6)
  pub no_whole : fields.as_whole (string (codes "7")) ≡ None
  pub itself : as_itself body ≡ Some body
  pub no_object : as_itself (array no_items) ≡ None
  pub object_is : IsObject body
  pub members : object_members body ≡ member (codes "b") (string (codes "x")) (member (codes "c") null
      (member (codes "d") (number (unsigned 7)) no_members))
  pub no_members_of : object_members null ≡ no_members
  pub more : with_member (codes "a") null (object (member (codes "b") null no_members))
      ≡ object (member (codes "a") null (member (codes "b") null no_members))
  pub in_place : with_member (codes "b") (boolean true) (object (member (codes "b") null no_members))
      ≡ object (member (codes "b") (boolean true) no_members)
  pub unsigned_is : unsigned_value 7 ≡ number (unsigned 7)
  -- the standard's own vectors, and a text without its padding
  pub blobs : map blob_of ([] ∷ codes "Zg==" ∷ codes "Zm8=" ∷ codes "Zm9v" ∷ codes "Zm9vYmFy" ∷ codes "Zg" ∷ [])
      ≡ Some [] ∷ Some (codes "f") ∷ Some (codes "fo") ∷ Some (codes "foo") ∷ Some (codes "foobar") ∷ None ∷ []

abbrev two : Items
two = item (string (codes "x")) (item (string (codes "y")) no_items)

-- what is kept of a value
pub record ValuesAreKept : Type 0 where
  pub texts : thinly.are_texts two ≡ true
  pub no_texts : thinly.are_texts (item null no_items) ≡ false
  pub first : first_items 1 two ≡ item (string (codes "x")) no_items
  pub first_all : first_items 3 two ≡ two
  pub most : max_texts ≡ 101
  pub plain : map thin (null ∷ boolean true ∷ number (unsigned 7) ∷ string (codes "x") ∷ [])
      ≡ null ∷ boolean true ∷ number (unsigned 7) ∷ string (codes "x") ∷ []
  pub list : thin (array two) ≡ array two
  pub mixed : thin (array (item null no_items)) ≡ object no_members
  pub nested : thin body ≡ object no_members
  pub named : is_named (codes "b") (codes "a" ∷ codes "b" ∷ []) ≡ true
  pub unnamed : is_named (codes "b") (codes "bb" ∷ []) ≡ false

abbrev tags : List (List ℕ)
tags = codes "v1" ∷ codes "dev" ∷ []

-- a prefix begins a tag, and a `*` of a pattern is any run of bytes; each has to match some tag
pub record TagsAreMatched : Type 0 where
  pub prefix : starts (codes "v") (codes "v1") ≡ true
  pub whole : starts (codes "v1") (codes "v1") ≡ true
  pub longer : starts (codes "v1.") (codes "v1") ≡ false
  pub empty : starts [] (codes "v1") ≡ true
  pub other : starts (codes "V") (codes "v1") ≡ false
  pub same : wild (codes "v1") (codes "v1") ≡ true
  pub front : wild (codes "v") (codes "v1") ≡ false
  pub star : wild (codes "*") [] ≡ true
  pub ends : wild (codes "*-rc") (codes "1-rc-rc") ≡ true
  pub between : wild (codes "v*1*") (codes "v21") ≡ true
  pub none : wild (codes "v*1") (codes "v12") ≡ false
  pub nothing : wild [] [] ≡ true
  pub nothing_more : wild [] (codes "v") ≡ false
  pub literal : wild (codes "v?") (codes "v1") ≡ false
  pub starts_one : starts_some (codes "d") tags ≡ true
  pub starts_none : starts_some (codes "1") tags ≡ false
  pub start_all : all_start (codes "v" ∷ codes "d" ∷ []) tags ≡ true
  pub start_not_all : all_start (codes "v" ∷ codes "x" ∷ []) tags ≡ false
  pub matches_one : matches_some (codes "*v") tags ≡ true
  pub matches_none : matches_some (codes "e*") tags ≡ false
  pub wild_all : all_wild (codes "*1" ∷ codes "*e*" ∷ []) tags ≡ true
  pub wild_not_all : all_wild (codes "*1" ∷ codes "x*" ∷ []) tags ≡ false

-- the prefixes of a rule, and their mark, which is FNV-1a of 64 bits: the published values of no byte and of `a`
pub record PrefixesAreMarked : Type 0 where
  pub none : mark_of [] ≡ 14695981039346656037
  pub letter : byte_mark 14695981039346656037 97 ≡ 12638187200555641996
  pub text : text_mark 14695981039346656037 (codes "a") ≡ byte_mark 12638187200555641996 255
  pub texts : mark_of (codes "a" ∷ []) ≡ byte_mark 12638187200555641996 255
  pub listed : prefixes_of (Prefixes tags) ≡ tags
  pub untagged : prefixes_of Untagged ≡ []
  pub any : prefixes_of Any ≡ []
  pub among : is_among tags (codes "dev") ≡ true
  pub not_among : is_among tags (codes "de") ≡ false
