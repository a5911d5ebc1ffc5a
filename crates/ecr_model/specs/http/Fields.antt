-- The field lines of a head (RFC 9112, section 5; RFC 9110, section 5.1).
use Rattle.std.specs.Prelude.{ℕ, Bool, false, not, ◌&&◌, ◌||◌, ◌==◌, List, [], ◌∷◌, Option, option_map, map, count_by, find, bytes_eq, take, drop, codes}
use Rattle.std.specs.List.{list_all, before_first}
use Rattle.std.specs.Option.{option_map_or}
use Rattle.std.specs.Str.{str_eq_ignore_ascii_case}
use Rattle.httparse.specs.Grammar.{RequestHead, field_value, is_ows, skip_ows}
use Rattle.httparse.specs.Grammar as grammar
use Rattle.ecr_model.specs.http.FieldLines.{Field}
use Rattle.ecr_model.specs.declared.http.Head.{Head}

-- a field line: its name as it came, and its value without the white space around it
abbrev pub field_of : grammar.Field → Field
field_of line = record { name = line.name; value = field_value line }

-- the part of a head that is kept
abbrev pub head_of : RequestHead → Head
head_of head =
    record { method = head.method; target = head.target; minor = head.minor; fields = map field_of head.fields }

-- names are compared without letter case
abbrev pub has_name : List ℕ → Field → Bool
has_name name field = str_eq_ignore_ascii_case field.name name

-- how many fields have that name
abbrev pub count_of : List ℕ → List Field → ℕ
count_of name fields = count_by (has_name name) fields

-- the value of the first field of that name
abbrev pub first_value : List ℕ → List Field → Option (List ℕ)
first_value name fields = option_map (λ f. f.value) (find (has_name name) fields)

-- each field of that name has that value
abbrev pub each_is : List ℕ → List ℕ → List Field → Bool
each_is name value fields = list_all (λ f. not (has_name name f) || bytes_eq f.value value) fields

-- the first field of that name has that value, letter case aside
abbrev pub first_says : List ℕ → List ℕ → List Field → Bool
first_says name text fields =
    option_map_or (λ value. str_eq_ignore_ascii_case value text) (first_value name fields) false

-- a comma, which stands between the words of a list (RFC 9110, section 5.6.1)
abbrev pub is_comma : ℕ → Bool
is_comma b = b == 44

-- the word that begins here is `close`, letter case and the white space around it aside
unfoldable pub begins_close : List ℕ → Bool
begins_close text = let word = skip_ows (before_first is_comma text) in
    str_eq_ignore_ascii_case (take 5 word) (codes "close") && list_all is_ows (drop 5 word)

-- a word behind a comma is
abbrev pub has_later_close : List ℕ → Bool
has_later_close [] = false
has_later_close (b ∷ text) = (is_comma b && begins_close text) || has_later_close text

-- a word of the list is
unfoldable pub has_close : List ℕ → Bool
has_close text = begins_close text || has_later_close text
