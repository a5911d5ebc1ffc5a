-- A list in a JSON text has fewer items than the text has bytes.
use Rattle.std.proofs.Common.{◌≡◌, ℕ, suc, ◌+◌, ◌≤◌, Bool, true, false, cond, List, [], ◌∷◌, ◌++◌, length, Option, Some, None, option_map, option_and_then, Ordering, Less, Equal, Greater, refl, ap, subst, arith}
use Rattle.std.specs.Prelude.{⊤}
use Rattle.std.specs.Ordering.{match_ordering}
use Rattle.std.specs.Cmp.Lexicographic.{slice_cmp}
use Rattle.std.specs.Ordering.{nat_cmp}
use Rattle.std.proofs.lemmas.List.{length-append}
use Rattle.json.specs.Token.{Token}
use Rattle.json.specs.Lex.{Lexeme, token, comma, colon, Class, quote, backslash, operator, space, other, Mode, between, in_word, in_string, in_escape, class, lex, lex_byte, Place, fresh, after_value, after_comma, after_key, punctuate, place_token, if_allowed, begins_colon, may_begin, may_close, tokens}
use Rattle.json.specs.Json as json
use Rattle.json.specs.Tree.{json_tokens, items_tokens, members_tokens}
use Rattle.json.proofs.Unique.Spelling.{value-json_tokens_back}
use Rattle.serde_json.specs.Data.{Data, null, boolean, number, string, array, object, Items, no_items, item, Members, no_members, member, put}
use Rattle.serde_json.specs.Find.{get, get_member, as_array}
use Rattle.serde_json.specs.Read.{number_of, of_json, of_items, of_members, max_depth, read}
use Rattle.ecr_model.specs.documents.Documents.{document}
use Rattle.ecr_model.specs.declared.registry.manifest.Descriptor.{Descriptor}
use Rattle.ecr_model.specs.documents.Manifests.{descriptors, entries_of, entries_name}
use Rattle.ecr_manifest.specs.Counts.{size, items_size, members_size}

-- ---- from bytes to tokens

lex_byte-length : (m : Mode) (c : Class) (x : ℕ) (xs : List ℕ) (k : Mode → List Lexeme) (n : ℕ)
    → ((m : Mode) → length (k m) ≤ n) → length (lex_byte m c x xs k) ≤ suc n
lex_byte-length between quote x xs k n h = omega (arith, h in_string)
lex_byte-length between backslash x xs k n h = omega (arith, h in_word)
lex_byte-length between operator x xs k n h = omega (arith, h between)
lex_byte-length between space x xs k n h = omega (arith, h between)
lex_byte-length between other x xs k n h = omega (arith, h in_word)
lex_byte-length in_word quote x xs k n h = omega (arith, h in_word)
lex_byte-length in_word backslash x xs k n h = omega (arith, h in_word)
lex_byte-length in_word operator x xs k n h = omega (arith, h between)
lex_byte-length in_word space x xs k n h = omega (arith, h between)
lex_byte-length in_word other x xs k n h = omega (arith, h in_word)
lex_byte-length in_string quote x xs k n h = omega (arith, h between)
lex_byte-length in_string backslash x xs k n h = omega (arith, h in_escape)
lex_byte-length in_string operator x xs k n h = omega (arith, h in_string)
lex_byte-length in_string space x xs k n h = omega (arith, h in_string)
lex_byte-length in_string other x xs k n h = omega (arith, h in_string)
lex_byte-length in_escape c x xs k n h = omega (arith, h in_string)

lex-length : (m : Mode) (text : List ℕ) → length (lex m text) ≤ length text
unfolding lex
lex-length m [] = omega arith
lex-length m (x ∷ xs) = lex_byte-length m (class x) x xs (λ next. lex next xs) (length xs) (λ next. lex-length next xs)

if_allowed-length : (b : Bool) (t : Token) (k : Place → List Token) (p : Place) (n : ℕ)
    → ((p : Place) → length (k p) ≤ suc n) → length (if_allowed b t k p) ≤ suc (suc n)
if_allowed-length true t k p n h = omega (arith, h p)
if_allowed-length false t k p n h = omega arith

place_token-length : (p : Place) (t : Token) (before_colon : Bool) (k : Place → List Token) (n : ℕ)
    → ((p : Place) → length (k p) ≤ suc n) → length (place_token p t before_colon k) ≤ suc (suc n)
place_token-length p Token.begin_object b k n h = if_allowed-length (may_begin p) Token.begin_object k fresh n h
place_token-length p Token.end_object b k n h = if_allowed-length (may_close p) Token.end_object k after_value n h
place_token-length p Token.begin_array b k n h = if_allowed-length (may_begin p) Token.begin_array k fresh n h
place_token-length p Token.end_array b k n h = if_allowed-length (may_close p) Token.end_array k after_value n h
place_token-length p (Token.key s) b k n h = omega arith
place_token-length p (Token.string s) true k n h = if_allowed-length (may_begin p) (Token.key s) k after_key n h
place_token-length p (Token.string s) false k n h = if_allowed-length (may_begin p) (Token.string s) k after_value n h
place_token-length p (Token.number s) b k n h = if_allowed-length (may_begin p) (Token.number s) k after_value n h
place_token-length p (Token.boolean c) b k n h = if_allowed-length (may_begin p) (Token.boolean c) k after_value n h
place_token-length p Token.null b k n h = if_allowed-length (may_begin p) Token.null k after_value n h
place_token-length p Token.bad b k n h = omega arith

punctuate-length : (p : Place) (ls : List Lexeme) → length (punctuate p ls) ≤ suc (length ls)
unfolding punctuate
punctuate-length fresh [] = omega arith
punctuate-length after_value [] = omega arith
punctuate-length after_comma [] = omega arith
punctuate-length after_key [] = omega arith
punctuate-length fresh (token t ∷ ls) =
    place_token-length fresh t (begins_colon ls) (λ next. punctuate next ls) (length ls)
    (λ next. punctuate-length next ls)
punctuate-length after_value (token t ∷ ls) =
    place_token-length after_value t (begins_colon ls) (λ next. punctuate next ls) (length ls)
    (λ next. punctuate-length next ls)
punctuate-length after_comma (token t ∷ ls) =
    place_token-length after_comma t (begins_colon ls) (λ next. punctuate next ls) (length ls)
    (λ next. punctuate-length next ls)
punctuate-length after_key (token t ∷ ls) =
    place_token-length after_key t (begins_colon ls) (λ next. punctuate next ls) (length ls)
    (λ next. punctuate-length next ls)
punctuate-length fresh (comma ∷ ls) = omega arith
punctuate-length after_value (comma ∷ ls) = omega (arith, punctuate-length after_comma ls)
punctuate-length after_comma (comma ∷ ls) = omega arith
punctuate-length after_key (comma ∷ ls) = omega arith
punctuate-length fresh (colon ∷ ls) = omega arith
punctuate-length after_value (colon ∷ ls) = omega arith
punctuate-length after_comma (colon ∷ ls) = omega arith
punctuate-length after_key (colon ∷ ls) = omega (arith, punctuate-length fresh ls)

tokens-length : (text : List ℕ) → length (tokens text) ≤ suc (length text)
tokens-length text = omega (arith, punctuate-length fresh (lex between text), lex-length between text)

-- ---- from tokens to a value

-- a value that was made holds at most so much
abbrev AtMost : {A : Type 0} → (A → ℕ) → ℕ → Option A → Type 0
AtMost f n None = ⊤
AtMost f n (Some a) = f a ≤ n

AtMost-map : {A B : Type 0} (f : A → ℕ) (g : B → ℕ) (m n : ℕ) (h : A → B) → ((a : A) → f a ≤ m → g (h a) ≤ n)
    → (o : Option A) → AtMost f m o → AtMost g n (option_map h o)
AtMost-map f g m n h k None x = tt
AtMost-map f g m n h k (Some a) x = k a x

AtMost-and_then : {A B : Type 0} (f : A → ℕ) (g : B → ℕ) (m n : ℕ) (h : A → Option B)
    → ((a : A) → f a ≤ m → AtMost g n (h a)) → (o : Option A) → AtMost f m o → AtMost g n (option_and_then h o)
AtMost-and_then f g m n h k None x = tt
AtMost-and_then f g m n h k (Some a) x = k a x

AtMost-more : {A : Type 0} (f : A → ℕ) (m n : ℕ) (o : Option A) → m ≤ n → AtMost f m o → AtMost f n o
AtMost-more f m n None h x = tt
AtMost-more f m n (Some a) h x = omega (arith, h, x)

AtMost-cond : {A : Type 0} (f : A → ℕ) (n : ℕ) (b : Bool) (o : Option A) → AtMost f n o → AtMost f n (cond b o None)
AtMost-cond f n true o x = x
AtMost-cond f n false o x = tt

flat : {A : Type 0} (o : Option A) → AtMost (λ _. 0) 0 o
flat None = tt
flat (Some a) = omega arith

match_ordering-size : (o : Ordering) (a b c : Members) (n : ℕ) → members_size a ≤ n → members_size b ≤ n
    → members_size c ≤ n → members_size (match_ordering o a b c) ≤ n
match_ordering-size Less a b c n p q r = p
match_ordering-size Equal a b c n p q r = q
match_ordering-size Greater a b c n p q r = r

put-size : (k : List ℕ) (d : Data) (ms : Members) → members_size (put k d ms) ≤ size d + members_size ms
put-size k d no_members = omega arith
put-size k d (member l e ms) =
    match_ordering-size (slice_cmp nat_cmp k l) (member k d (member l e ms)) (member l d ms) (member l e (put k d ms))
    (size d + members_size (member l e ms))
    (omega arith) (omega arith) (omega (arith, put-size k d ms))

mutual
  of_json-size : (j : json.Json) → AtMost size (length (json_tokens j)) (of_json j)
  of_json-size json.null = omega arith
  of_json-size (json.boolean b) = omega arith
  of_json-size (json.number s) =
      AtMost-map (λ _. 0) size 0 1 number (λ a x. omega arith) (number_of s) (flat (number_of s))
  of_json-size (json.string s) = omega arith
  of_json-size (json.array js) =
      AtMost-map items_size size (length (items_tokens js)) (suc (length (items_tokens js))) array
      (λ a x. omega (arith, x)) (of_items js) (of_items-size js)
  of_json-size (json.object ms) =
      AtMost-map members_size size (length (members_tokens ms) + members_size no_members)
      (suc (length (members_tokens ms))) object (λ a x. omega (arith, x)) (of_members ms no_members)
      (of_members-size ms no_members)

  of_items-size : (js : json.Items) → AtMost items_size (length (items_tokens js)) (of_items js)
  of_items-size json.no_items = omega arith
  of_items-size (json.item j js) =
      let n = length (json_tokens j ++ items_tokens js) in
      AtMost-and_then size items_size (length (json_tokens j)) n _
      (λ d x. AtMost-map items_size items_size (length (items_tokens js)) n (item d)
      (λ ds y. omega (arith, x, y, length-append (json_tokens j) (items_tokens js))) (of_items js)
      (of_items-size js))
      (of_json j) (of_json-size j)

  of_members-size : (ms : json.Members) (found : Members)
      → AtMost members_size (length (members_tokens ms) + members_size found) (of_members ms found)
  of_members-size json.no_members found = omega arith
  of_members-size (json.member name j ms) found =
      let n = length (members_tokens (json.member name j ms)) + members_size found in
      AtMost-and_then size members_size (length (json_tokens j)) n _
      (λ d x. AtMost-more members_size (length (members_tokens ms) + members_size (put name d found)) n
      (of_members ms (put name d found))
      (omega (arith, x, put-size name d found, length-append (json_tokens j) (members_tokens ms)))
      (of_members-size ms (put name d found)))
      (of_json j) (of_json-size j)

-- the whole text
read_with : (ts : List Token) (o : Option (json.Json × List Token))
    → ((j : json.Json) (r : List Token) → o ≡ Some (j, r) → ts ≡ json_tokens j ++ r)
    → AtMost (λ j. length (json_tokens j)) (length ts) (option_and_then (λ p. json.if_last p.0 p.1) o)
read_with ts None h = tt
read_with ts (Some (j, [])) h = omega (arith, ap length (h j [] refl), length-append (json_tokens j) [])
read_with ts (Some (j, t ∷ r)) h = tt

-- the size of what a text holds is at most one above the text's length
pub read-size : (text : List ℕ) → AtMost size (suc (length text)) (read text)
read-size text =
    AtMost-and_then (λ j. length (json_tokens j)) size (length (tokens text)) (suc (length text)) of_json
    (λ j x. AtMost-more size (length (json_tokens j)) (suc (length text)) (of_json j)
    (omega (arith, x, tokens-length text)) (of_json-size j))
    (option_and_then (λ p. json.if_last p.0 p.1) (json.value max_depth (tokens text)))
    (read_with (tokens text) (json.value max_depth (tokens text))
    (λ j r. value-json_tokens_back max_depth (tokens text) r j))

-- what a body holds
pub document-size : (body : List ℕ) (d : Data) → document body ≡ Some d → size d ≤ suc (length body)
unfolding document
document-size body d e = subst (AtMost size (suc (length body))) e
    (AtMost-cond size (suc (length body)) _ (read body) (read-size body))

-- ---- a list in a value

size-some : (d : Data) → 1 ≤ size d
size-some null = omega arith
size-some (boolean b) = omega arith
size-some (number n) = omega arith
size-some (string s) = omega arith
size-some (array ds) = omega arith
size-some (object ms) = omega arith

descriptors-length : (ds : Items) → length (descriptors ds) ≤ items_size ds
descriptors-length no_items = omega arith
descriptors-length (item d ds) = omega (arith, descriptors-length ds, size-some d)

as_array-size : (d : Data) → AtMost (λ ds. suc (items_size ds)) (size d) (as_array d)
as_array-size null = tt
as_array-size (boolean b) = tt
as_array-size (number n) = tt
as_array-size (string s) = tt
as_array-size (array ds) = omega arith
as_array-size (object ms) = tt

match_ordering-AtMost : (o : Ordering) (a b c : Option Data) (n : ℕ) → AtMost size n a → AtMost size n b
    → AtMost size n c → AtMost size n (match_ordering o a b c)
match_ordering-AtMost Less a b c n p q r = p
match_ordering-AtMost Equal a b c n p q r = q
match_ordering-AtMost Greater a b c n p q r = r

get_member-size : (k : List ℕ) (ms : Members) → AtMost size (members_size ms) (get_member k ms)
get_member-size k no_members = tt
get_member-size k (member l e ms) =
    let later = AtMost-more size (members_size ms) (members_size (member l e ms)) (get_member k ms) (omega arith)
    (get_member-size k ms) in
    match_ordering-AtMost (slice_cmp nat_cmp k l) (get_member k ms) (Some e) (get_member k ms)
    (members_size (member l e ms)) later (omega arith) later

-- one more around it
AtMost-same : (n : ℕ) (o : Option Data) → AtMost size n o → AtMost (λ e. suc (size e)) (suc n) o
AtMost-same n None x = tt
AtMost-same n (Some e) x = omega (arith, x)

array_in : (v : Data) (n : ℕ) (o : Option Items) → suc (size v) ≤ n → AtMost (λ ds. suc (items_size ds)) (size v) o
    → AtMost (λ ds. items_size ds + 2) n o
array_in v n None h x = tt
array_in v n (Some ds) h x = omega (arith, h, x)

get-size : (k : List ℕ) (d : Data) → AtMost (λ e. suc (size e)) (size d) (get k d)
get-size k null = tt
get-size k (boolean b) = tt
get-size k (number n) = tt
get-size k (string s) = tt
get-size k (array ds) = tt
get-size k (object ms) = AtMost-same (members_size ms) (get_member k ms) (get_member-size k ms)

-- the entries of a manifest
pub entries_of-length : (list : Bool) (d : Data) (es : List (Option Descriptor)) → entries_of list d ≡ Some es
    → length es + 2 ≤ size d
entries_of-length list d es e =
    subst (AtMost (λ (l : List (Option Descriptor)). length l + 2) (size d)) e
    (AtMost-map (λ ds. items_size ds + 2) (λ (l : List (Option Descriptor)). length l + 2) (size d)
    (size d) descriptors (λ ds x. omega (arith, x, descriptors-length ds))
    (option_and_then as_array (get (entries_name list) d))
    (AtMost-and_then (λ v. suc (size v)) (λ ds. items_size ds + 2) (size d) (size d) as_array
    (λ v x. array_in v (size d) (as_array v) x (as_array-size v)) (get (entries_name list) d)
    (get-size (entries_name list) d)))
