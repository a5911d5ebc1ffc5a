-- Values as they are read thinly, token by token.
use Rattle.std.proofs.Common.{◌≡◌, ℕ, zero, suc, ◌-◌, ◌<◌, ◌≤◌, List, [], ◌∷◌, ◌++◌, length, take, true, false, Bor, Option, Some, None, is_some, if◌then◌else◌, option_map, option_and_then, refl, sym, ap, ◌∙◌, arith, take_all}
use Rattle.std.proofs.lemmas.List.{take-append-le, length-take, length-append}
use Rattle.std.specs.Prelude.{Bool as Truth}
use Rattle.std.specs.Bool.{MatchBool}
use Rattle.json.specs.Token.{Token}
use Rattle.json.specs.Reads.{token_of}
use Rattle.json.specs.declared.token.Token.{Token as Read}
use Rattle.json.specs.declared.token.Token.TheVariants.{BeginObject, EndObject, BeginArray, EndArray, Key, String, Number, Bool, Null, Bad}
use Rattle.json.specs.Json as json
use Rattle.json.specs.Json.{Parse, parse_map, value_with, after_end_array, items_step, items, members, value}
use Rattle.json.proofs.Grammar.{value_is, value-begin_array, value-begin_object, skip_value-shorter, Takes}
use Rattle.serde_json.specs.Data.{Num, Data, null, boolean, number, string, array, object, Items, no_items, item, Members, no_members}
use Rattle.serde_json.specs.Find.{as_str, as_object}
use Rattle.serde_json.specs.Read.{of_json, of_items, of_members, converted, number_of}
use Rattle.serde_json.specs.View.{view, items_view}
use Rattle.serde_json.specs.declared.value.Value.{Value}
use Rattle.ecr_json.specs.Passing.{behind, passed_items, passed_members}
use Rattle.ecr_json.specs.Thin.{are_texts, first_items, max_texts, thin}
use Rattle.ecr_json.specs.Thinning.{thin_value, thin_list, emptied_list, texts_before, AreFirst, ReadsTexts}
use Rattle.ecr_json.proofs.ReadingLemmas.{converted-array, converted-object, items-more, items-refused, items-over}
use Rattle.ecr_json.proofs.PassingLemmas.{passed-shorter}

-- ---- turns

module _ (p : Parse json.Json) (takes : Takes p) where
  no_first : (n : ℕ) (o : Option (json.Json × List Token)) → p [] ≡ o
      → option_and_then (λ q. parse_map (json.item q.0) (items p n q.1)) o ≡ None
  no_first n None e = refl
  no_first n (Some q) e = let never : ⊥ = omega (arith, takes [] q.1 (ap behind e)) in absurd never

  no_items_in : (n : ℕ) → items p n [] ≡ None
  unfolding items
  no_items_in zero = refl
  no_items_in (suc n) = no_first n (p []) refl

  same_rest : (n m : ℕ) (ts : List Token)
      (again : (x : List Token) → length x < length ts → items p n x ≡ items p m x)
      (o : Option (json.Json × List Token)) → p ts ≡ o
      → option_and_then (λ q. parse_map (json.item q.0) (items p n q.1)) o ≡ option_and_then
      (λ q. parse_map (json.item q.0) (items p m q.1)) o
  same_rest n m ts again None e = refl
  same_rest n m ts again (Some q) e = ap (parse_map (json.item q.0)) (again q.1 (takes ts q.1 (ap behind e)))

  same_step : (n m : ℕ) (ts : List Token)
      (again : (x : List Token) → length x < length ts → items p n x ≡ items p m x) (o : Option (List Token))
      → items_step p (items p n) ts o ≡ items_step p (items p m) ts o
  same_step n m ts again (Some r) = refl
  same_step n m ts again None = same_rest n m ts again (p ts) refl

  -- any number of turns that is enough gives the same items
  pub items-turns : (n m : ℕ) (ts : List Token) → length ts ≤ n → length ts ≤ m → items p n ts ≡ items p m ts
  unfolding items
  items-turns n m [] a b = no_items_in n ∙ sym (no_items_in m)
  items-turns zero m (t ∷ ts) a b = let never : ⊥ = omega arith in absurd never
  items-turns (suc n) zero (t ∷ ts) a b = let never : ⊥ = omega arith in absurd never
  items-turns (suc n) (suc m) (t ∷ ts) a b =
      same_step n m (t ∷ ts) (λ x less. items-turns n m x (omega (arith, less)) (omega (arith, less)))
      (after_end_array (t ∷ ts))

-- ---- the grammar's values, with what may nest in them

abbrev nested_items : ℕ → Parse json.Items
nested_items zero ts = None
nested_items (suc d) ts = items (value d) (length ts) ts

abbrev nested_members : ℕ → Parse json.Members
nested_members zero ts = None
nested_members (suc d) ts = members (value d) (length ts) ts

-- ---- results

fused : {A B C : Type 0} (f : A → B) (g : B → C) (o : Option (A × List Token))
    → parse_map g (parse_map f o) ≡ parse_map (λ a. g (f a)) o
fused f g None = refl
fused f g (Some p) = refl

-- a value with what is behind it
pub paired : (r : List Token) (o : Option Value)
    → option_map {U = Data × List Token} (λ v. (view v, r)) o ≡ option_map (λ d. (d, r)) (option_map view o)
paired r None = refl
paired r (Some v) = refl

-- `{}` with what is behind it, where the value was right
pub emptied_list-if : (right : Truth) (o : Option (List Token)) (r : List Token) (x : Option Value)
    → MatchBool right (o ≡ Some r) (o ≡ None)
    → option_map view x ≡ (if right then Some (object no_members) else None)
    → option_map {U = Data × List Token} (λ rest. (object no_members, rest)) o ≡ option_map (λ v. (view v, r)) x
emptied_list-if true o r x e seen =
    ap (option_map {U = Data × List Token} (λ rest. (object no_members, rest))) e
    ∙ sym (paired r x ∙ ap (option_map {U = Data × List Token} (λ d. (d, r))) seen)
emptied_list-if false o r x e seen =
    ap (option_map {U = Data × List Token} (λ rest. (object no_members, rest))) e
    ∙ sym (paired r x ∙ ap (option_map {U = Data × List Token} (λ d. (d, r))) seen)

-- ---- the first token of a value

-- the text that the token is
abbrev pub text_of : Token → Option (List ℕ)
text_of Token.begin_object = None
text_of Token.end_object = None
text_of Token.begin_array = None
text_of Token.end_array = None
text_of (Token.key s) = None
text_of (Token.string s) = Some s
text_of (Token.number s) = None
text_of (Token.boolean b) = None
text_of Token.null = None
text_of Token.bad = None

-- whether the token opens an object
abbrev pub opens : Token → Truth
opens Token.begin_object = true
opens Token.end_object = false
opens Token.begin_array = false
opens Token.end_array = false
opens (Token.key s) = false
opens (Token.string s) = false
opens (Token.number s) = false
opens (Token.boolean b) = false
opens Token.null = false
opens Token.bad = false

-- a token that is no text has none
pub text_of-other : (t : Read) → ((x : Bor (List ℕ)) → t ≡ String x → ⊥) → text_of (token_of t) ≡ None
text_of-other BeginObject h = refl
text_of-other EndObject h = refl
text_of-other BeginArray h = refl
text_of-other EndArray h = refl
text_of-other (Key x) h = refl
text_of-other (String x) h = absurd (h x refl)
text_of-other (Number x) h = refl
text_of-other (Bool b) h = refl
text_of-other Null h = refl
text_of-other Bad h = refl

-- a token other than the brace opens no object
pub opens-other : (t : Read) → (t ≡ BeginObject → ⊥) → opens (token_of t) ≡ false
opens-other BeginObject h = absurd (h refl)
opens-other EndObject h = refl
opens-other BeginArray h = refl
opens-other EndArray h = refl
opens-other (Key x) h = refl
opens-other (String x) h = refl
opens-other (Number x) h = refl
opens-other (Bool b) h = refl
opens-other Null h = refl
opens-other Bad h = refl

-- a value has the text and is an object where its first token says so
abbrev IsOf : Token → Data → Type 0
IsOf t d = (as_str d ≡ text_of t) × (is_some (as_object d) ≡ opens t)

abbrev data_in : Option (Data × List Token) → Data
data_in None = null
data_in (Some p) = p.0

is_array : (o : Option (Items × List Token)) (d : Data) (r : List Token) → parse_map array o ≡ Some (d, r)
    → IsOf Token.begin_array d
is_array None d r e = absurd (cc)
is_array (Some p) d r e = let same = ap data_in (sym e) in (ap as_str same, ap (λ x. is_some (as_object x)) same)

is_object : (o : Option (Members × List Token)) (d : Data) (r : List Token) → parse_map object o ≡ Some (d, r)
    → IsOf Token.begin_object d
is_object None d r e = absurd (cc)
is_object (Some p) d r e = let same = ap data_in (sym e) in (ap as_str same, ap (λ x. is_some (as_object x)) same)

module _ (depth : ℕ) (ts : List Token) where
  first_token : (t : Token) (d : Data) (r : List Token)
      → converted of_json (value_with (nested_items depth) (nested_members depth) (t ∷ ts)) ≡ Some (d, r) → IsOf t d
  first_token Token.begin_object d r e = is_object _ d r (sym (converted-object (nested_members depth ts)) ∙ e)
  first_token Token.end_object d r e = absurd (cc)
  first_token Token.begin_array d r e = is_array _ d r (sym (converted-array (nested_items depth ts)) ∙ e)
  first_token Token.end_array d r e = absurd (cc)
  first_token (Token.key s) d r e = absurd (cc)
  first_token (Token.string s) d r e =
      let same = ap data_in (sym e) in (ap as_str same, ap (λ x. is_some (as_object x)) same)
  first_token (Token.number s) d r e = of_number (number_of s) d r e
    where
      of_number : (o : Option Num) (d : Data) (r : List Token)
          → option_map {U = Data × List Token} (λ b. (b, ts)) (option_map number o) ≡ Some (d, r)
          → IsOf (Token.number s) d
      of_number None d r e = absurd (cc)
      of_number (Some n) d r e =
          let same = ap data_in (sym e) in (ap as_str same, ap (λ x. is_some (as_object x)) same)
  first_token (Token.boolean b) d r e =
      let same = ap data_in (sym e) in (ap as_str same, ap (λ x. is_some (as_object x)) same)
  first_token Token.null d r e =
      let same = ap data_in (sym e) in (ap as_str same, ap (λ x. is_some (as_object x)) same)
  first_token Token.bad d r e = absurd (cc)

  -- the value that begins with a token is of its kind
  pub value-first : (t : Token) (d : Data) (r : List Token) → converted of_json (value depth (t ∷ ts)) ≡ Some (d, r)
      → IsOf t d
  value-first t d r e = first_token t d r (ap (converted of_json) (sym (value_is depth (t ∷ ts))) ∙ e)

  -- ---- values, thinly

  by_token : (t : Token) → thin_value depth (t ∷ ts) ≡ parse_map thin
      (converted of_json (value_with (nested_items depth) (nested_members depth) (t ∷ ts)))
  by_token t = ap (λ r. parse_map thin (converted of_json r)) (value_is depth (t ∷ ts))

  -- a string is read as itself
  pub thin_value-string : (s : List ℕ) → thin_value depth (Token.string s ∷ ts) ≡ Some (string s, ts)
  thin_value-string s = by_token (Token.string s)

  -- a truth value is read as itself
  pub thin_value-boolean : (b : Truth) → thin_value depth (Token.boolean b ∷ ts) ≡ Some (boolean b, ts)
  thin_value-boolean b = by_token (Token.boolean b)

  -- null is read as itself
  pub thin_value-null : thin_value depth (Token.null ∷ ts) ≡ Some (null, ts)
  thin_value-null = by_token Token.null

  number_thinly : (o : Option Num) → parse_map thin
      (option_map {U = Data × List Token} (λ b. (b, ts)) (option_map number o)) ≡ option_map (λ d. (d, ts))
      (option_map number o)
  number_thinly None = refl
  number_thinly (Some n) = refl

  -- a number is read as itself, where it is in range
  pub thin_value-number : (s : List ℕ) → thin_value depth (Token.number s ∷ ts) ≡ option_map (λ d. (d, ts))
      (option_map number (number_of s))
  thin_value-number s = by_token (Token.number s) ∙ number_thinly (number_of s)

  -- a list is read thinly by its items, one level deeper
  pub thin_value-array : 0 < depth → thin_value depth (Token.begin_array ∷ ts) ≡ thin_list (depth - 1) ts
  thin_value-array some =
      let all = items (value (depth - 1)) (length ts) ts in
      ap (λ r. parse_map thin (converted of_json r)) (value-begin_array depth ts some)
      ∙ ap (parse_map thin) (converted-array all) ∙ fused array thin (converted of_items all)

  object_thinly : (o : Option (Members × List Token))
      → parse_map thin (parse_map object o) ≡ option_map (λ rest. (object no_members, rest)) (behind o)
  object_thinly None = refl
  object_thinly (Some p) = refl

  -- an object is read as `{}`, with its members passed over
  pub thin_value-object : 0 < depth → thin_value depth (Token.begin_object ∷ ts) ≡ option_map
      (λ rest. (object no_members, rest)) (passed_members (depth - 1) ts)
  thin_value-object some =
      let all = members (value (depth - 1)) (length ts) ts in
      ap (λ r. parse_map thin (converted of_json r)) (value-begin_object depth ts some)
      ∙ ap (parse_map thin) (converted-object all) ∙ object_thinly (converted (λ ms. of_members ms no_members) all)

-- no array or object stands where nothing may nest
pub thin_value-deep : (depth : ℕ) (ts : List Token) → depth ≤ 0 → (thin_value depth (Token.begin_array ∷ ts) ≡ None)
    × (thin_value depth (Token.begin_object ∷ ts) ≡ None)
unfolding value
thin_value-deep zero ts h = (refl, refl)
thin_value-deep (suc depth) ts h = let never : ⊥ = omega arith in absurd never

-- no value is in an empty text
pub value-empty : (depth : ℕ) → converted of_json (value depth []) ≡ None
value-empty depth = ap (converted of_json) (value_is depth [])

-- ---- lists of texts

texts_push : (ss : List (List ℕ)) (s : List ℕ) (rest : Items)
    → texts_before ss (item (string s) rest) ≡ texts_before (ss ++ s ∷ []) rest
texts_push [] s rest = refl
texts_push (x ∷ ss) s rest = ap (item (string x)) (texts_push ss s rest)

one_more : (ss : List (List ℕ)) (s : List ℕ) (o : Option (Items × List Token))
    → parse_map (texts_before ss) (parse_map (item (string s)) o) ≡ parse_map (texts_before (ss ++ s ∷ [])) o
one_more ss s None = refl
one_more ss s (Some p) = ap (λ ds. Some (ds, p.1)) (texts_push ss s p.0)

first_items-texts_before : (n : ℕ) (ss : List (List ℕ))
    → first_items n (texts_before ss no_items) ≡ texts_before (take n ss) no_items
first_items-texts_before zero [] = refl
first_items-texts_before (suc n) [] = refl
first_items-texts_before zero (s ∷ ss) = refl
first_items-texts_before (suc n) (s ∷ ss) = ap (item (string s)) (first_items-texts_before n ss)

are_texts-texts_before : (ss : List (List ℕ)) (rest : Items) → are_texts (texts_before ss rest) ≡ are_texts rest
are_texts-texts_before [] rest = refl
are_texts-texts_before (s ∷ ss) rest = are_texts-texts_before ss rest

-- texts alone, thinly
thin-texts : (ss : List (List ℕ)) → thin (array (texts_before ss no_items)) ≡ array
    (texts_before (take max_texts ss) no_items)
thin-texts ss = rw (are_texts-texts_before ss no_items) (ap array (first_items-texts_before max_texts ss))

-- texts before an item that is none, thinly
thin-others : (ss : List (List ℕ)) (d : Data) (rest : Items) → as_str d ≡ None
    → thin (array (texts_before ss (item d rest))) ≡ object no_members
thin-others ss d rest e = rw (are_texts-texts_before ss (item d rest), e)

abbrev push : Items → Data → Items
push no_items d = item d no_items
push (item e ds) d = item e (push ds d)

items_view-push : (vs : List Value) (v : Value) → items_view (vs ++ v ∷ []) ≡ push (items_view vs) (view v)
items_view-push [] v = refl
items_view-push (w ∷ vs) v = ap (item (view w)) (items_view-push vs v)

texts_before-push : (ss : List (List ℕ)) (s : List ℕ)
    → texts_before (ss ++ s ∷ []) no_items ≡ push (texts_before ss no_items) (string s)
texts_before-push [] s = refl
texts_before-push (x ∷ ss) s = ap (item (string x)) (texts_before-push ss s)

-- one text more is kept
pub AreFirst-more : (vs : List Value) (v : Value) (ss : List (List ℕ)) (s : List ℕ) → AreFirst vs ss
    → length vs < max_texts → view v ≡ string s → AreFirst (vs ++ v ∷ []) (ss ++ s ∷ [])
AreFirst-more vs v ss s h few is =
    let fewer : length ss < max_texts = omega (arith, h.size, length-take max_texts ss) in
    let all : take max_texts ss ≡ ss = take_all max_texts ss (omega (arith, fewer)) in
    let also : take max_texts (ss ++ s ∷ []) ≡ ss ++ s ∷ [] =
    take_all max_texts (ss ++ s ∷ []) (omega (arith, fewer, length-append ss (s ∷ []))) in
    record {
      items = items_view-push vs v ∙ ap (push (items_view vs)) is
          ∙ ap (λ ds. push ds (string s)) (h.items ∙ ap (λ l. texts_before l no_items) all)
          ∙ sym (texts_before-push ss s) ∙ ap (λ l. texts_before l no_items) (sym also);
      size = omega (
        arith,
        h.size,
        ap length all,
        ap length also,
        length-append vs (v ∷ []),
        length-append ss
            (s ∷ []),
      );
    }

-- no text more is kept
pub AreFirst-full : (vs : List Value) (ss : List (List ℕ)) (s : List ℕ) → AreFirst vs ss → max_texts ≤ length vs
    → AreFirst vs (ss ++ s ∷ [])
AreFirst-full vs ss s h full =
    let many : max_texts ≤ length ss = omega (arith, h.size, length-take max_texts ss) in
    let same : take max_texts (ss ++ s ∷ []) ≡ take max_texts ss = take-append-le max_texts ss (s ∷ []) many in
    record {
      items = h.items ∙ ap (λ l. texts_before l no_items) (sym same);
      size = h.size ∙ ap length (sym same);
    }

module _ (depth : ℕ) (first left : List Token) (vs : List Value) where
  -- one text more is read
  pub ReadsTexts-more : (h : ReadsTexts depth first left vs) (s : List ℕ) (r : List Token) (ws : List Value)
      → left ≡ Token.string s ∷ r → AreFirst ws (h.texts ++ s ∷ []) → ReadsTexts depth first r ws
  ReadsTexts-more h s r ws is kept =
      let p = value depth in
      let read : converted of_json (p left) ≡ Some (string s, r) =
      ap (λ ts. converted of_json (p ts)) is ∙ ap (converted of_json) (value_is depth (Token.string s ∷ r)) in
      let size = ap length is in
      let some : 0 < h.turns = omega (arith, h.enough, size) in
      record {
        turns = h.turns - 1;
        texts = h.texts ++ s ∷ [];
        enough = omega (arith, h.enough, size);
        same = h.same ∙ ap (parse_map (texts_before h.texts))
            (items-more p h.turns left r (string s) some (ap after_end_array is) read)
            ∙ one_more h.texts s (converted of_items (items p (h.turns - 1) r));
        kept = kept;
      }

  -- no item is left
  pub ReadsTexts-over : (r : List Token) → ReadsTexts depth first left vs → after_end_array left ≡ Some r
      → thin_list depth first ≡ Some (array (items_view vs), r)
  ReadsTexts-over r h e =
      let listed : thin (array (texts_before h.texts no_items)) ≡ array (items_view vs) =
      thin-texts h.texts ∙ ap array (sym h.kept.items) in
      ap (parse_map (λ ds. thin (array ds)))
      (h.same ∙ ap (parse_map (texts_before h.texts)) (items-over (value depth) h.turns left r h.enough e))
      ∙ ap (λ d. Some (d, r)) listed

  -- no token is left
  pub ReadsTexts-empty : ReadsTexts depth first left vs → left ≡ [] → thin_list depth first ≡ None
  ReadsTexts-empty h is =
      let wrong : converted of_json (value depth left) ≡ None =
      ap (λ ts. converted of_json (value depth ts)) is ∙ value-empty depth in
      ap (parse_map (λ ds. thin (array ds)))
      (h.same ∙ ap (parse_map (texts_before h.texts))
      (items-refused (value depth) h.turns left (ap after_end_array is) wrong))

  others : (ss : List (List ℕ)) (d : Data) → as_str d ≡ None → (o : Option (Items × List Token))
      → parse_map (λ ds. thin (array ds)) (parse_map (texts_before ss) (parse_map (item d) o)) ≡ option_map
      (λ rest. (object no_members, rest)) (behind o)
  others ss d e None = refl
  others ss d e (Some p) = ap (λ x. Some (x, p.1)) (thin-others ss d p.0 e)

  emptied_by : (h : ReadsTexts depth first left vs) (t : Token) (s : List Token) → left ≡ t ∷ s → text_of t ≡ None
      → after_end_array left ≡ None
      → (o : Option (Data × List Token)) → converted of_json (value depth left) ≡ o
      → thin_list depth first ≡ option_map (λ rest. (object no_members, rest))
      (option_and_then (passed_items depth) (behind o))
  emptied_by h t s is other going None e =
      ap (parse_map (λ ds. thin (array ds)))
      (h.same ∙ ap (parse_map (texts_before h.texts)) (items-refused (value depth) h.turns left going e))
  emptied_by h t s is other going (Some (d, r)) e =
      let p = value depth in
      let less = passed-shorter depth left r (ap behind e) in
      let some : 0 < h.turns = omega (arith, h.enough, less) in
      let kind = value-first depth s t d r (ap (λ ts. converted of_json (value depth ts)) (sym is) ∙ e) in
      let turns = items-turns p (skip_value-shorter depth) (h.turns - 1) (length r) r (omega (arith, h.enough, less))
      (omega arith) in
      ap (parse_map (λ ds. thin (array ds)))
      (h.same ∙ ap (parse_map (texts_before h.texts)) (items-more p h.turns left r d some going e))
      ∙ others h.texts d (kind.0 ∙ other) (converted of_items (items p (h.turns - 1) r))
      ∙ ap (λ js. option_map (λ rest. (object no_members, rest)) (behind (converted of_items js))) turns

  -- an item that is no text empties the list
  pub ReadsTexts-others : ReadsTexts depth first left vs → (t : Token) (s : List Token) → left ≡ t ∷ s
      → text_of t ≡ None → after_end_array left ≡ None → thin_list depth first ≡ emptied_list depth (t ∷ s)
  ReadsTexts-others h t s is other going =
      emptied_by h t s is other going (converted of_json (value depth left)) refl ∙ ap (emptied_list depth) is
