-- What is said of fields, said of the places at which they stand.
use Rattle.std.proofs.Common.{◌≡◌, ℕ, ◌+◌, Bool, true, false, cond, List, [], ◌∷◌, map, Option, Some, refl, ap, option_map}
use Rattle.std.specs.Prelude.{count_by, find, not, ◌||◌, bytes_eq}
use Rattle.std.specs.List.{list_all}
use Rattle.std.proofs.lemmas.List.Folds.{fold-map, list_all-map}
use Rattle.httparse.specs.declared.spans.HeaderSpan.{HeaderSpan}
use Rattle.httparse.specs.Spans.{span_bytes}
use Rattle.ecr_model.specs.http.FieldLines.{Field, field_at}
use Rattle.ecr_model.specs.http.Fields.{has_name, first_value, each_is}

-- as many images pass as there are items whose images pass
pub count_by-map : {A B : Type 0} (p : B → Bool) (f : A → B) (xs : List A)
    → count_by p (map f xs) ≡ count_by (λ x. p (f x)) xs
count_by-map p f xs = fold-map (λ (n : ℕ) x. n + cond (p x) 1 0) f 0 xs

-- the item or the place decides, where one of them passes and gives the same, and else the others do
first-others : {A B C : Type 0} (f : A → C) (g : B → C) (passes : Bool) (a : A) (b : B) (xs : Option A) (ys : Option B)
    → f a ≡ g b → option_map f xs ≡ option_map g ys
    → option_map f (cond passes (Some a) xs) ≡ option_map g (cond passes (Some b) ys)
first-others f g true a b xs ys here others = ap Some here
first-others f g false a b xs ys here others = others

-- the value of the first field of the name is that at the first place of such a field
pub first_value-places : (name head : List ℕ) (places : List HeaderSpan)
    → first_value name (map (field_at head) places)
    ≡ option_map (λ p. span_bytes head p.value) (find (λ p. has_name name (field_at head p)) places)
first_value-places name head [] = refl
first_value-places name head (p ∷ ps) =
    first-others (λ (f : Field). f.value) (λ (q : HeaderSpan). span_bytes head q.value)
    (has_name name (field_at head p)) (field_at head p) p
    (find (has_name name) (map (field_at head) ps)) (find (λ q. has_name name (field_at head q)) ps) refl
    (first_value-places name head ps)

-- each field of the name has the value where that is so at each place
pub each_is-places : (name value head : List ℕ) (places : List HeaderSpan)
    → each_is name value (map (field_at head) places)
    ≡ list_all (λ p. not (has_name name (field_at head p)) || bytes_eq (span_bytes head p.value) value) places
each_is-places name value head places = list_all-map _ (field_at head) places

-- what is said of fields, said of their places
pub ruleset at_places = (count_by-map, first_value-places, each_is-places)
