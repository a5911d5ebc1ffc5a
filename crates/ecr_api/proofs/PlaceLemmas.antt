-- Places in decimal.
use Rattle.std.proofs.Common.{◌≡◌, ◌∙◌, ◌||◌, ◌==◌, ◌+◌, ◌-◌, ◌*◌, ◌^◌, ◌<◌, ℕ, true, false, not, cond, List, [], ◌∷◌, Some, None, Result, Ok, Err, length, fold, nat_lt, refl, sym, ap, arith}
use Rattle.std.specs.List.{list_all}
use Rattle.std.specs.Str.Parse.{ParsesUnsigned}
use Rattle.std.proofs.lemmas.Bool.{and_parts, cond-false}
use Rattle.std.proofs.lemmas.Bool.Decides.{nat_tests}
use Rattle.std.proofs.lemmas.Str.Parse.{IsNumeralModel, IsDigitsTest, FoldsDigits, numerals_by_fold, parse_digits}
use Rattle.ecr_model.specs.requests.Members.{digits_value, is_decimal, token_place}
use Rattle.ecr_model.specs.names.Sites.{is_digit}

is_test : IsDigitsTest (λ ds. list_all is_digit ds ≡ true)
is_test = record {
  empty = refl;
  parts = λ c cs e. grind (arith, nat_tests);
  more = λ c cs k e. grind (arith, nat_tests);
}

folds : FoldsDigits (λ n ds. fold (λ m c. m * 10 + (c - 48)) n ds)
folds = record { empty = λ n. refl; more = λ n c cs k. refl }

-- the digits of a decimal, and the number that they write
own : IsNumeralModel (λ ds. list_all is_digit ds ≡ true) digits_value
unfolding digits_value
own = numerals_by_fold (λ ds. list_all is_digit ds ≡ true) is_test (λ n ds. fold (λ m c. m * 10 + (c - 48)) n ds) folds

-- a decimal is digits
decimal-digits : (text : List ℕ) → is_decimal text ≡ true → (list_all is_digit text ≡ true) × (0 < length text)
unfolding is_decimal
decimal-digits [] e = cc
decimal-digits (c ∷ rest) e =
    ((and_parts (list_all is_digit (c ∷ rest)) (not (c == 48) || length rest == 0) e).0, omega arith)

-- the place of a decimal
of_decimal : (text : List ℕ) → is_decimal text ≡ true
    → token_place text ≡ cond (nat_lt (digits_value text) (2 ^ 63)) (Some (digits_value text)) None
unfolding token_place
of_decimal text e = rw e refl

-- what is no decimal is no place
pub token_place-other : (text : List ℕ) → is_decimal text ≡ false → token_place text ≡ None
unfolding token_place
token_place-other text e = rw e refl

-- a decimal that is read as a number is the place of that number
pub token_place-Ok : {E : Type 0} (text : List ℕ) (r : Result ℕ E) (n : ℕ) → ParsesUnsigned 64 10 text r → r ≡ Ok n
    → is_decimal text ≡ true
    → token_place text ≡ cond (nat_lt n (2 ^ 63)) (Some n) None
token_place-Ok text r n parses is e =
    let digits = decimal-digits text e in
    let told = parse_digits own 64 text r parses digits.0 in
    let same : n ≡ digits_value text = (rw is at told).1 in
    of_decimal text e ∙ ap (λ m. cond (nat_lt m (2 ^ 63)) (Some m) None) (sym same)

-- and one that isn't read is too great
pub token_place-Err : {E : Type 0} (text : List ℕ) (r : Result ℕ E) (e : E) → ParsesUnsigned 64 10 text r → r ≡ Err e
    → is_decimal text ≡ true → token_place text ≡ None
token_place-Err text r e parses is d =
    let digits = decimal-digits text d in
    let told = rw is at (parse_digits own 64 text r parses digits.0) in
    let large : digits_value text < 2 ^ 63 → ⊥ = λ below. told (digits.1, omega arith) in
    let over : nat_lt (digits_value text) (2 ^ 63) ≡ false = grind (arith, nat_tests) in
    of_decimal text d ∙ cond-false _ (Some (digits_value text)) None over
