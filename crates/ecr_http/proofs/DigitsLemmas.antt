-- Numerals of a length that is stated.
use Rattle.std.proofs.Common.{◌≡◌, ◌&&◌, ◌+◌, ◌-◌, ◌*◌, ◌^◌, ◌<◌, ℕ, true, List, length, get_or, take, IsTrue, nat_lt, nat_le, rules, arith}
use Rattle.std.specs.List.{list_all}
use Rattle.std.specs.Int.{IsInRange}
use Rattle.std.specs.Char.{is_ascii_digit, digit_value}
use Rattle.std.specs.Str.Parse.{digits_value}
use Rattle.std.proofs.lemmas.Bool.{and_parts, leb-true}
use Rattle.std.proofs.lemmas.Bool.Decides.{nat_tests}
use Rattle.std.proofs.lemmas.Int.Digits.{digits_value_more}
use Rattle.std.proofs.lemmas.Str.Parse.{IsNumeralModel, numerals_by_value, digit_at, digits_value_short, digits_value-take-le}
use Rattle.ecr_model.specs.http.Framing.{is_length}

-- the texts of digits, and the numbers that they represent
own : IsNumeralModel (λ ds. list_all is_ascii_digit ds ≡ true) (digits_value 10)
own = numerals_by_value _ (search rules)

digits-at : (ds : List ℕ) (i : ℕ) → list_all is_ascii_digit ds ≡ true → i < length ds → IsInRange 48 57 (get_or ds i 0)
digits-at ds i h inside = digit_at ds i (own.to ds h) inside

digit_value-digit : (c : ℕ) → IsInRange 48 57 c → digit_value c ≡ c - 48
digit_value-digit c h = grind (arith, nat_tests)

-- the first digits of a stated length, of at most 18
pub digits_value-short : (ds : List ℕ) (i : ℕ) → IsTrue (is_length ds) → digits_value 10 (take i ds) < 10 ^ 18
digits_value-short ds i h =
    let p = and_parts (nat_lt 0 (length ds) && nat_le (length ds) 18) (list_all is_ascii_digit ds) h in
    let q = and_parts (nat_lt 0 (length ds)) (nat_le (length ds) 18) p.0 in
    omega (
      arith,
      digits_value_short own ds 18 p.1 (leb-true (length ds) 18 q.1),
      digits_value-take-le 10 ds i
          (omega arith),
    )

-- one more digit of a stated length
pub digits_value-more : (ds : List ℕ) (i : ℕ) → IsTrue (is_length ds) → i < length ds
    → digits_value 10 (take (i + 1) ds) ≡ 10 * digits_value 10 (take i ds) + (get_or ds i 0 - 48)
digits_value-more ds i h inside =
    let p = and_parts (nat_lt 0 (length ds) && nat_le (length ds) 18) (list_all is_ascii_digit ds) h in
    omega (arith, digits_value_more 10 ds i inside, digit_value-digit (get_or ds i 0) (digits-at ds i p.1 inside))
