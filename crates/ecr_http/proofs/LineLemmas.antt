-- Where a head has a line's end, and where it has none.
use Rattle.std.proofs.Common.{◌≡◌, ℕ, ◌+◌, ◌-◌, ◌<◌, ◌≤◌, ◌==◌, ◌&&◌, Bool, true, false, nat_lt, List, length, drop, slice_index, slice_range, refl, sym, ap, ◌∙◌, subst, ⊎_elim, arith, length-drop}
use Rattle.std.proofs.lemmas.Bool.{false_from_ne_true}
use Rattle.std.proofs.lemmas.List.{get_or-take, get_or-drop, length-take}
use Rattle.std.proofs.Math.Nat.{eq-or-lt_of_le}
use Rattle.std.proofs.lemmas.Bool.{cases_lt}
use Rattle.memchr.specs.Find.{Nowhere, Passes, is_byte}
use Rattle.ecr_model.specs.http.Framing.{ends_empty, HasNoEnd}
use Rattle.ecr_http.specs.Lines.{HasNoLine}

-- how long a piece of bytes is
pub length-slice_range : (bytes : List ℕ) (from to : ℕ) → to ≤ length bytes
    → length (slice_range bytes from to) ≡ to - from
length-slice_range bytes from to within =
    omega (arith, length-take (to - from) (drop from bytes), length-drop from bytes)

slice_index-slice_range : (bytes : List ℕ) (from to k : ℕ) → k < to - from
    → slice_index (slice_range bytes from to) k ≡ slice_index bytes (from + k)
slice_index-slice_range bytes from to k h =
    get_or-take (to - from) (drop from bytes) k 0 h ∙ get_or-drop from bytes k 0

-- no byte of a range is LF up to a place there
pub HasNoLine-nowhere : (bytes : List ℕ) (from to at : ℕ) → at ≤ to - from
    → Nowhere (Passes (is_byte 10) (slice_range bytes from to)) 0 at
    → HasNoLine bytes from (from + at)
HasNoLine-nowhere bytes from to at within nowhere k after before =
    let i = k - 1 - from in
    let there : from + i ≡ k - 1 = omega arith in
    let same : slice_index (slice_range bytes from to) i ≡ slice_index bytes (k - 1) =
    slice_index-slice_range bytes from to i (omega arith) ∙ ap (slice_index bytes) there in
    ap (λ b. b == 10) (sym same) ∙ false_from_ne_true (slice_index (slice_range bytes from to) i == 10)
    (nowhere i (omega arith) (omega arith))

middle-false : (a b c : Bool) → b ≡ false → (a && b && c) ≡ false
middle-false true b c h = ap (λ x. x && c) h
middle-false false b c h = refl

-- no empty line ends where no line does
ends_empty-no_line : (bytes : List ℕ) (k : ℕ) → (slice_index bytes (k - 1) == 10) ≡ false → ends_empty bytes k ≡ false
unfolding ends_empty
ends_empty-no_line bytes k h = middle-false (nat_lt 1 k) (slice_index bytes (k - 1) == 10) _ h

-- nor in bytes in which none ended, and no line behind them
pub HasNoEnd-no_line : (bytes : List ℕ) (from to : ℕ) → HasNoEnd bytes from → HasNoLine bytes from to
    → HasNoEnd bytes to
HasNoEnd-no_line bytes from to none no_line k within =
    ⊎_elim (λ (behind : from < k). ends_empty-no_line bytes k (no_line k behind within))
    (λ (before : k ≤ from). none k before) (cases_lt from k)

-- and the line that ends there isn't empty
pub HasNoEnd-next : (bytes : List ℕ) (n : ℕ) → HasNoEnd bytes (n - 1) → ends_empty bytes n ≡ false → HasNoEnd bytes n
HasNoEnd-next bytes n none last k within =
    ⊎_elim (λ (same : k ≡ n). subst (λ (j : ℕ). ends_empty bytes j ≡ false) (sym same) last)
    (λ (less : k < n). none k (omega arith)) (eq-or-lt_of_le within)
