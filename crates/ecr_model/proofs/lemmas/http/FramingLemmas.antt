-- Bytes have one first empty line, and a head one meaning, which stay when more bytes come.
use Rattle.std.proofs.Common.{◌≡◌, ℕ, zero, suc, ◌-◌, ◌<◌, ◌≤◌, min, List, [], ◌++◌, length, Option, Some, None, slice_index, refl, sym, ap, ◌∙◌, ⊎_elim, arith, length-append}
use Rattle.std.proofs.lemmas.Bool.{both_ways, cases_order}
use Rattle.std.proofs.lemmas.List.{get_or_append_left}
use Rattle.httparse.proofs.GrammarLemmas.{request_unique}
use Rattle.ecr_model.specs.declared.http.Head.{Head}
use Rattle.ecr_model.specs.http.Fields.{head_of}
use Rattle.ecr_model.specs.http.Framing.{ends_empty, IsEnd, HasNoEnd, EndsAt, Parses}

-- whether an empty line ends at a place is settled by the bytes before it
pub ends_empty-append : (bytes more : List ℕ) (n : ℕ) → n ≤ length bytes
    → ends_empty (bytes ++ more) n ≡ ends_empty bytes n
unfolding ends_empty
ends_empty-append bytes more zero within = refl
ends_empty-append bytes more (suc zero) within = refl
ends_empty-append bytes more (suc (suc k)) within =
    let last : slice_index (bytes ++ more) (suc (suc k) - 1) ≡ slice_index bytes (suc (suc k) - 1) =
    get_or_append_left bytes more 0 (suc (suc k) - 1) (omega arith) in
    let before : slice_index (bytes ++ more) (suc (suc k) - 2) ≡ slice_index bytes (suc (suc k) - 2) =
    get_or_append_left bytes more 0 (suc (suc k) - 2) (omega arith) in
    let third : slice_index (bytes ++ more) (suc (suc k) - 3) ≡ slice_index bytes (suc (suc k) - 3) =
    get_or_append_left bytes more 0 (suc (suc k) - 3) (omega arith) in
    cc

-- a head ends at the same place where more bytes follow
pub IsEnd-append : (limit : ℕ) (bytes more : List ℕ) (n : ℕ) → IsEnd limit bytes n → IsEnd limit (bytes ++ more) n
IsEnd-append limit bytes more n is = record {
  within = omega (arith, length-append bytes more, is.within);
  not_long = is.not_long;
  ends = ends_empty-append bytes more n is.within ∙ is.ends;
  first = λ k below.
      let within : k ≤ length bytes = omega (arith, is.within) in
      ends_empty-append bytes more k within ∙ is.first k below;
}

-- where no empty line ends within the first n bytes, none does with more bytes behind them
pub HasNoEnd-append : (bytes more : List ℕ) (n : ℕ) → n ≤ length bytes → HasNoEnd bytes n → HasNoEnd (bytes ++ more) n
HasNoEnd-append bytes more n within none_ends k below =
    let inside : k ≤ length bytes = omega arith in ends_empty-append bytes more k inside ∙ none_ends k below

-- an empty line takes two bytes at least
pub IsEnd-positive : (limit : ℕ) (bytes : List ℕ) (n : ℕ) → IsEnd limit bytes n → 0 < n
unfolding ends_empty
IsEnd-positive limit bytes zero is = absurd (cc (is.ends))
IsEnd-positive limit bytes (suc n) is = omega arith

-- the first empty line ends in one place
pub IsEnd-unique : (limit : ℕ) (bytes : List ℕ) (n m : ℕ) → IsEnd limit bytes n → IsEnd limit bytes m → n ≡ m
IsEnd-unique limit bytes n m a b = ⊎_elim (λ same. same)
    (⊎_elim (λ below. absurd (both_ways _ (b.first n below) a.ends))
    (λ above. absurd (both_ways _ (a.first m above) b.ends)))
    (cases_order n m)

-- bytes have at most one place where the head ends
pub EndsAt-unique : (limit : ℕ) (bytes : List ℕ) (a b : Option ℕ) → EndsAt limit bytes a → EndsAt limit bytes b → a ≡ b
EndsAt-unique limit bytes None None a b = refl
EndsAt-unique limit bytes None (Some m) a b =
    let inside : m ≤ min (length bytes) limit = omega (arith, b.within, b.not_long) in
    absurd (both_ways _ (a m inside) b.ends)
EndsAt-unique limit bytes (Some n) None a b =
    let inside : n ≤ min (length bytes) limit = omega (arith, a.within, a.not_long) in
    absurd (both_ways _ (b n inside) a.ends)
EndsAt-unique limit bytes (Some n) (Some m) a b = ap Some (IsEnd-unique limit bytes n m a b)

-- bytes are at most one head
pub Parses-unique : (bytes : List ℕ) (a b : Option Head) → Parses bytes a → Parses bytes b → a ≡ b
Parses-unique bytes None None a b = refl
Parses-unique bytes None (Some h) a b = absurd (a b.0 b.1)
Parses-unique bytes (Some h) None a b = absurd (b a.0 a.1)
Parses-unique bytes (Some h) (Some k) a b =
    ap Some (a.2 ∙ ap head_of (request_unique bytes a.0 b.0 [] [] a.1 b.1).0 ∙ sym b.2)
