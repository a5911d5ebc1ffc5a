-- Rows by their births, as contracts see them. The birth b stands in page b / 256, without the rest.
use Rattle.std.specs.Prelude.{ℕ, ◌+◌, ◌<◌, ◌/◌, ◌==◌, Bool, IsTrue, List, [], ◌∷◌, map, length, slice_index, max, refl}
use Rattle.std.specs.Coded.{Coded, code_by, coded×, coded_ℕ}
use Rattle.std.specs.FinMap as map
use Rattle.std.specs.FinMap.{FinMap}
use Rattle.std.specs.FinSet as set
use Rattle.std.specs.FinSet.{FinSet}
use Rattle.std.specs.List.{list_any}
use Rattle.std.specs.Ordering.{nat_cmp}

-- the rows by their births, and the births that have a place in an owned page
pub record Paged (R : Type 0) : Type 0 where
  pub rows : FinMap nat_cmp R
  pub owned : FinSet nat_cmp

-- as the pair of its fields
abbrev pub paged_code : {R : Type 0} → Coded R → Coded (Paged R)
paged_code {R} code =
    code_by (FinMap nat_cmp R × FinSet nat_cmp) (coded× (map.code coded_ℕ code) (set.code coded_ℕ))
    (λ p. (p.rows, p.owned)) (λ p. record { rows = p.0; owned = p.1 }) (λ _. refl)

-- the page in which a birth stands
abbrev pub page_of : ℕ → ℕ
page_of birth = birth / 256

-- the births of the rows, which rise
abbrev pub births_of : {R : Type 0} → FinMap nat_cmp R → List ℕ
births_of rows = map.keys rows

-- the birth has a place in an owned page
abbrev pub IsOwned : {R : Type 0} → Paged R → ℕ → Type 0
IsOwned pages birth = IsTrue (set.contains pages.owned birth)

-- each of the births has
abbrev pub AreOwned : {R : Type 0} → Paged R → List ℕ → Type 0
AreOwned pages births = (j : ℕ) → j < length births → IsOwned pages (slice_index births j)

-- one of the births stands in the same page as this one
abbrev pub is_beside : List ℕ → ℕ → Bool
is_beside births birth = list_any (λ b. page_of b == page_of birth) births

-- how many pages have a row
abbrev pub page_count : {R : Type 0} → FinMap nat_cmp R → ℕ
page_count rows = set.len (set.from_list {R = nat_cmp} (map page_of (births_of rows)))

-- the page of the greatest birth, plus one; 0 where there is no birth
abbrev pub page_bound : List ℕ → ℕ
page_bound [] = 0
page_bound (birth ∷ births) = max (page_of birth + 1) (page_bound births)
