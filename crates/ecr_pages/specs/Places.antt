-- What pages hold. A page has its places by their births: a place is empty or has a row. Pages stand by their numbers.
use Rattle.std.specs.Prelude.{◌≡◌, ◌⊎◌, ◌+◌, ◌&&◌, ℕ, cond, Bool, true, false, List, [], ◌∷◌, Option, None, Some, is_some, ⊤}
use Rattle.std.specs.BTreeMap.{BTreeMap, is_at}
use Rattle.std.specs.FinMap as map
use Rattle.std.specs.FinMap.{FinMap}
use Rattle.std.specs.FinSet as set
use Rattle.std.specs.FinSet.{FinSet}
use Rattle.std.specs.List.{flat_map, list_any, filter, AllByRecursion}
use Rattle.std.specs.List.Sorted.{IsStrictlySortedBy}
use Rattle.std.specs.Map.{lookup, keys_of}
use Rattle.std.specs.Option.{option_flatten}
use Rattle.std.specs.Ordering.{nat_cmp, eq_by_cmp}
use Rattle.std.specs.declared.sync.Arc.{Arc}
use Rattle.ecr_pages.specs.Rows.{page_of, is_beside}
use Rattle.ecr_pages.specs.declared.page.Page.{Page}
use Rattle.ecr_pages.specs.declared.page.Page.TheVariants.{Owned, Shared}

-- the places of a page, by their births
abbrev pub Places : Type 0 → Type 0
Places R = List (ℕ × Option R)

-- what stands at a number
abbrev pub at : {X : Type 0} → List (ℕ × X) → ℕ → Option X
at entries number = lookup (is_at (nat_cmp number)) entries

-- one of the numbers is this one
abbrev pub is_one_of : List ℕ → ℕ → Bool
is_one_of numbers n = list_any (eq_by_cmp nat_cmp n) numbers

-- the row in the birth's place
abbrev pub row_in : {R : Type 0} → Places R → ℕ → Option R
row_in places birth = option_flatten (at places birth)

-- the birth has a place
abbrev pub has_place : {R : Type 0} → Places R → ℕ → Bool
has_place places birth = is_some (at places birth)

module _ {R : Type 0} where
  -- the places of a page
  abbrev pub places_of : Page R → Places R
  places_of (Owned slots) = slots.entries
  places_of (Shared slots) = slots.value.entries

  -- the page is owned, and has a place for the birth
  abbrev pub owns_place : Option (Page R) → ℕ → Bool
  owns_place None birth = false
  owns_place (Some (Owned slots)) birth = has_place slots.entries birth
  owns_place (Some (Shared slots)) birth = false

  -- the birth's page is owned, and has a place for it
  abbrev pub owned_at : List (ℕ × Page R) → ℕ → Bool
  owned_at book birth = owns_place (at book (page_of birth)) birth

module _ {R P : Type 0} (places : P → Places R) where
  -- the places of a page: none where there is no page
  abbrev pub held : Option P → Places R
  held None = []
  held (Some page) = places page

  -- the row of the birth, in its page
  abbrev pub row_at : List (ℕ × P) → ℕ → Option R
  row_at book birth = row_in (held (at book (page_of birth))) birth

  -- the births that have a place in some page
  abbrev pub births_in : List (ℕ × P) → List ℕ
  births_in book = flat_map (λ e. keys_of (places e.1)) book

-- a birth's entry before others, where it has a row
abbrev pub entry_with : {R : Type 0} → ℕ → Option R → List (ℕ × R) → List (ℕ × R)
entry_with birth None entries = entries
entry_with birth (Some row) entries = (birth, row) ∷ entries

-- the entries of those of these births for which a function gives a row
abbrev pub filled : {R : Type 0} → (ℕ → Option R) → List ℕ → List (ℕ × R)
filled f [] = []
filled f (birth ∷ births) = entry_with birth (f birth) (filled f births)

-- the rows of all pages
unfoldable pub rows_in : {R P : Type 0} → (P → Places R) → List (ℕ × P) → FinMap nat_cmp R
rows_in places book = map.from_entries (filled (row_at places book) (births_in places book))

-- the births that have a place in an owned page
unfoldable pub owned_in : {R : Type 0} → List (ℕ × Page R) → FinSet nat_cmp
owned_in book =
    set.retain (set.from_list (births_in places_of book)) (owned_at book)

-- some place has a row
abbrev pub has_row : {R : Type 0} → Places R → Bool
has_row places = list_any (λ birth. is_some (row_in places birth)) (keys_of places)

-- the births of a page that have a row
abbrev pub births_with_rows : {R : Type 0} → Places R → List ℕ
births_with_rows places = filter (λ birth. is_some (row_in places birth)) (keys_of places)

-- how many of the pages of these numbers have a row
abbrev pub rowed : {R : Type 0} → List (ℕ × Page R) → List ℕ → ℕ
rowed book [] = 0
rowed book (number ∷ numbers) = cond (has_row (held places_of (at book number))) 1 0 + rowed book numbers

-- each place of the page of a number is of a birth that stands in that page
abbrev pub AreInPages : {R P : Type 0} → (P → Places R) → List (ℕ × P) → Type 0
AreInPages places book = (number birth : ℕ) → has_place (held places (at book number)) birth ≡ true
    → page_of birth ≡ number

-- the places of a shared page
abbrev pub shelved : {R Z : Type 0} → Arc (BTreeMap ℕ (Option R)) Z → Places R
shelved slots = slots.value.entries

-- a copy of the rows, without the empty places
pub record IsCopy {R : Type 0} (places copy : Places R) : Type 0 where
  pub rows : (q : ℕ) → row_in copy q ≡ row_in places q
  pub few : (q : ℕ) → has_place copy q ≡ true → is_some (row_in places q) ≡ true

-- the row of a birth is put into the copy, if the birth has one
abbrev pub CopiesRow : {R : Type 0} → Places R → Places R → Places R → ℕ → Type 0
CopiesRow places old new birth =
    (q : ℕ) → at new q ≡ cond (is_some (row_in places birth) && eq_by_cmp nat_cmp birth q) (Some (row_in places birth))
    (at old q)

-- the rows of all births but those that are left are copied
pub record IsCopying {R : Type 0} (places copy : Places R) (left : List ℕ) : Type 0 where
  pub same : (q : ℕ) → has_place copy q ≡ true → at copy q ≡ Some (row_in places q)
  pub few : (q : ℕ) → has_place copy q ≡ true → is_some (row_in places q) ≡ true
  pub all : (q : ℕ) → is_one_of left q ≡ false → is_some (row_in places q) ≡ true → at copy q ≡ Some (row_in places q)

-- a copy of the places comes exactly from a shared page
abbrev pub IsCopied : {R : Type 0} → Page R → Option (BTreeMap ℕ (Option R)) → Type 0
IsCopied (Owned slots) None = ⊤
IsCopied (Owned slots) (Some copy) = ⊥
IsCopied (Shared slots) None = ⊥
IsCopied (Shared slots) (Some copy) = IsCopy slots.value.entries copy.entries

-- what it is to make the pages of these births owned
pub record OwnsFor {R : Type 0} (old new : List (ℕ × Page R)) (births : List ℕ) : Type 0 where
  pub rows : (q : ℕ) → row_at places_of new q ≡ row_at places_of old q
  pub kept : (q : ℕ) → owned_at old q ≡ true → owned_at new q ≡ true
  pub others : (q : ℕ) → owned_at new q ≡ true → (owned_at old q ≡ true) ⊎ (is_beside births q ≡ true)
  pub placed : AreInPages places_of old → AreInPages places_of new

-- the pages have the rows that they had, and no new place
pub record KeepsRows {R : Type 0} (old new : List (ℕ × Page R)) : Type 0 where
  pub rows : (n q : ℕ) → row_in (held places_of (at new n)) q ≡ row_in (held places_of (at old n)) q
  pub places : (n q : ℕ) → has_place (held places_of (at new n)) q ≡ true
      → has_place (held places_of (at old n)) q ≡ true

-- what it is to share the page of a number, which is put on a shelf where it has a row
pub record SharesPage {R Z : Type 0} (old new : List (ℕ × Page R))
    (shelf filled : List (ℕ × Arc (BTreeMap ℕ (Option R)) Z)) (number : ℕ) : Type 0 where
  pub others : (n : ℕ) → eq_by_cmp nat_cmp number n ≡ false → at new n ≡ at old n
  pub shared : (q : ℕ) → owns_place (at new number) q ≡ false
  pub shelf_others : (n : ℕ) → eq_by_cmp nat_cmp number n ≡ false → at filled n ≡ at shelf n
  pub rows : at shelf number ≡ None → (q : ℕ)
      → row_in (held shelved (at filled number)) q ≡ row_in (held places_of (at old number)) q
  pub places : at shelf number ≡ None → (q : ℕ) → has_place (held shelved (at filled number)) q ≡ true
      → has_place (held places_of (at old number)) q ≡ true

-- the pages of these numbers are shared, and those of them that have a row are on the shelf
pub record HasShared {R Z : Type 0} (old new : List (ℕ × Page R)) (shelf : List (ℕ × Arc (BTreeMap ℕ (Option R)) Z))
    (numbers : List ℕ) : Type 0 where
  pub others : (n : ℕ) → is_one_of numbers n ≡ false → at new n ≡ at old n
  pub shared : (n q : ℕ) → is_one_of numbers n ≡ true → owns_place (at new n) q ≡ false
  pub bare : (n : ℕ) → is_one_of numbers n ≡ false → at shelf n ≡ None
  pub rows : (n q : ℕ) → is_one_of numbers n ≡ true
      → row_in (held shelved (at shelf n)) q ≡ row_in (held places_of (at old n)) q
  pub places : (n q : ℕ) → has_place (held shelved (at shelf n)) q ≡ true
      → has_place (held places_of (at old n)) q ≡ true

-- the births of the rows on a shelf, page by page
abbrev pub births_shelved : {R Z : Type 0} → List (ℕ × Arc (BTreeMap ℕ (Option R)) Z) → List ℕ
births_shelved shelf = flat_map (λ e. births_with_rows (shelved e.1)) shelf

-- the births of each page rise
abbrev pub EachRises : {R Z : Type 0} → List (ℕ × Arc (BTreeMap ℕ (Option R)) Z) → Type 0
EachRises shelf = AllByRecursion (λ e. IsStrictlySortedBy nat_cmp (keys_of (shelved e.1))) shelf
