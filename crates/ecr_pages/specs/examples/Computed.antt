-- Rows in pages, at values that are written out: rows are numbers, and births 1, 3 and 300 have places, of which that of
-- 3 is empty.
use Rattle.std.specs.Prelude.{◌≡◌, ℕ, true, false, IsTrue, List, [], ◌∷◌, Option, None, Some}
use Rattle.std.specs.BTreeMap.{BTreeMap}
use Rattle.std.specs.FinMap as map
use Rattle.std.specs.FinMap.{FinMap}
use Rattle.std.specs.FinSet as set
use Rattle.std.specs.Ordering.{nat_cmp}
use Rattle.std.specs.declared.sync.Arc.{Arc}
use Rattle.ecr_pages.specs.Rows.{Paged, page_of, births_of, IsOwned, AreOwned, is_beside, page_count, page_bound}
use Rattle.ecr_pages.specs.Places.{Places, at, row_in, has_place, places_of, owns_place, owned_at, held, row_at, births_in, entry_with, filled, rows_in, owned_in, AreInPages, shelved}
use Rattle.ecr_pages.specs.declared.page.Page.{Page}
use Rattle.ecr_pages.specs.declared.page.Page.TheVariants.{Owned, Shared}

-- the places of page 0 and of page 1
abbrev pub first : Places ℕ
first = (1, Some 8) ∷ (3, None) ∷ []

abbrev pub second : Places ℕ
second = (300, Some 9) ∷ []

-- both, by their numbers
abbrev pub book : List (ℕ × Places ℕ)
book = (0, first) ∷ (1, second) ∷ []

-- places as they are
abbrev pub plain : Places ℕ → Places ℕ
plain places = places

-- three rows, of which two stand in one page
abbrev pub rows : FinMap nat_cmp ℕ
rows = map.from_sorted ((1, 8) ∷ (300, 9) ∷ (301, 7) ∷ [])

-- pages in which 1 and 300 have a place that may be written
abbrev pub pages : Paged ℕ
pages = record { rows = rows; owned = set.from_list (1 ∷ 300 ∷ []) }

-- pages and rows of births
pub record RowsAreComputed : Type 0 where
  pub low : page_of 255 ≡ 0
  pub next : page_of 256 ≡ 1
  pub births : births_of rows ≡ 1 ∷ 300 ∷ 301 ∷ []
  pub owned : IsOwned pages 300
  pub not_owned : IsOwned pages 2 → ⊥
  pub all_owned : AreOwned pages (300 ∷ 1 ∷ [])
  pub one_not_owned : AreOwned pages (300 ∷ 2 ∷ []) → ⊥
  pub beside : is_beside (300 ∷ []) 260 ≡ true
  pub not_beside : is_beside (300 ∷ []) 100 ≡ false
  pub count : page_count rows ≡ 2
  pub bound : page_bound (1 ∷ 300 ∷ []) ≡ 2
  pub no_bound : page_bound [] ≡ 0

-- places in pages
pub record PlacesAreComputed : Type 0 where
  pub found : at first 3 ≡ Some None
  pub not_found : at first 2 ≡ None
  pub row : row_in first 1 ≡ Some 8
  pub no_row : row_in first 3 ≡ None
  pub place : has_place first 3 ≡ true
  pub no_place : has_place first 2 ≡ false
  pub no_page : held plain None ≡ []
  pub page : held plain (Some first) ≡ first
  pub second_row : row_at plain book 300 ≡ Some 9
  pub beyond : row_at plain book 600 ≡ None
  pub births : births_in plain book ≡ 1 ∷ 3 ∷ 300 ∷ []
  pub entry : entry_with {R = ℕ} 3 (Some 6) ((4, 7) ∷ []) ≡ (3, 6) ∷ (4, 7) ∷ []
  pub no_entry : entry_with {R = ℕ} 3 None ((4, 7) ∷ []) ≡ (4, 7) ∷ []
  pub all : filled (row_at plain book) (1 ∷ 3 ∷ 300 ∷ []) ≡ (1, 8) ∷ (300, 9) ∷ []
  pub as_map : rows_in plain book ≡ map.from_entries ((1, 8) ∷ (300, 9) ∷ [])
  pub misplaced : AreInPages plain ((0, second) ∷ []) → ⊥

-- pages that are owned, and shared ones, whatever map has these places
pub record PagesAreComputed : Type 0 where
  pub owned : (slots : BTreeMap ℕ (Option ℕ)) → slots.entries ≡ first → places_of (Owned slots) ≡ first
  pub shared : (slots : Arc (BTreeMap ℕ (Option ℕ)) ℕ) → slots.value.entries ≡ first → shelved slots ≡ first
  pub owns : (slots : BTreeMap ℕ (Option ℕ)) → slots.entries ≡ first → owns_place (Some (Owned slots)) 3 ≡ true
  pub owns_not : (slots : BTreeMap ℕ (Option ℕ)) → slots.entries ≡ first → owns_place (Some (Owned slots)) 2 ≡ false
  pub owns_nothing : owns_place {R = ℕ} None 3 ≡ false
  pub owned_there : (slots : BTreeMap ℕ (Option ℕ)) → slots.entries ≡ second
      → owned_at ((1, Owned slots) ∷ []) 300 ≡ true
  pub owned_elsewhere : (slots : BTreeMap ℕ (Option ℕ)) → slots.entries ≡ second
      → owned_at ((0, Owned slots) ∷ []) 300 ≡ false
  pub owned_births : (slots : BTreeMap ℕ (Option ℕ)) → slots.entries ≡ second
      → set.contains (owned_in ((1, Owned slots) ∷ [])) 300 ≡ true
