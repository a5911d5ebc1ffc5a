-- The rows of pages as a finite map, and the births in owned pages as a finite set.
use Rattle.std.proofs.Common.{◌≡◌, ◌||◌, ◌&&◌, ℕ, Bool, true, false, cond, List, [], ◌∷◌, Option, None, Some, is_some, IsSome, refl, sym, ap, ◌∙◌}
use Rattle.std.proofs.lemmas.List.Folds.{list_any-append}
use Rattle.std.specs.BTreeMap.{is_at}
use Rattle.std.specs.Cmp.{nat_cmp_total}
use Rattle.std.specs.FinMap as map
use Rattle.std.specs.FinMap.{get-from_entries, get-insert, get-remove, same_map, nat_cmp-IsAntisymmetric, find}
use Rattle.std.specs.FinSet as set
use Rattle.std.specs.FinSet.{contains-empty, contains-retain, contains-from_list, same_set}
use Rattle.std.specs.Map.{keys_of}
use Rattle.std.specs.Ordering.{nat_cmp, eq_by_cmp}
use Rattle.ecr_pages.specs.Rows.{page_of}
use Rattle.ecr_pages.specs.Places.{Places, at, row_in, has_place, places_of, owns_place, owned_at, held, row_at, births_in, entry_with, filled, rows_in, owned_in, is_one_of, has_row, AreInPages, KeepsRows}
use Rattle.ecr_pages.specs.declared.page.Page.{Page}
use Rattle.ecr_pages.specs.declared.page.Page.TheVariants.{Owned, Shared}
use Rattle.ecr_pages.proofs.Members.{any_of}
use Rattle.ecr_pages.proofs.Numbers.{no_way, tied_same, tied_back, or_left, or_right, covered, covered_test, some_flat, is_some-at}

-- ---- a map that is filled from a function

absent : {A : Type 0} (m : Bool) (o : Option A) → o ≡ None → cond m o None ≡ o
absent true o e = refl
absent false o e = sym e

found_same : {R : Type 0} (f : ℕ → Option R) (b q : ℕ) (o : Option R) → f b ≡ o → eq_by_cmp nat_cmp q b ≡ true → f q ≡ o
found_same f b q o is t = ap f (tied_same q b t) ∙ is

find-entry : {R : Type 0} (f : ℕ → Option R) (b q : ℕ) (entries : List (ℕ × R)) (m : Bool) (o : Option R) (t : Bool)
    → f b ≡ o → eq_by_cmp nat_cmp q b ≡ t → find nat_cmp q entries ≡ cond m (f q) None
    → find nat_cmp q (entry_with b o entries) ≡ cond (t || m) (f q) None
find-entry f b q entries m None true is t rest = rest ∙ absent m (f q) (found_same f b q None is t)
find-entry f b q entries m None false is t rest = rest
find-entry f b q entries m (Some r) true is t rest =
    ap (λ x. cond x (Some r) (find nat_cmp q entries)) t ∙ sym (found_same f b q (Some r) is t)
find-entry f b q entries m (Some r) false is t rest = ap (λ x. cond x (Some r) (find nat_cmp q entries)) t ∙ rest

pub find-filled : {R : Type 0} (f : ℕ → Option R) (births : List ℕ) (q : ℕ)
    → find nat_cmp q (filled f births) ≡ cond (is_one_of births q) (f q) None
find-filled f [] q = refl
find-filled f (b ∷ births) q =
    find-entry f b q (filled f births) (is_one_of births q) (f b) (eq_by_cmp nat_cmp q b) refl refl
    (find-filled f births q)

pub get-filled : {R : Type 0} (f : ℕ → Option R) (births : List ℕ)
    → ((q : ℕ) → is_some (f q) ≡ true → is_one_of births q ≡ true)
    → (q : ℕ) → map.get (map.from_entries {R = nat_cmp} (filled f births)) q ≡ f q
get-filled f births all q =
    get-from_entries nat_cmp_total (filled f births) q ∙ find-filled f births q
    ∙ covered (is_one_of births q) (f q) (all q)

-- ---- the births that have a place

pub covers : {R P : Type 0} (places : P → Places R) (book : List (ℕ × P)) (n q : ℕ)
    → has_place (held places (at book n)) q ≡ true → is_one_of (births_in places book) q ≡ true
covers places [] n q h = h
covers places (e ∷ book) n q h =
    list_any-append (eq_by_cmp nat_cmp q) (keys_of (places e.1)) (births_in places book)
    ∙ (elim (eq_by_cmp nat_cmp n e.0) as (λ t. has_place (held places (cond t (Some e.1) (at book n))) q ≡ true
    → (is_one_of (keys_of (places e.1)) q || is_one_of (births_in places book) q) ≡ true) [
      | true ↦ λ h. or_left _ _ (sym (is_some-at (places e.1) q) ∙ h)
      | false ↦ λ h. or_right _ _ (covers places book n q h)
    ]) h

pub get-rows : {R P : Type 0} (places : P → Places R) (book : List (ℕ × P)) (q : ℕ)
    → map.get (rows_in places book) q ≡ row_at places book q
unfolding rows_in
get-rows places book q =
    get-filled (row_at places book) (births_in places book)
    (λ b h. covers places book (page_of b) b (some_flat (at (held places (at book (page_of b))) b) h)) q

pub owns-has : {R : Type 0} (page : Option (Page R)) (q : ℕ) → owns_place page q ≡ true
    → has_place (held places_of page) q ≡ true
owns-has None q h = h
owns-has (Some (Owned slots)) q h = h
owns-has (Some (Shared slots)) q h = no_way (sym h)

pub contains-owned : {R : Type 0} (book : List (ℕ × Page R)) (q : ℕ) → set.contains (owned_in book) q ≡ owned_at book q
unfolding owned_in
contains-owned book q =
    contains-retain (set.from_list (births_in places_of book)) (owned_at book) q
    (λ x e. ap (owned_at book) (sym (nat_cmp-IsAntisymmetric q x e)))
    ∙ ap (λ b. b && owned_at book q) (contains-from_list nat_cmp_total (births_in places_of book) q)
    ∙ covered_test (is_one_of (births_in places_of book) q) (owned_at book q)
    (λ h. covers places_of book (page_of q) q (owns-has (at book (page_of q)) q h))

-- ---- what a change of the pages is to the views

pub same_rows : {R P Q : Type 0} (p : P → Places R) (q : Q → Places R) (old : List (ℕ × P)) (new : List (ℕ × Q))
    → ((b : ℕ) → row_at q new b ≡ row_at p old b) → rows_in q new ≡ rows_in p old
same_rows p q old new h =
    same_map nat_cmp_total nat_cmp-IsAntisymmetric _ _ (λ b. get-rows q new b ∙ h b ∙ sym (get-rows p old b))

pub same_owned : {R : Type 0} (old new : List (ℕ × Page R)) → ((b : ℕ) → owned_at new b ≡ owned_at old b)
    → owned_in new ≡ owned_in old
same_owned old new h =
    same_set nat_cmp_total nat_cmp-IsAntisymmetric _ _ (λ b. contains-owned new b ∙ h b ∙ sym (contains-owned old b))

pub none_owned : {R : Type 0} (new : List (ℕ × Page R)) → ((b : ℕ) → owned_at new b ≡ false) → owned_in new ≡ set.empty
none_owned new h =
    same_set nat_cmp_total nat_cmp-IsAntisymmetric _ _ (λ b. contains-owned new b ∙ h b
    ∙ sym (contains-empty nat_cmp b))

pub row_set : {R P : Type 0} (p : P → Places R) (old new : List (ℕ × P)) (birth : ℕ) (row : R)
    → ((q : ℕ) → row_at p new q ≡ cond (is_at (nat_cmp birth) q) (Some row) (row_at p old q))
    → rows_in p new ≡ map.insert (rows_in p old) birth row
row_set p old new birth row h =
    same_map nat_cmp_total nat_cmp-IsAntisymmetric _ _ (λ q.
    get-rows p new q ∙ h q ∙ ap (λ t. cond t (Some row) (row_at p old q)) (tied_back birth q)
    ∙ ap (cond (eq_by_cmp nat_cmp q birth) (Some row)) (sym (get-rows p old q))
    ∙ sym (get-insert nat_cmp_total (rows_in p old) birth row q))

pub row_removed : {R P : Type 0} (p : P → Places R) (old new : List (ℕ × P)) (birth : ℕ)
    → ((q : ℕ) → row_at p new q ≡ cond (is_at (nat_cmp birth) q) None (row_at p old q))
    → rows_in p new ≡ map.remove (rows_in p old) birth
row_removed p old new birth h =
    same_map nat_cmp_total nat_cmp-IsAntisymmetric _ _ (λ q.
    get-rows p new q ∙ h q ∙ ap (λ t. cond t None (row_at p old q)) (tied_back birth q)
    ∙ ap (cond (eq_by_cmp nat_cmp q birth) None) (sym (get-rows p old q))
    ∙ sym (get-remove nat_cmp_total (rows_in p old) birth q))

pub no_rows : {R P : Type 0} (p : P → Places R) → rows_in p [] ≡ map.empty
unfolding rows_in
no_rows p = refl

-- ---- one page that is written or given back

pub placed_written : {R : Type 0} (old new : List (ℕ × Page R)) (n : ℕ) (page after : Page R) → at old n ≡ Some page
    → (IsSome (at old n) → (m : ℕ) → at new m ≡ cond (is_at (nat_cmp n) m) (Some after) (at old m))
    → ((q : ℕ) → has_place (places_of after) q ≡ has_place (places_of page) q) → AreInPages places_of old
    → AreInPages places_of new
placed_written {R} old new n page after found is same placed m q h =
    let there : IsSome (at old n) = ap is_some found in
    (elim (eq_by_cmp nat_cmp n m) as (λ t. eq_by_cmp nat_cmp n m ≡ t
    → has_place (held places_of (cond t (Some after) (at old m))) q ≡ true → page_of q ≡ m) [
      | true ↦ λ t h. placed m q (ap (λ (k : ℕ). has_place (held places_of (at old k)) q) (sym (tied_same n m t))
          ∙ ap (λ (o : Option (Page R)). has_place (held places_of o) q) found ∙ sym (same q) ∙ h)
      | false ↦ λ t h. placed m q h
    ]) refl (ap (λ (o : Option (Page R)). has_place (held places_of o) q) (sym (is there m)) ∙ h)

pub none_row : {R : Type 0} (places : Places R) → has_row places ≡ false → (q : ℕ) → row_in places q ≡ None
none_row {R} places h q =
    (elim (row_in places q) as (λ o. row_in places q ≡ o → o ≡ None) [
      | None ↦ λ e. refl
      | Some r ↦ λ e. no_way (sym (any_of (λ birth. is_some (row_in places birth)) (keys_of places) q
          (sym (is_some-at places q) ∙ some_flat (at places q) (ap is_some e)) (ap is_some e)) ∙ h)
    ]) refl

pub keeps_dropped : {R : Type 0} (old new : List (ℕ × Page R)) (n : ℕ) → has_row (held places_of (at old n)) ≡ false
    → ((m : ℕ) → at new m ≡ cond (is_at (nat_cmp n) m) None (at old m)) → KeepsRows old new
keeps_dropped {R} old new n bare is = record {
  rows = λ m q.
      ap (λ (o : Option (Page R)). row_in (held places_of o) q) (is m)
      ∙ (elim (eq_by_cmp nat_cmp n m) as (λ t. eq_by_cmp nat_cmp n m ≡ t
      → row_in (held places_of (cond t None (at old m))) q ≡ row_in (held places_of (at old m)) q) [
        | true ↦ λ t. sym (none_row (held places_of (at old m))
            (ap (λ (k : ℕ). has_row (held places_of (at old k))) (sym (tied_same n m t)) ∙ bare) q)
        | false ↦ λ t. refl
      ]) refl;
  places = λ m q h.
      (elim (eq_by_cmp nat_cmp n m) as (λ t. has_place (held places_of (cond t None (at old m))) q ≡ true
      → has_place (held places_of (at old m)) q ≡ true) [
        | true ↦ λ h. no_way (sym h)
        | false ↦ λ h. h
      ]) (ap (λ (o : Option (Page R)). has_place (held places_of o) q) (sym (is m)) ∙ h);
}

-- a page that is written over another with the same places
pub keeps_written : {R : Type 0} (old new : List (ℕ × Page R)) (n : ℕ) (page after : Page R) → at old n ≡ Some page
    → (IsSome (at old n) → (m : ℕ) → at new m ≡ cond (is_at (nat_cmp n) m) (Some after) (at old m))
    → places_of after ≡ places_of page → KeepsRows old new
keeps_written {R} old new n page after found is same =
    let held_same : (m : ℕ) → held places_of (at new m) ≡ held places_of (at old m) = λ m.
    ap (held places_of) (is (ap is_some found) m)
    ∙ (elim (eq_by_cmp nat_cmp n m) as (λ t. eq_by_cmp nat_cmp n m ≡ t
    → held places_of (cond t (Some after) (at old m)) ≡ held places_of (at old m)) [
      | true ↦ λ t. same ∙ ap (held places_of) (sym found ∙ ap (at old) (tied_same n m t))
      | false ↦ λ t. refl
    ]) refl in
    record {
      rows = λ m q. ap (λ (ps : Places R). row_in ps q) (held_same m);
      places = λ m q h. ap (λ (ps : Places R). has_place ps q) (sym (held_same m)) ∙ h;
    }
