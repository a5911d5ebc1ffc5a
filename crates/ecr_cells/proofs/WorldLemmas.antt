-- The laws of the cells of all sites.
use Rattle.std.proofs.Common.{◌≡◌, ◌+◌, ℕ, true, false, List, [], Option, None, Some, is_some, IfSome, IsSome, All, Contains, if◌then◌else◌, Result, Ok, Err, OnErr, refl, sym, ap, ◌∙◌, subst, ⊎_elim}
use Rattle.std.specs.BTreeMap.{is_at}
use Rattle.std.specs.Option.{option_map_or}
use Rattle.std.specs.Ordering.{is_eq}
use Rattle.std.proofs.Math.Path.{fun_ext}
use Rattle.std.proofs.lemmas.Bool.{cases_Bool, cond_both, cond-true}
use Rattle.std.proofs.lemmas.Option.{IfSome_then}
use Rattle.std.proofs.lemmas.List.Elements.{All-contains, All-weaker}
use Rattle.ecr_model.specs.declared.registry.journal.CellKey.{CellKey}
use Rattle.ecr_model.specs.declared.registry.journal.CellKey.TheVariants.{Directory, Repository}
use Rattle.ecr_model.specs.declared.registry.journal.Entry.{Entry}
use Rattle.ecr_model.specs.declared.registry.journal.Limits.{Limits}
use Rattle.ecr_model.specs.declared.registry.journal.Line.{Line}
use Rattle.ecr_model.specs.declared.registry.journal.Place.{Place}
use Rattle.ecr_model.specs.declared.names.SiteId.{SiteId}
use Rattle.ecr_model.specs.registry.Journals.{past}
use Rattle.ecr_model.specs.registry.Scripts.{Ask, Told, Realm, World, Turned, same_cell, same_key, with_lines, lines_after, place_of, parts_after, parts_left, is_uploading, fresh, entered, next_turn, entry_count}
use Rattle.ecr_model.specs.names.Sites.{site_order}
use Rattle.ecr_model.specs.registry.Soundness.{IsSoundIn, AreSound}
use Rattle.ecr_model.specs.registry.Steps.{replayed_repository}
use Rattle.ecr_model.proofs.lemmas.registry.CellLemmas.{is_eq-site_order, same_site-self, same_site-same}
use Rattle.ecr_model.proofs.lemmas.registry.SoundnessLemmas.{same_cell-same, sound-empty, sound-entered}
use Rattle.ecr_cells.specs.SiteCells.{Site, lines_of_cell, site_of_cell, realm_of, turn_after, IsSame}
use Rattle.ecr_cells.specs.Desks.{site_at, lines_at, world_of, IsOfSite, AreKept, HasCells, empty_site, AreEmpty, Adds, Changes, Turns, Rests, Took, still_state_of}

-- ---- cells and sites

-- sites of the same place in their order are the same
pub site-same : (a b : SiteId) → is_eq (site_order a b) ≡ true → a ≡ b
site-same a b is = same_site-same a b (sym (is_eq-site_order a b) ∙ is)

-- a site is at its own place in their order
pub site-self : (a : SiteId) → is_eq (site_order a a) ≡ true
site-self a = is_eq-site_order a a ∙ same_site-self a

-- ---- journals

lines_at-before : (sites news : List (SiteId × Site)) (cell : CellKey) (before after : Site)
    → Changes sites news (site_of_cell cell) before after → lines_at sites cell ≡ lines_of_cell before cell
lines_at-before sites news cell before after changes =
    ap (λ o. option_map_or (λ (kept : Site). lines_of_cell kept cell) o []) changes.was

lines_at-after : (sites news : List (SiteId × Site)) (cell : CellKey) (before after : Site)
    → Changes sites news (site_of_cell cell) before after → lines_at news cell ≡ lines_of_cell after cell
lines_at-after sites news cell before after changes =
    ap (λ o. option_map_or (λ (kept : Site). lines_of_cell kept cell) o [])
    (changes.updates (site_of_cell cell) ∙ cond-true (is_at (site_order (site_of_cell cell)) (site_of_cell cell))
    (Some after)
    (site_at sites (site_of_cell cell)) (site-self (site_of_cell cell)))

-- a journal is as before where it is of another site, or its site has it as before
lines_at-others : (sites news : List (SiteId × Site)) (site : SiteId) (before after : Site)
    → Changes sites news site before after
    → (other : CellKey) → (site_of_cell other ≡ site → lines_of_cell after other ≡ lines_of_cell before other)
    → lines_at news other ≡ lines_at sites other
lines_at-others sites news site before after changes other same_lines =
    let of : Option Site → List Line = λ o. option_map_or (λ (kept : Site). lines_of_cell kept other) o [] in
    ap of (changes.updates (site_of_cell other))
    ∙ cond_both (is_at (site_order site) (site_of_cell other)) (Some after) (site_at sites (site_of_cell other))
    (λ (o : Option Site). of o ≡ lines_at sites other)
    (λ same. let there : site ≡ site_of_cell other = site-same site (site_of_cell other) same in
    same_lines (sym there) ∙ sym (ap of (ap (site_at sites) (sym there) ∙ changes.was)))
    (λ apart. refl)

world_of-same : (sites news : List (SiteId × Site)) → ((cell : CellKey) → lines_at news cell ≡ lines_at sites cell)
    → world_of news ≡ world_of sites
world_of-same sites news same = ap (λ j. record { journals = j; parts = λ key number. [] }) (fun_ext same)

-- a change of no journal leaves the world
pub world_of-rests : (sites news : List (SiteId × Site)) (site : SiteId) → Rests sites news site
    → world_of news ≡ world_of sites
world_of-rests sites news site rests =
    world_of-same sites news
    (λ cell. lines_at-others sites news site rests.before rests.after rests.changes cell
    (λ there. rests.quiet.lines cell))

-- a desk on which no turn was made is seen as before
pub still_state_of-rests : (served : List SiteId) (limits : Limits) (sites news : List (SiteId × Site)) (made : ℕ)
    (site : SiteId) → Rests sites news site
    → still_state_of (record { served = served; limits = limits; sites = news; made = made }) ≡ still_state_of
    (record { served = served; limits = limits; sites = sites; made = made })
still_state_of-rests served limits sites news made site rests =
    ap (λ w. record { realm = record { served = served; limits = limits }; world = w; made = made })
    (world_of-rests sites news site rests)

-- where no journal has a line, the world is the first one
pub world_of-fresh : (sites : List (SiteId × Site)) → ((cell : CellKey) → lines_at sites cell ≡ [])
    → world_of sites ≡ fresh
unfolding fresh
world_of-fresh sites empty = ap (λ j. record { journals = j; parts = λ key number. [] }) (fun_ext empty)

-- of no parts none are left
no_parts : (limits : Limits) (cell : CellKey) (lines : List Line)
    → parts_after limits cell lines (λ key number. []) ≡ (λ key number. [])
unfolding parts_after
no_parts limits (Directory site) lines = refl
no_parts limits (Repository key) lines = fun_ext (λ k. fun_ext (λ number.
    cond_both (same_key key k) (parts_left (replayed_repository key limits lines) (λ n. [])) (λ n. [])
    (λ (parts : ℕ → List (List ℕ)). parts number ≡ [])
    (λ yes. cond_both (is_uploading number (replayed_repository key limits lines)) [] []
    (λ (ps : List (List ℕ)). ps ≡ [])
    (λ y. refl) (λ n. refl))
    (λ differs. refl)))

-- the entry is added to that cell alone
world_of-entered : (realm : Realm) (sites news : List (SiteId × Site)) (cell : CellKey) (entry : Option Entry)
    → lines_at news cell ≡ lines_after 0 (past (lines_at sites cell)) (lines_at sites cell) entry
    → ((other : CellKey) → same_cell cell other ≡ false → lines_at news other ≡ lines_at sites other)
    → world_of news ≡ entered realm (world_of sites) cell entry
unfolding entered with_lines
world_of-entered realm sites news cell None there others = world_of-same sites news
    (λ other. ⊎_elim (λ yes. subst (λ (c : CellKey). lines_at news c ≡ lines_at sites c)
    (same_cell-same cell other yes) there) (λ differs. others other differs)
    (cases_Bool (same_cell cell other)))
world_of-entered realm sites news cell (Some entry) there others =
    let lines : List Line = lines_after 0 (past (lines_at sites cell)) (lines_at sites cell) (Some entry) in
    ap (λ j. record { journals = j; parts = λ key number. [] })
    (fun_ext (λ other.
    cond_both (same_cell cell other) lines (lines_at sites other) (λ (ls : List Line). lines_at news other ≡ ls)
    (λ yes. subst (λ (c : CellKey). lines_at news c ≡ lines) (same_cell-same cell other yes) there)
    (λ differs. others other differs)))
    ∙ ap (λ p. record { journals = with_lines (lines_at sites) cell lines; parts = p })
    (sym (no_parts realm.limits cell lines))

-- ---- the cells of each site

-- the cells of a site are its own
pub IsOfSite-at : (served : List SiteId) (limits : Limits) (sites : List (SiteId × Site)) (site : SiteId) (own : Site)
    → AreKept served limits sites → site_at sites site ≡ Some own → IsOfSite served limits site own
IsOfSite-at served limits sites site own kept found =
    subst (λ (o : Option Site). IfSome o (IsOfSite served limits site)) found (kept.each site)

-- the next turn in a cell is the one that its site makes
next_turn-turns : (served : List SiteId) (limits : Limits) (sites news : List (SiteId × Site)) (cell : CellKey)
    (ask : Ask) (told : Told) (place : Place)
    → AreKept served limits sites → (turns : Turns sites news cell ask told place)
    → turn_after (realm_of turns.before.directory) cell (lines_of_cell turns.before cell) ask
    ≡ next_turn (record { served = served; limits = limits }) (world_of sites) cell ask
next_turn-turns served limits sites news cell ask told place kept turns =
    let before = turns.before in
    let realm : Realm = record { served = served; limits = limits } in
    let own : IsOfSite served limits (site_of_cell cell) before =
    IsOfSite-at served limits sites (site_of_cell cell) before kept turns.changes.was in
    let lines : lines_at sites cell ≡ lines_of_cell before cell =
    lines_at-before sites news cell before turns.after turns.changes in
    ap (λ s. turn_after (record { served = s; limits = before.directory.limits }) cell
    (lines_of_cell before cell) ask) own.served_are
    ∙ ap (λ l. turn_after (record { served = served; limits = l }) cell (lines_of_cell before cell) ask) own.limits_are
    ∙ ap (λ ls. turn_after realm cell ls ask) (sym lines)

-- it leaves the world with its entry
world_of-turns : (served : List SiteId) (limits : Limits) (sites news : List (SiteId × Site)) (cell : CellKey)
    (ask : Ask) (told : Told) (place : Place)
    → AreKept served limits sites → Turns sites news cell ask told place
    → world_of news ≡ entered (record { served = served; limits = limits }) (world_of sites) cell
    (next_turn (record { served = served; limits = limits }) (world_of sites) cell ask).entry
world_of-turns served limits sites news cell ask told place kept turns =
    let before = turns.before in
    let realm : Realm = record { served = served; limits = limits } in
    let own : IsOfSite served limits (site_of_cell cell) before =
    IsOfSite-at served limits sites (site_of_cell cell) before kept turns.changes.was in
    let lines : lines_at sites cell ≡ lines_of_cell before cell =
    lines_at-before sites news cell before turns.after turns.changes in
    let same : turn_after (realm_of before.directory) cell (lines_of_cell before cell) ask ≡ next_turn realm
    (world_of sites) cell ask =
    next_turn-turns served limits sites news cell ask told place kept turns in
    let turned : Turned = next_turn realm (world_of sites) cell ask in
    world_of-entered realm sites news cell turned.entry
    (lines_at-after sites news cell before turns.after turns.changes
    ∙ turns.turn.entered
    ∙ ap (λ t. lines_after 0 (past (lines_of_cell before cell)) (lines_of_cell before cell) t.entry) same
    ∙ ap (λ ls. lines_after 0 (past ls) ls turned.entry) (sym lines))
    (λ other apart. lines_at-others sites news (site_of_cell cell) before turns.after turns.changes other
    (λ there. turns.turn.others other apart (there ∙ sym own.site_is)))

-- the cells of each site are its own after a change of one
each_after : (served : List SiteId) (limits : Limits) (sites news : List (SiteId × Site)) (site : SiteId)
    (before after : Site)
    → AreKept served limits sites → Changes sites news site before after → IsSame before.directory after.directory
    → (other : SiteId) → IfSome (site_at news other) (IsOfSite served limits other)
each_after served limits sites news site before after kept changes same other =
    let was = IsOfSite-at served limits sites site before kept changes.was in
    let is : IsOfSite served limits site after = record {
      site_is = same.site ∙ was.site_is;
      served_are = same.served ∙ was.served_are;
      limits_are = same.limits ∙ was.limits_are;
    } in
    subst (λ (o : Option Site). IfSome o (IsOfSite served limits other)) (sym (changes.updates other))
    (cond_both (is_at (site_order site) other) (Some after) (site_at sites other)
    (λ (o : Option Site). IfSome o (IsOfSite served limits other))
    (λ there. subst (λ (s : SiteId). IsOfSite served limits s after) (site-same site other there) is)
    (λ apart. kept.each other))

-- each served site has cells after it
all_after : (served : List SiteId) (limits : Limits) (sites news : List (SiteId × Site)) (site : SiteId)
    (before after : Site)
    → AreKept served limits sites → Changes sites news site before after → All (λ s. IsSome (site_at news s)) served
all_after served limits sites news site before after kept changes =
    All-weaker (λ s. IsSome (site_at sites s)) (λ s. IsSome (site_at news s))
    (λ other some. subst (λ (o : Option Site). IsSome o) (sym (changes.updates other))
    (cond_both (is_at (site_order site) other) (Some after) (site_at sites other) (λ (o : Option Site). IsSome o)
    (λ there. refl) (λ apart. some)))
    served kept.all

-- the cells are kept after a turn
pub AreKept-turns : (served : List SiteId) (limits : Limits) (sites news : List (SiteId × Site)) (cell : CellKey)
    (ask : Ask) (told : Told) (place : Place)
    → AreKept served limits sites → Turns sites news cell ask told place → AreKept served limits news
AreKept-turns served limits sites news cell ask told place kept turns =
    let realm : Realm = record { served = served; limits = limits } in
    record {
      each = each_after served limits sites news
          (site_of_cell cell) turns.before turns.after kept turns.changes turns.turn.same;
      all = all_after served limits sites news (site_of_cell cell) turns.before turns.after kept turns.changes;
      sound = subst (λ (w : World). AreSound realm w.journals)
          (sym (world_of-turns served limits sites news cell ask told place kept turns))
          (sound-entered realm (world_of sites) cell ask kept.sound);
    }

-- the cells are kept where no turn was made
pub AreKept-rests : (served : List SiteId) (limits : Limits) (sites news : List (SiteId × Site)) (site : SiteId)
    → AreKept served limits sites → Rests sites news site → AreKept served limits news
AreKept-rests served limits sites news site kept rests = record {
  each = each_after served limits sites news site rests.before rests.after kept rests.changes rests.quiet.same;
  all = all_after served limits sites news site rests.before rests.after kept rests.changes;
  sound = subst (λ (w : World). AreSound (record { served = served; limits = limits }) w.journals)
      (sym (world_of-rests sites news site rests)) kept.sound;
}

-- a served site has cells
pub HasCells-kept : (served : List SiteId) (limits : Limits) (sites : List (SiteId × Site)) (site : SiteId)
    → AreKept served limits sites → Contains served site → HasCells sites site
HasCells-kept served limits sites site kept there =
    found served limits sites site (site_at sites site) refl
    (All-contains (λ s. IsSome (site_at sites s)) served site kept.all there) (kept.each site) where
      found : (served : List SiteId) (limits : Limits) (sites : List (SiteId × Site)) (site : SiteId) (o : Option Site)
          → site_at sites site ≡ o → IsSome o → IfSome o (IsOfSite served limits site) → HasCells sites site
      found served limits sites site None is some each = cc
      found served limits sites site (Some kept) is some each =
          record { kept = kept; found = is; site_is = each.site_is }

-- ---- sites with no name

-- sites without a name stay so where another one is added
pub AreEmpty-adds : (served : List SiteId) (limits : Limits) (sites news : List (SiteId × Site)) (site : SiteId)
    → AreEmpty served limits sites → Adds sites news site served limits → AreEmpty served limits news
AreEmpty-adds served limits sites news site empty adds other =
    subst (λ (o : Option Site). IfSome o (λ kept. kept ≡ empty_site served limits other)) (sym (adds other))
    (cond_both (is_at (site_order site) other) (Some (empty_site served limits site)) (site_at sites other)
    (λ (o : Option Site). IfSome o (λ kept. kept ≡ empty_site served limits other))
    (λ there. ap (empty_site served limits) (site-same site other there))
    (λ apart. empty other))

-- a site that has cells keeps them, and the site that is added has some
pub IsSome-adds : (served : List SiteId) (limits : Limits) (sites news : List (SiteId × Site)) (site : SiteId)
    → Adds sites news site served limits → (other : SiteId) → IsSome (site_at sites other)
    → IsSome (site_at news other)
IsSome-adds served limits sites news site adds other some =
    subst (λ (o : Option Site). IsSome o) (sym (adds other))
    (cond_both (is_at (site_order site) other) (Some (empty_site served limits site)) (site_at sites other)
    (λ (o : Option Site). IsSome o) (λ there. refl) (λ apart. some))

-- a site that is added has cells
pub IsSome-added : (served : List SiteId) (limits : Limits) (sites news : List (SiteId × Site)) (site : SiteId)
    → Adds sites news site served limits → IsSome (site_at news site)
IsSome-added served limits sites news site adds =
    ap is_some (adds site ∙ cond-true (is_at (site_order site) site) (Some (empty_site served limits site))
    (site_at sites site) (site-self site))

-- no journal has a line
lines_at-empty : (served : List SiteId) (limits : Limits) (sites : List (SiteId × Site))
    → AreEmpty served limits sites → (cell : CellKey) → lines_at sites cell ≡ []
lines_at-empty served limits sites empty cell =
    nothing served limits cell (site_at sites (site_of_cell cell)) (empty (site_of_cell cell)) where
      of_empty : (served : List SiteId) (limits : Limits) (site : SiteId) (cell : CellKey)
          → lines_of_cell (empty_site served limits site) cell ≡ []
      of_empty served limits site (Directory s) = refl
      of_empty served limits site (Repository key) = refl

      nothing : (served : List SiteId) (limits : Limits) (cell : CellKey) (o : Option Site)
          → IfSome o (λ kept. kept ≡ empty_site served limits (site_of_cell cell))
          → option_map_or (λ (kept : Site). lines_of_cell kept cell) o [] ≡ []
      nothing served limits cell None is = refl
      nothing served limits cell (Some kept) is =
          ap (λ (w : Site). lines_of_cell w cell) is ∙ of_empty served limits (site_of_cell cell) cell

-- the cells of served sites without a name are kept
pub AreKept-empty : (served : List SiteId) (limits : Limits) (sites : List (SiteId × Site))
    → AreEmpty served limits sites → All (λ site. IsSome (site_at sites site)) served → AreKept served limits sites
AreKept-empty served limits sites empty all = record {
  each = λ site. IfSome_then (site_at sites site) (empty site)
      (λ kept is. record {
        site_is = ap (λ w. w.directory.site) is;
        served_are = ap (λ w. w.directory.served) is;
        limits_are = ap (λ w. w.directory.limits) is;
      });
  all = all;
  sound = λ cell. subst (λ (ls : List Line). IsSoundIn (record { served = served; limits = limits }) cell ls)
      (sym (lines_at-empty served limits sites empty cell))
      (sound-empty (record { served = served; limits = limits }) cell);
}

-- sites without a name have the journals of a fresh registry
pub world_of-empty : (served : List SiteId) (limits : Limits) (sites : List (SiteId × Site))
    → AreEmpty served limits sites → world_of sites ≡ fresh
world_of-empty served limits sites empty = world_of-fresh sites (lines_at-empty served limits sites empty)

-- ---- turns

entry_count-is : (entry : Option Entry) → entry_count entry ≡ (if is_some entry then 1 else 0)
entry_count-is None = refl
entry_count-is (Some entry) = refl

-- a turn in the cells is the desk's turn, with its entry counted
pub Took-turns : (served : List SiteId) (limits : Limits) (sites news : List (SiteId × Site)) (made counted : ℕ)
    (cell : CellKey) (ask : Ask) (told : Told) (place : Place)
    → AreKept served limits sites → Turns sites news cell ask told place
    → counted ≡ made + (if place.changed then 1 else 0)
    → Took
    (record { realm = record { served = served; limits = limits }; world = world_of sites; made = made })
    (record { realm = record { served = served; limits = limits }; world = world_of news; made = counted })
    cell ask told place
Took-turns served limits sites news made counted cell ask told place kept turns counts =
    let before = turns.before in
    let realm : Realm = record { served = served; limits = limits } in
    let lines : lines_at sites cell ≡ lines_of_cell before cell =
    lines_at-before sites news cell before turns.after turns.changes in
    let same : turn_after (realm_of before.directory) cell (lines_of_cell before cell) ask ≡ next_turn realm
    (world_of sites) cell ask =
    next_turn-turns served limits sites news cell ask told place kept turns in
    let turned : Turned = next_turn realm (world_of sites) cell ask in
    let placed : place ≡ place_of cell (past (lines_at sites cell)) turned =
    turns.turn.placed
    ∙ ap (λ t. place_of cell (past (lines_of_cell before cell)) t) same
    ∙ ap (λ ls. place_of cell (past ls) turned) (sym lines) in
    record {
      realm_stays = refl;
      told_is = turns.turn.told_is ∙ ap (λ t. t.told) same;
      placed = placed;
      left = world_of-turns served limits sites news cell ask told place kept turns;
      counted = counts ∙ ap (λ p. made + (if p.changed then 1 else 0)) placed
          ∙ sym (ap (λ n. made + n) (entry_count-is turned.entry));
    }

-- ---- results

-- a fact holds after an `Err` where it holds at all
pub on_err_any : {T E P : Type 0} (r : Result T E) → P → OnErr r P
on_err_any (Ok x) p = tt
on_err_any (Err e) p = p
