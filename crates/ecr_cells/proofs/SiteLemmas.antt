-- The laws of a site's cells.
use Rattle.std.proofs.Common.{◌≡◌, ◌+◌, ℕ, suc, true, false, List, [], ◌∷◌, ◌++◌, length, Option, None, Some, IfSome, refl, sym, ap, ◌∙◌, subst, arith, length-append, bytes_eq}
use Rattle.std.specs.BTreeMap.{is_at}
use Rattle.std.specs.Option.{option_map_or}
use Rattle.std.specs.Ordering.{is_eq}
use Rattle.std.proofs.lemmas.Bool.{both_ways, cond_both, cond-true, and_from}
use Rattle.std.proofs.lemmas.Slice.Eq.{bytes_eq-Decides}
use Rattle.ecr_model.specs.declared.registry.journal.CellKey.{CellKey}
use Rattle.ecr_model.specs.declared.registry.journal.CellKey.TheVariants.{Directory, Repository}
use Rattle.ecr_model.specs.declared.registry.journal.Entry.{Entry}
use Rattle.ecr_model.specs.declared.registry.journal.Limits.{Limits}
use Rattle.ecr_model.specs.declared.registry.journal.Line.{Line}
use Rattle.ecr_model.specs.declared.registry.journal.Place.{Place}
use Rattle.ecr_model.specs.declared.names.Name.{Name}
use Rattle.ecr_model.specs.declared.names.RepoKey.{RepoKey}
use Rattle.ecr_model.specs.declared.names.SiteId.{SiteId}
use Rattle.ecr_model.specs.registry.Directories.{name_order}
use Rattle.ecr_model.specs.registry.Journals.{past, past_from}
use Rattle.ecr_model.specs.requests.Requests.{key_at}
use Rattle.ecr_model.specs.registry.Scripts.{Ask, Told, Turned, turn_at, repository_turn, lines_after, place_of, same_cell, same_key, same_site}
use Rattle.ecr_model.proofs.lemmas.registry.CellLemmas.{is_eq-name_order, same_site-self}
use Rattle.ecr_repo.specs.States.{State}
use Rattle.ecr_site.specs.States.{SiteJournal}
use Rattle.ecr_cells.specs.declared.deed.Done.{Done}
use Rattle.ecr_cells.specs.Deeds.{changes, told_of}
use Rattle.ecr_cells.specs.SiteCells.{Site, state_of_name, lines_of_name, lines_of_cell, IsOfName, AreOfSite, Puts, site_of_cell, realm_of, turn_after, IsNextTurn, IsQuiet, IsTurn}
use Rattle.ecr_cells.specs.Turns.{turn_in_directory, turn_in_repository, IsDirectoryTurn}

-- ---- the numbers of the tickets

past_from-push : (low : ℕ) (lines : List Line) (line : Line) → past_from low (lines ++ line ∷ []) ≡ suc line.ticket
past_from-push low [] line = refl
past_from-push low (l ∷ ls) line = past_from-push (suc l.ticket) ls line

-- a turn keeps the tickets at 0, 1, 2, ..
pub numbered-after : (lines : List Line) (entry : Option Entry) → past lines ≡ length lines
    → past (lines_after 0 (past lines) lines entry) ≡ length (lines_after 0 (past lines) lines entry)
numbered-after lines None numbered = numbered
numbered-after lines (Some entry) numbered =
    let line : Line = record { ticket = past lines; caller = 0; entry = entry } in
    let long : length (lines ++ line ∷ []) ≡ length lines + 1 = length-append lines (line ∷ []) in
    let last : past (lines ++ line ∷ []) ≡ suc (past lines) = past_from-push 0 lines line in
    omega (arith, long, last, numbered)

-- ---- names

bytes_eq-self : (a : List ℕ) → bytes_eq a a ≡ true
bytes_eq-self a = (bytes_eq-Decides a a).1 refl

-- names of the same place in their order are the same
pub name-same : (a b : Name) → is_eq (name_order a b) ≡ true → a ≡ b
name-same a b is =
    let same : a.text ≡ b.text = (bytes_eq-Decides a.text b.text).0 (sym (is_eq-name_order a b) ∙ is) in
    ap (λ t. record { text = t }) same

-- a name is at its own place in their order
pub name-self : (a : Name) → is_eq (name_order a a) ≡ true
name-self a = is_eq-name_order a a ∙ bytes_eq-self a.text

-- ---- repositories

-- the states of a site stay its own where a name gets a state of its own
pub AreOfSite-put : (limits : Limits) (d : SiteJournal) (repositories news : List (Name × State)) (name : Name)
    (state : State)
    → AreOfSite limits d repositories → IsOfName d name state → Puts repositories news name state
    → AreOfSite limits d news
AreOfSite-put limits d repositories news name state held is puts = record {
  limited = held.limited;
  numbered = held.numbered;
  named = λ q. subst (λ (o : Option State). IfSome o (IsOfName d q)) (sym (puts q))
      (cond_both (is_at (name_order name) q) (Some state) (state_of_name repositories q)
      (λ (o : Option State). IfSome o (IsOfName d q))
      (λ same. subst (λ (n : Name). IsOfName d n state) (name-same name q same) is)
      (λ apart. held.named q));
}

-- a state with the journal that was read before changes no journal
pub IsQuiet-put : (d : SiteJournal) (repositories news : List (Name × State)) (name : Name) (state : State)
    → lines_of_name repositories name ≡ state.journal → Puts repositories news name state
    → IsQuiet (record { directory = d; repositories = repositories }) (record { directory = d; repositories = news })
IsQuiet-put d repositories news name state is puts = record {
  same = record { site = refl; served = refl; limits = refl };
  lines = quiet d repositories news name state is puts;
} where
  quiet : (d : SiteJournal) (repositories news : List (Name × State)) (name : Name) (state : State)
      → lines_of_name repositories name ≡ state.journal → Puts repositories news name state
      → (cell : CellKey) → lines_of_cell (record { directory = d; repositories = news }) cell ≡ lines_of_cell
      (record { directory = d; repositories = repositories }) cell
  quiet d repositories news name state is puts (Directory site) = refl
  quiet d repositories news name state is puts (Repository key) =
      let of : Option State → List Line = λ o. option_map_or (λ (r : State). r.journal) o [] in
      ap of (puts key.name)
      ∙ cond_both (is_at (name_order name) key.name) (Some state) (state_of_name repositories key.name)
      (λ (o : Option State). of o ≡ lines_of_name repositories key.name)
      (λ same. sym is ∙ ap (lines_of_name repositories) (name-same name key.name same))
      (λ apart. refl)

-- ---- turns in a directory

-- with another journal of the directory, each state is that of its name as before
pub AreOfSite-entered : (limits : Limits) (d : SiteJournal) (repositories : List (Name × State)) (entry : Option Entry)
    → AreOfSite limits d repositories → AreOfSite limits
    (record d { journal = lines_after 0 (past d.journal) d.journal entry }) repositories
AreOfSite-entered limits d repositories entry held = record {
  limited = held.limited;
  numbered = numbered-after d.journal entry held.numbered;
  named = λ name. moved d (lines_after 0 (past d.journal) d.journal entry) name (state_of_name repositories name)
      (held.named name);
} where
  moved : (d : SiteJournal) (journal : List Line) (name : Name) (o : Option State) → IfSome o (IsOfName d name)
      → IfSome o (IsOfName (record d { journal = journal }) name)
  moved d journal name None is = is
  moved d journal name (Some state) is = record { key = is.key; limits = is.limits; numbered = is.numbered }

-- after the next turn in the directory too
pub AreOfSite-turned : (limits : Limits) (d after : SiteJournal) (repositories : List (Name × State)) (ticket : ℕ)
    (ask : Ask) (x : Done)
    → AreOfSite limits d repositories → past d.journal ≡ ticket → IsDirectoryTurn d after ticket 0 ask x
    → AreOfSite limits after repositories
AreOfSite-turned limits d after repositories ticket ask x are is turn =
    let next : IsDirectoryTurn d after (past d.journal) 0 ask x =
    subst (λ (n : ℕ). IsDirectoryTurn d after n 0 ask x) (sym is) turn in
    subst (λ (j : SiteJournal). AreOfSite limits j repositories) (sym next.left)
    (AreOfSite-entered limits d repositories (turn_in_directory d (past d.journal) ask).entry are)

-- a turn of the directory is one of the site, where the repositories stay
pub IsTurn-directory : (before after : Site) (id : SiteId) (ticket : ℕ) (ask : Ask) (d : Done) (place : Place)
    → past before.directory.journal ≡ ticket → before.directory.site ≡ id
    → IsDirectoryTurn before.directory after.directory ticket 0 ask d
    → place ≡ record { cell = Directory id; ticket = ticket; changed = changes d }
    → after.repositories ≡ before.repositories
    → IsTurn before after (Directory id) ask (told_of d) place
unfolding turn_at
IsTurn-directory before after id ticket ask d place is at turn placed others_are =
    let directory : SiteJournal = before.directory in
    let lines : List Line = directory.journal in
    let next : IsDirectoryTurn directory after.directory (past lines) 0 ask d =
    subst (λ (n : ℕ). IsDirectoryTurn directory after.directory n 0 ask d) (sym is) turn in
    let same : turn_in_directory directory (past lines) ask ≡ turn_after (realm_of directory)
    (Directory id) lines ask =
    ap (λ s. turn_in_directory (record directory { site = s }) (past lines) ask) at in
    record {
      same = record {
        site = ap (λ j. j.site) next.left;
        served = ap (λ j. j.served) next.left;
        limits = ap (λ j. j.limits) next.left;
      };
      told_is = next.told_is ∙ ap (λ t. t.told) same;
      placed = placed
          ∙ ap (λ n. record { cell = Directory id; ticket = n; changed = changes d }) (sym is)
          ∙ ap (λ b. record { cell = Directory id; ticket = past lines; changed = b }) next.changes_is
          ∙ ap (λ t. place_of (Directory id) (past lines) t) same;
      entered = ap (λ j. j.journal) next.left ∙ ap (λ t. lines_after 0 (past lines) lines t.entry) same;
      others = others before after id at others_are;
    } where
      others : (before after : Site) (id : SiteId) → before.directory.site ≡ id
          → after.repositories ≡ before.repositories
          → (other : CellKey) → same_cell (Directory id) other ≡ false → site_of_cell other ≡ before.directory.site
          → lines_of_cell after other ≡ lines_of_cell before other
      others before after id at others_are (Directory q) apart there =
          let same : same_site id q ≡ true = ap (same_site id) (there ∙ at) ∙ same_site-self id in
          absurd (both_ways (same_site id q) apart same)
      others before after id at others_are (Repository key) apart there =
          ap (λ rs. lines_of_name rs key.name) others_are

-- ---- turns in a repository

-- a name that was never used has this state
pub IsOfName-new : (d : SiteJournal) (key : RepoKey) (limits : Limits) (state : State) → limits ≡ d.limits
    → d.site ≡ key.site
    → state ≡ record { key = key; limits = limits; journal = [] } → IsOfName d key.name state
IsOfName-new d key limits state same at is = record {
  key = ap (λ s. s.key) is ∙ ap (λ s. key_at s key.name) (sym at);
  limits = ap (λ s. s.limits) is ∙ same;
  numbered = ap (λ s. past s.journal) is ∙ ap (λ s. length s.journal) (sym is);
}

-- a name without a state has an empty journal
pub lines_of_name-none : (repositories : List (Name × State)) (name : Name) → state_of_name repositories name ≡ None
    → lines_of_name repositories name ≡ []
lines_of_name-none repositories name absent = ap (λ o. option_map_or (λ (r : State). r.journal) o []) absent

-- a name with a state has that state's journal
pub lines_of_name-some : (repositories : List (Name × State)) (name : Name) (state : State)
    → state_of_name repositories name ≡ Some state → lines_of_name repositories name ≡ state.journal
lines_of_name-some repositories name state found = ap (λ o. option_map_or (λ (r : State). r.journal) o []) found

-- a turn of a name's state is one of the site, where only that state changes
pub IsTurn-repository : (d : SiteJournal) (repositories news : List (Name × State)) (key : RepoKey)
    (state after : State) (ask : Ask) (told : Told) (place : Place)
    → d.site ≡ key.site → lines_of_name repositories key.name ≡ state.journal → IsOfName d key.name state
    → Puts repositories news key.name after
    → IsNextTurn state after ask told place
    → IsTurn (record { directory = d; repositories = repositories }) (record { directory = d; repositories = news })
    (Repository key) ask told place
unfolding turn_at
IsTurn-repository d repositories news key state after ask told place at lines_are is puts turn =
    let lines : List Line = lines_of_name repositories key.name in
    let of : Option State → List Line = λ o. option_map_or (λ (r : State). r.journal) o [] in
    let now : Turned = turn_in_repository state (past state.journal) ask in
    let key_is : state.key ≡ key = is.key ∙ ap (λ s. key_at s key.name) at in
    let same : turn_after (realm_of d) (Repository key) lines ask ≡ turn_in_repository state (past state.journal) ask =
    ap (λ ls. repository_turn key d.limits ls (past ls) None ask) lines_are
    ∙ ap (λ k. repository_turn k d.limits state.journal (past state.journal) None ask) (sym key_is)
    ∙ ap (λ l. repository_turn state.key l state.journal (past state.journal) None ask) (sym is.limits) in
    record {
      same = record { site = refl; served = refl; limits = refl };
      told_is = turn.told_is ∙ sym (ap (λ t. t.told) same);
      placed = turn.placed
          ∙ ap (λ k. place_of (Repository k) (past state.journal) now) key_is
          ∙ ap (λ ls. place_of (Repository key) (past ls) now) (sym lines_are)
          ∙ sym (ap (λ t. place_of (Repository key) (past lines) t) same);
      entered = ap of (puts key.name ∙ cond-true (is_at (name_order key.name) key.name) (Some after)
          (state_of_name repositories key.name) (name-self key.name))
          ∙ ap (λ s. s.journal) turn.left
          ∙ ap (λ ls. lines_after 0 (past ls) ls now.entry) (sym lines_are)
          ∙ sym (ap (λ t. lines_after 0 (past lines) lines t.entry) same);
      others = others d repositories news key after at puts;
    } where
      others : (d : SiteJournal) (repositories news : List (Name × State)) (key : RepoKey) (after : State)
          → d.site ≡ key.site → Puts repositories news key.name after
          → (other : CellKey) → same_cell (Repository key) other ≡ false → site_of_cell other ≡ d.site
          → lines_of_cell (record { directory = d; repositories = news }) other ≡ lines_of_cell
          (record { directory = d; repositories = repositories }) other
      others d repositories news key after at puts (Directory q) apart there = refl
      others d repositories news key after at puts (Repository l) apart there =
          let of : Option State → List Line = λ o. option_map_or (λ (r : State). r.journal) o [] in
          let site : same_site key.site l.site ≡ true =
          ap (same_site key.site) (there ∙ at) ∙ same_site-self key.site in
          ap of (puts l.name)
          ∙ cond_both (is_at (name_order key.name) l.name) (Some after) (state_of_name repositories l.name)
          (λ (o : Option State). of o ≡ lines_of_name repositories l.name)
          (λ same. absurd (both_ways (same_key key l) apart
          (and_from (bytes_eq key.name.text l.name.text) (same_site key.site l.site)
          (sym (is_eq-name_order key.name l.name) ∙ same) site)))
          (λ differs. refl)
