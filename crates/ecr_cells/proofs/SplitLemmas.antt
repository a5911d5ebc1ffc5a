-- The laws of passes for another caller.
use Rattle.std.proofs.Common.{◌≡◌, ◌+◌, ◌<◌, ℕ, true, false, List, [], length, take, get_or, Option, None, Some, IfSome, IsSome, All, is_some, option_map, refl, sym, ap, ◌∙◌, subst, arith}
use Rattle.std.specs.BTreeMap.{is_at}
use Rattle.std.specs.Map.{keys_of}
use Rattle.std.specs.Option.{option_map_or}
use Rattle.std.proofs.Math.Path.{fun_ext}
use Rattle.std.proofs.lemmas.Bool.{cond_both}
use Rattle.std.proofs.lemmas.List.Elements.{All-more}
use Rattle.ecr_model.specs.declared.registry.journal.CellKey.{CellKey}
use Rattle.ecr_model.specs.declared.registry.journal.CellKey.TheVariants.{Directory, Repository}
use Rattle.ecr_model.specs.declared.names.Name.{Name}
use Rattle.ecr_model.specs.declared.names.SiteId.{SiteId}
use Rattle.ecr_model.specs.names.Sites.{site_order}
use Rattle.ecr_model.specs.registry.Directories.{SiteFrame, name_order}
use Rattle.ecr_model.specs.registry.Views.{View, Views}
use Rattle.ecr_turn.specs.Passes.{Gate, Known}
use Rattle.ecr_desk.specs.Desks.{Gates, PassState}
use Rattle.ecr_cells.specs.SiteCells.{site_of_cell}
use Rattle.ecr_cells.specs.Doors.{Hangs, door_at, frame_of_name, view_of}
use Rattle.ecr_cells.specs.Shared.{SiteKnown, DeskKnown, AreDoorsOfSite, Becomes, gates_in, pass_of, passes_at, view_in, views_in}
use Rattle.ecr_cells.specs.Splits.{AreSitesSplitting, AreSplit, AreSplitting, DoorsStay, IsSplitAt, IsSplitFrom, IsSplitOff, IsSplitSite, SiteStays, SplitsDoor, SplitsSite, standing}
use Rattle.ecr_cells.proofs.KeyLemmas.{All-found, All-put, IsSome-put}
use Rattle.ecr_cells.proofs.SharedViewLemmas.{gates_in-same}
use Rattle.ecr_cells.proofs.SiteLemmas.{name-same, name-self}
use Rattle.ecr_cells.proofs.WorldLemmas.{site-same, site-self}

-- ---- doors

IsSome-stays : (o n : Option Known) → option_map standing n ≡ option_map standing o → IsSome o → IsSome n
IsSome-stays None n is there = let no : false ≡ true = there in cc no
IsSome-stays (Some k) None is there = cc is
IsSome-stays (Some k) (Some m) is there = refl

IsSplitFrom-stays : (o n s : Option Known) → option_map standing n ≡ option_map standing o → IsSplitFrom n s
    → IsSplitFrom o s
unfolding IsSplitFrom
IsSplitFrom-stays None None s is from = from
IsSplitFrom-stays None (Some m) s is from = cc is
IsSplitFrom-stays (Some k) None s is from = cc is
IsSplitFrom-stays (Some k) (Some m) None is from = from
IsSplitFrom-stays (Some k) (Some m) (Some d) is from =
    let same : standing m ≡ standing k = cc is in (
      from.0 ∙ ap (λ p. p.0) same,
      from.1 ∙ ap (λ p. p.1.past) same,
      from.2 ∙ ap (λ p. p.1.seen) same,
      λ e. from.3 (e ∙ sym (ap (λ p. p.1.caller) same)),
    )

-- a door that was lent, and only learnt of a caller's number
pub DoorsStay-lent : (doors news : List (Name × Known)) (name : Name) (before after : Known)
    → Some before ≡ door_at doors name → standing after ≡ standing before
    → (IsSome (door_at doors name) → Hangs doors news name after) → DoorsStay doors news
DoorsStay-lent doors news name before after found same lent = λ q.
    ap (option_map standing) (lent (ap is_some (sym found)) q)
    ∙ cond_both (is_at (name_order name) q) (Some after) (door_at doors q)
    (λ (o : Option Known). option_map standing o ≡ option_map standing (door_at doors q))
    (λ yes. ap (λ (p : Gate × View). Some p) same
    ∙ sym (ap (option_map standing) (ap (door_at doors) (sym (name-same name q yes)) ∙ sym found)))
    (λ apart. refl)

-- no door is split at first
pub AreSplitting-none : (doors splits : List (Name × Known)) (names : List Name) → splits ≡ []
    → AreSplitting doors doors splits (take 0 names)
AreSplitting-none doors splits names empty = record {
  kept = λ name. refl;
  each = λ name. subst (λ (ss : List (Name × Known)). IfSome (door_at ss name)
      (λ d. IsSplitFrom (door_at doors name) (Some d))) (sym empty) tt;
  all = λ k d less. absurd (omega (arith, less));
}

-- the next name's door is split too
pub AreSplitting-splits : (doors mid news splits splits' : List (Name × Known)) (names : List Name) (i : ℕ)
    (name : Name)
    → i < length names → name ≡ get_or names i name
    → AreSplitting doors mid splits (take i names) → DoorsStay mid news → SplitsDoor mid splits splits' name
    → AreSplitting doors news splits' (take (i + 1) names)
AreSplitting-splits doors mid news splits splits' names i name less is are stays split =
    record {
      kept = λ q. stays q ∙ are.kept q;
      each = λ q. subst (λ (o : Option Known). IfSome o (λ d. IsSplitFrom (door_at doors q) (Some d)))
          (sym (split.hangs q))
          (cond_both (is_at (name_order name) q) (Some split.door) (door_at splits q)
          (λ (o : Option Known). IfSome o (λ d. IsSplitFrom (door_at doors q) (Some d)))
          (λ yes. subst (λ (n : Name). IsSplitFrom (door_at doors n) (Some split.door)) (name-same name q yes)
          (IsSplitFrom-stays (door_at doors name) (door_at mid name) (Some split.door) (are.kept name) split.from))
          (λ apart. are.each q));
      all = All-more (λ n. IsSome (door_at splits' n)) names i name less
          (All-put name_order splits splits' name split.door (take i names) split.hangs are.all)
          (subst (λ (n : Name). IsSome (door_at splits' n)) is
          (IsSome-put name_order splits splits' name split.door (name-self name) split.hangs));
    }

-- the next name has a door still
pub IsSome-splitting : (doors mid splits : List (Name × Known)) (names done : List Name) (i : ℕ) (name : Name)
    → All (λ n. IsSome (door_at doors n)) names → i < length names → name ≡ get_or names i name
    → AreSplitting doors mid splits done → IsSome (door_at mid name)
IsSome-splitting doors mid splits names done i name found less is are =
    IsSome-stays (door_at doors name) (door_at mid name) (are.kept name)
    (subst (λ (n : Name). IsSome (door_at doors n)) (sym is) (found i name less))

split_once : (o s : Option Known) → (IsSome o → IsSome s) → IfSome s (λ d. IsSplitFrom o (Some d)) → IsSplitFrom o s
unfolding IsSplitFrom
split_once None None there each = tt
split_once (Some k) None there each = let no : false ≡ true = there refl in cc no
split_once None (Some d) there each = each
split_once (Some k) (Some d) there each = each

-- all doors are split at last
pub AreSplit-all : (doors news splits : List (Name × Known)) → AreSplitting doors news splits (keys_of doors)
    → AreSplit doors splits
AreSplit-all doors news splits are = λ name.
    split_once (door_at doors name) (door_at splits name)
    (λ there. All-found name_order (λ n. IsSome (door_at splits n)) doors name name-same there are.all)
    (are.each name)

-- the doors of another caller are of the same site
pub AreDoorsOfSite-split : (site : SiteFrame) (doors splits : List (Name × Known)) → AreDoorsOfSite site doors
    → AreSplit doors splits → AreDoorsOfSite site splits
unfolding IsSplitFrom
AreDoorsOfSite-split site doors splits are split = λ name. of name (door_at doors name) (door_at splits name) (are name)
    (split name) where
      of : (name : Name) (o s : Option Known) → IfSome o (λ d. d.gate.frame ≡ frame_of_name site name)
          → IsSplitFrom o s → IfSome s (λ d. d.gate.frame ≡ frame_of_name site name)
      of name None None is from = tt
      of name (Some k) None is from = tt
      of name None (Some d) is from = absurd from
      of name (Some k) (Some d) is from = ap (λ (g : Gate). g.frame) from.0 ∙ is

-- ---- sites

door_view-stays : (o n : Option Known) → option_map standing n ≡ option_map standing o
    → option_map view_of n ≡ option_map view_of o
door_view-stays None None is = refl
door_view-stays None (Some m) is = cc is
door_view-stays (Some k) None is = cc is
door_view-stays (Some k) (Some m) is =
    let same : standing m ≡ standing k = cc is in
    ap (λ (p : Gate × View). Some p.1) same

view_in-stays : (before after : SiteKnown) → SiteStays before after → (cell : CellKey)
    → view_in after cell ≡ view_in before cell
view_in-stays before after stays (Directory site) = ap (λ (p : Gate × View). Some p.1) stays.directory
view_in-stays before after stays (Repository key) =
    door_view-stays (door_at before.doors key.name) (door_at after.doors key.name) (stays.doors key.name)

IsSplitOff-from : (o s : Option Known) → IsSplitFrom o s → IsSplitOff (option_map view_of o) (option_map view_of s)
unfolding IsSplitFrom IsSplitOff
IsSplitOff-from None None from = tt
IsSplitOff-from None (Some d) from = absurd from
IsSplitOff-from (Some k) None from = absurd from
IsSplitOff-from (Some k) (Some d) from = (from.1, from.2, from.3)

IsSplitOff-site : (passes other : SiteKnown) → IsSplitSite passes other → (cell : CellKey)
    → IsSplitOff (view_in passes cell) (view_in other cell)
IsSplitOff-site passes other split (Directory site) =
    IsSplitOff-from (Some passes.directory) (Some other.directory) split.directory
IsSplitOff-site passes other split (Repository key) =
    IsSplitOff-from (door_at passes.doors key.name) (door_at other.doors key.name) (split.doors key.name)

pass_of-stays : (sites news : List (SiteId × SiteKnown)) (made : ℕ) (site : SiteId) (before after : SiteKnown)
    → passes_at sites site ≡ Some before → SiteStays before after → Becomes sites news site after
    → pass_of (record { sites = news; made = made }) ≡ pass_of (record { sites = sites; made = made })
pass_of-stays sites news made site before after was stays updates =
    let gate : after.directory.gate ≡ before.directory.gate = ap (λ (p : Gate × View). p.0) stays.directory in
    let gates : gates_in news ≡ gates_in sites =
    gates_in-same sites news site before after (record { was = was; updates = updates; gate = gate }) in
    let views : views_in news ≡ views_in sites = fun_ext (λ cell.
    let of : Option SiteKnown → Option View = λ o. option_map_or (λ (s : SiteKnown). view_in s cell) o None in
    ap of (updates (site_of_cell cell))
    ∙ cond_both (is_at (site_order site) (site_of_cell cell)) (Some after) (passes_at sites (site_of_cell cell))
    (λ (o : Option SiteKnown). of o ≡ views_in sites cell)
    (λ same. view_in-stays before after stays cell
    ∙ sym (ap of (ap (passes_at sites) (sym (site-same site (site_of_cell cell) same)) ∙ was)))
    (λ apart. refl)) in
    ap (λ (g : Gates). record { gates = g; views = views_in news; made = made }) gates
    ∙ ap (λ (v : Views). record { gates = gates_in sites; views = v; made = made }) views

-- the desk sees no change where passes that were lent only learnt of callers' numbers
pub pass_of-lent : (pass : DeskKnown) (sites news : List (SiteId × SiteKnown)) (made : ℕ) (site : SiteId)
    (before after : SiteKnown)
    → record { sites = sites; made = made } ≡ pass → Some before ≡ passes_at sites site → SiteStays before after
    → (IsSome (passes_at sites site) → Becomes sites news site after)
    → pass_of (record { sites = news; made = made }) ≡ pass_of pass
pass_of-lent pass sites news made site before after is found stays lent =
    pass_of-stays sites news made site before after (sym found) stays (lent (ap is_some (sym found))) ∙ ap pass_of is

-- the passes at a site that were split off, as the desk sees them
pub IsSplitAt-site : (sites : List (SiteId × SiteKnown)) (made : ℕ) (site : SiteId) (passes other : SiteKnown)
    → passes_at sites site ≡ Some passes → IsSplitSite passes other
    → IsSplitAt (pass_of (record { sites = sites; made = made })) site other
unfolding IsSplitFrom
IsSplitAt-site sites made site passes other found split = record {
  gate = ap (option_map (λ (s : SiteKnown). s.directory.gate)) found
      ∙ ap (λ (g : Gate). Some g) (sym split.directory.0);
  seen = λ cell at. subst
      (λ (o : Option SiteKnown). IsSplitOff (option_map_or (λ (s : SiteKnown). view_in s cell) o None)
      (view_in other cell))
      (sym (ap (passes_at sites) at ∙ found)) (IsSplitOff-site passes other split cell);
}

-- the passes at no site are split at first
pub AreSitesSplitting-none : (pass : PassState) (splits : List (SiteId × SiteKnown)) (sites : List SiteId)
    → splits ≡ [] → AreSitesSplitting pass splits (take 0 sites)
AreSitesSplitting-none pass splits sites empty = record {
  each = λ site. subst (λ (ss : List (SiteId × SiteKnown)). IfSome (passes_at ss site) (IsSplitAt pass site))
      (sym empty) tt;
  all = λ k d less. absurd (omega (arith, less));
}

-- the passes at the next site are split too
pub AreSitesSplitting-splits : (pass : PassState) (splits splits' : List (SiteId × SiteKnown)) (sites : List SiteId)
    (i : ℕ) (site : SiteId)
    → i < length sites → site ≡ get_or sites i site
    → AreSitesSplitting pass splits (take i sites) → SplitsSite pass splits splits' site
    → AreSitesSplitting pass splits' (take (i + 1) sites)
AreSitesSplitting-splits pass splits splits' sites i site less is are split =
    record {
      each = λ q. subst (λ (o : Option SiteKnown). IfSome o (IsSplitAt pass q)) (sym (split.hangs q))
          (cond_both (is_at (site_order site) q) (Some split.passes) (passes_at splits q)
          (λ (o : Option SiteKnown). IfSome o (IsSplitAt pass q))
          (λ yes. subst (λ (s : SiteId). IsSplitAt pass s split.passes) (site-same site q yes) split.from)
          (λ apart. are.each q));
      all = All-more (λ s. IsSome (passes_at splits' s)) sites i site less
          (All-put site_order splits splits' site split.passes (take i sites) split.hangs are.all)
          (subst (λ (s : SiteId). IsSome (passes_at splits' s)) is
          (IsSome-put site_order splits splits' site split.passes (site-self site) split.hangs));
    }

gate_once : (o s : Option SiteKnown) → (IsSome o → IsSome s)
    → IfSome s (λ p. option_map (λ (k : SiteKnown). k.directory.gate) o ≡ Some p.directory.gate)
    → option_map (λ (k : SiteKnown). k.directory.gate) s ≡ option_map (λ (k : SiteKnown). k.directory.gate) o
gate_once None None there each = refl
gate_once (Some k) None there each = let no : false ≡ true = there refl in cc no
gate_once o (Some p) there each = sym each

view_once : (cell : CellKey) (o s : Option SiteKnown) → (IsSome o → IsSome s)
    → IfSome s (λ p. IsSplitOff (option_map_or (λ (k : SiteKnown). view_in k cell) o None) (view_in p cell))
    → IsSplitOff (option_map_or (λ (k : SiteKnown). view_in k cell) o None)
    (option_map_or (λ (k : SiteKnown). view_in k cell) s None)
unfolding IsSplitOff
view_once cell None None there each = tt
view_once cell (Some k) None there each = let no : false ≡ true = there refl in cc no
view_once cell o (Some p) there each = each

IfSome-weaker : {A : Type 0} (o : Option A) (P Q : A → Type 0) → ((a : A) → P a → Q a) → IfSome o P → IfSome o Q
IfSome-weaker None P Q f is = tt
IfSome-weaker (Some a) P Q f is = f a is

there_too : (sites splits : List (SiteId × SiteKnown)) (pass : PassState) (site : SiteId)
    → AreSitesSplitting pass splits (keys_of sites) → IsSome (passes_at sites site) → IsSome (passes_at splits site)
there_too sites splits pass site are there =
    All-found site_order (λ s. IsSome (passes_at splits s)) sites site site-same there are.all

-- the turnstiles are the same at last
pub gates_in-split : (sites splits : List (SiteId × SiteKnown)) (made : ℕ)
    → AreSitesSplitting (pass_of (record { sites = sites; made = made })) splits (keys_of sites)
    → gates_in splits ≡ gates_in sites
gates_in-split sites splits made are = fun_ext (λ site.
    let pass : PassState = pass_of (record { sites = sites; made = made }) in
    gate_once (passes_at sites site) (passes_at splits site) (there_too sites splits pass site are)
    (IfSome-weaker (passes_at splits site) (IsSplitAt pass site) (λ p. gates_in sites site ≡ Some p.directory.gate)
    (λ p at. at.gate) (are.each site)))

-- and all views are split off
pub views_in-split : (sites splits : List (SiteId × SiteKnown)) (made : ℕ) (cell : CellKey)
    → AreSitesSplitting (pass_of (record { sites = sites; made = made })) splits (keys_of sites)
    → IsSplitOff (views_in sites cell) (views_in splits cell)
views_in-split sites splits made cell are =
    let pass : PassState = pass_of (record { sites = sites; made = made }) in
    view_once cell (passes_at sites (site_of_cell cell)) (passes_at splits (site_of_cell cell))
    (there_too sites splits pass (site_of_cell cell) are)
    (IfSome-weaker (passes_at splits (site_of_cell cell)) (IsSplitAt pass (site_of_cell cell))
    (λ p. IsSplitOff (views_in sites cell) (view_in p cell)) (λ p at. at.seen cell refl) (are.each (site_of_cell cell)))

-- each site of a pass has a turnstile
pub IsSome-gate : (sites : List (SiteId × SiteKnown)) (gates : Gates) (names : List SiteId) (i : ℕ) (site : SiteId)
    → gates_in sites ≡ gates → All (λ s. IsSome (passes_at sites s)) names → i < length names
    → site ≡ get_or names i site → IsSome (gates site)
IsSome-gate sites gates names i site same found less is =
    subst (λ (f : Gates). IsSome (f site)) same
    (gate_there (passes_at sites site) (subst (λ (s : SiteId). IsSome (passes_at sites s)) (sym is)
    (found i site less))) where
      gate_there : (o : Option SiteKnown) → IsSome o → IsSome (option_map (λ (s : SiteKnown). s.directory.gate) o)
      gate_there None there = let no : false ≡ true = there in cc no
      gate_there (Some s) there = refl
