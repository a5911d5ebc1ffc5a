-- The laws of a desk of many callers, as it is made.
use Rattle.std.proofs.Common.{◌≡◌, ◌++◌, ◌∷◌, ℕ, Bool, true, false, List, [], Option, None, Some, IfSome, IsSome, option_map, cond, refl, sym, ap, ◌∙◌, subst}
use Rattle.std.specs.BTreeMap.{is_at}
use Rattle.std.specs.Option.{option_map_or}
use Rattle.std.proofs.lemmas.Bool.{cond_both, cond-true}
use Rattle.std.proofs.lemmas.List.Elements.{All-nil, All-push}
use Rattle.ecr_model.specs.declared.registry.journal.CellKey.{CellKey}
use Rattle.ecr_model.specs.declared.registry.journal.CellKey.TheVariants.{Directory, Repository}
use Rattle.ecr_model.specs.declared.registry.journal.Limits.{Limits}
use Rattle.ecr_model.specs.declared.registry.journal.Line.{Line}
use Rattle.ecr_model.specs.declared.names.SiteId.{SiteId}
use Rattle.ecr_model.specs.names.Sites.{site_order}
use Rattle.ecr_model.specs.registry.Views.{seen_of, past_of}
use Rattle.ecr_turn.specs.Passes.{Gate}
use Rattle.ecr_cells.specs.SiteCells.{site_of_cell}
use Rattle.ecr_cells.specs.Doors.{frame_of_directory}
use Rattle.ecr_cells.specs.Shared.{SiteKnown, AreGates, AreOpen, HasSeenNothing, Opens, first_known, gate_at, pass_of, passes_at, view_in}
use Rattle.ecr_cells.proofs.KeyLemmas.{All-put, IsSome-put}
use Rattle.ecr_cells.proofs.WorldLemmas.{site-same, site-self}

-- what holds of one site's turnstile, and of those before, holds of all
IfSome-opened : {A : Type 0} (site other : SiteId) (P : SiteId → A → Type 0) (new : A) (old : Option A)
    → P site new → IfSome old (P other)
    → IfSome (cond (is_at (site_order site) other) (Some new) old) (P other)
IfSome-opened {A} site other P new old is was =
    cond_both (is_at (site_order site) other) (Some new) old (λ (o : Option A). IfSome o (P other))
    (λ same. subst (λ (s : SiteId). P s new) (site-same site other same) is)
    (λ apart. was)

cond-no : {A : Type 0} (b : Bool) (x y : A) → b ≡ false → cond b x y ≡ y
cond-no false x y is = refl
cond-no true x y is = cc

-- one more site is open
pub AreOpen-opens : (served : List SiteId) (limits : Limits) (gates gates' : List (SiteId × Gate))
    (sites sites' : List (SiteId × SiteKnown)) (opened : List SiteId) (site : SiteId)
    → AreOpen served limits gates sites opened
    → Opens gates gates' sites sites' (record { site = site; served = served; limits = limits })
    → AreOpen served limits gates' sites' (opened ++ site ∷ [])
AreOpen-opens served limits gates gates' sites sites' opened site are opens =
    let Frame : SiteId → Gate → Type 0 =
    λ s g. g.frame ≡ frame_of_directory (record { site = s; served = served; limits = limits }) in
    let First : SiteId → SiteKnown → Type 0 = λ s p. p ≡ first_known p.directory.gate in
    let gate_of : Option SiteKnown → Option Gate = option_map (λ (s : SiteKnown). s.directory.gate) in
    record {
      each = λ other. subst (λ (o : Option Gate). IfSome o (Frame other)) (sym (opens.gates_are other))
          (IfSome-opened site other Frame opens.gate (gate_at gates other) opens.frame_is (are.each other));
      same = λ other. ap gate_of (opens.passes_are other)
          ∙ cond_both (is_at (site_order site) other) (Some (first_known opens.gate)) (passes_at sites other)
          (λ (o : Option SiteKnown). gate_of o ≡ gate_at gates' other)
          (λ yes. sym (opens.gates_are other ∙ cond-true (is_at (site_order site) other) (Some opens.gate)
          (gate_at gates other) yes))
          (λ differs. are.same other
          ∙ sym (opens.gates_are other ∙ cond-no (is_at (site_order site) other) (Some opens.gate)
          (gate_at gates other) differs));
      fresh = λ other. subst (λ (o : Option SiteKnown). IfSome o (First other)) (sym (opens.passes_are other))
          (IfSome-opened site other First (first_known opens.gate) (passes_at sites other) refl (are.fresh other));
      all = All-push (λ s. IsSome (gate_at gates' s)) opened site
          (All-put site_order gates gates' site opens.gate opened opens.gates_are are.all)
          (IsSome-put site_order gates gates' site opens.gate (site-self site) opens.gates_are);
    }

-- no site is open at first
pub AreOpen-none : (served : List SiteId) (limits : Limits) (gates : List (SiteId × Gate))
    (sites : List (SiteId × SiteKnown)) → gates ≡ [] → sites ≡ [] → AreOpen served limits gates sites []
AreOpen-none served limits gates sites no_gates no_sites =
    subst (λ (gs : List (SiteId × Gate)). AreOpen served limits gs sites []) (sym no_gates)
    (subst (λ (ss : List (SiteId × SiteKnown)). AreOpen served limits [] ss []) (sym no_sites) (record {
      each = λ site. tt;
      same = λ site. refl;
      fresh = λ site. tt;
      all = All-nil (λ s. IsSome (gate_at [] s));
    }))

-- all sites are open at last
pub AreGates-open : (served : List SiteId) (limits : Limits) (gates : List (SiteId × Gate))
    (sites : List (SiteId × SiteKnown)) → AreOpen served limits gates sites served → AreGates served limits gates
AreGates-open served limits gates sites are = record { each = are.each; all = are.all }

-- what a caller has seen of a cell at a site, and the least ticket of its next turn
unfoldable seen_there : CellKey → Option SiteKnown → List Line
seen_there cell o = seen_of (option_map_or (λ (s : SiteKnown). view_in s cell) o None)

unfoldable past_there : CellKey → Option SiteKnown → ℕ
past_there cell o = past_of (option_map_or (λ (s : SiteKnown). view_in s cell) o None)

at_first : (cell : CellKey) (p : SiteKnown) → p ≡ first_known p.directory.gate
    → (seen_of (view_in p cell) ≡ []) × (past_of (view_in p cell) ≡ 0)
at_first (Directory s) p is = (ap (λ (k : SiteKnown). k.directory.seen) is, ap (λ (k : SiteKnown). k.directory.past) is)
at_first (Repository key) p is = (
  ap (λ (k : SiteKnown). seen_of (view_in k (Repository key))) is,
  ap (λ (k : SiteKnown). past_of (view_in k (Repository key))) is,
)

unseen_there : (cell : CellKey) (o : Option SiteKnown) → IfSome o (λ p. p ≡ first_known p.directory.gate)
    → (seen_there cell o ≡ []) × (past_there cell o ≡ 0)
unfolding seen_there past_there
unseen_there cell None fresh = (refl, refl)
unseen_there cell (Some p) fresh = at_first cell p fresh

-- each site's pass has seen nothing
pub HasSeenNothing-open : (served : List SiteId) (limits : Limits) (gates : List (SiteId × Gate))
    (sites : List (SiteId × SiteKnown)) (opened : List SiteId) → AreOpen served limits gates sites opened
    → HasSeenNothing (pass_of (record { sites = sites; made = 0 }))
unfolding seen_there past_there
HasSeenNothing-open served limits gates sites opened are = record {
  unseen = λ cell. unseen_there cell (passes_at sites (site_of_cell cell)) (are.fresh (site_of_cell cell));
  none_made = refl;
}
