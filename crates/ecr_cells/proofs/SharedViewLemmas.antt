-- What turns leave in the views of one caller among many.
use Rattle.std.proofs.Common.{◌≡◌, ◌≤◌, ◌+◌, ℕ, Bool, false, true, List, [], ◌∷◌, ◌++◌, Option, None, Some, IfSome, IsSome, IfOk, Result, Ok, Err, is_some, option_map, if◌then◌else◌, cond, inl, inr, refl, sym, ap, ◌∙◌, subst, arith, bytes_eq}
use Rattle.std.specs.BTreeMap.{is_at}
use Rattle.std.specs.Option.{option_map_or}
use Rattle.std.proofs.Math.Path.{fun_ext}
use Rattle.std.proofs.lemmas.Bool.{and_from, both_ways, cond_both, cond-true}
use Rattle.ecr_model.specs.declared.registry.journal.CellKey.{CellKey}
use Rattle.ecr_model.specs.declared.registry.journal.CellKey.TheVariants.{Directory, Repository}
use Rattle.ecr_model.specs.declared.registry.journal.Limits.{Limits}
use Rattle.ecr_model.specs.declared.registry.journal.Line.{Line}
use Rattle.ecr_model.specs.declared.registry.journal.Place.{Place}
use Rattle.ecr_model.specs.declared.names.Name.{Name}
use Rattle.ecr_model.specs.declared.names.RepoKey.{RepoKey}
use Rattle.ecr_model.specs.declared.names.SiteId.{SiteId}
use Rattle.ecr_model.specs.names.Sites.{site_order}
use Rattle.ecr_model.specs.registry.Directories.{SiteFrame, name_order}
use Rattle.ecr_model.specs.registry.Growth.{Each}
use Rattle.ecr_model.specs.declared.requests.call.Call.{Call}
use Rattle.ecr_model.specs.declared.requests.call.SiteCall.{SiteCall}
use Rattle.ecr_model.specs.requests.Requests.{beside_of, cell_turn, first_ask, first_turn, reply_told, site_script, site_told}
use Rattle.ecr_model.specs.registry.Scripts.{Ask, Told, Script, Realm, call, ends, site_call, turn, same_cell, same_key, same_site}
use Rattle.ecr_model.specs.registry.Views.{View, Visits, ExtendsView, Halts, lines_of, result_of, with_view}
use Rattle.ecr_model.proofs.lemmas.registry.CellLemmas.{is_eq-name_order, same_site-self}
use Rattle.ecr_model.proofs.lemmas.registry.SoundnessLemmas.{same_cell-same}
use Rattle.ecr_turn.specs.Passes.{Gate, Known}
use Rattle.ecr_desk.specs.Desks.{DeskState, Gates, IsStill, StoppedWithin}
use Rattle.ecr_cells.specs.SiteCells.{site_of_cell}
use Rattle.ecr_cells.specs.Doors.{Visited, AreDoors, Hangs, IsOpened, door_at, frame_of_directory, frame_of_name, realm_of_frame, site_frame_of, made_at, view_of}
use Rattle.ecr_cells.specs.Shared.{AreGates, AreDoorsOfSite, Becomes, Enters, Peers, IsWay, LeadsInto, SiteKnown, DeskKnown, Passes, Looks, caller_state, door_view, gate_at, gates_in, passes_at, view_in, views_in}
use Rattle.ecr_cells.proofs.RunLemmas.{MadeTurn}
use Rattle.ecr_cells.proofs.SiteLemmas.{name-same, name-self}
use Rattle.ecr_cells.proofs.WorldLemmas.{site-same, site-self}

-- ---- a first turn

-- a pass that has seen nothing is a cell that wasn't visited
pub Comes-first : (v now : View) (own : List Line) → v.past ≡ 0 → v.seen ≡ [] → ExtendsView (Some v) now own
    → ExtendsView None now own
Comes-first v now own none unseen comes = record {
  others = comes.others;
  longer = comes.longer ∙ ap (λ (ls : List Line). (ls ++ comes.others) ++ own) unseen;
  foreign = comes.foreign;
  later = subst (λ (n : ℕ). Each (λ l. n ≤ l.ticket) comes.others) none comes.later;
  same = tt;
  onward = omega arith;
}

-- a first turn was made in a cell that wasn't visited
pub Visited-first : (realm : Realm) (v now : View) (cell : CellKey) (ask : Ask) (told : Told) (place : Place)
    → v.past ≡ 0 → v.seen ≡ [] → Visited realm (Some v) now cell ask told place
    → Visited realm None now cell ask told place
Visited-first realm v now cell ask told place none unseen visited =
    let visit = visited.visit in
    record {
      visit = record {
        cell_is = visit.cell_is;
        changed_is = visit.changed_is;
        sealed_is = visit.sealed_is;
        fresh = omega arith;
        within = visit.within;
        comes = Comes-first v now (lines_of now.caller place.ticket
            (result_of realm cell now.seen ask (made_at place)).entry) none unseen visit.comes;
        rises = visit.rises;
        shared = visit.shared;
        alone = λ no. cc;
      };
      told_is = visited.told_is;
    }

-- ---- doors

-- the last door that was hung counts
Hangs-again : (doors mid news : List (Name × Known)) (name : Name) (one other : Known)
    → Hangs doors mid name one → Hangs mid news name other → Hangs doors news name other
Hangs-again doors mid news name one other first second n =
    second n
    ∙ cond_both (is_at (name_order name) n) (Some other) (door_at mid n)
    (λ (o : Option Known). o ≡ cond (is_at (name_order name) n) (Some other) (door_at doors n))
    (λ yes. sym (cond-true (is_at (name_order name) n) (Some other) (door_at doors n) yes))
    (λ differs. first n ∙ both (is_at (name_order name) n) differs) where
      both : (b : Bool) → b ≡ false → cond b (Some one) (door_at doors n) ≡ cond b (Some other) (door_at doors n)
      both false is = refl
      both true is = cc

-- the door that was hung is its name's
pub Hangs-there : (doors news : List (Name × Known)) (name : Name) (door : Known) → Hangs doors news name door
    → door_at news name ≡ Some door
Hangs-there doors news name door hangs =
    hangs name ∙ cond-true (is_at (name_order name) name) (Some door) (door_at doors name) (name-self name)

-- each door is that of its name's repository, with that one too
pub AreDoorsOfSite-hangs : (site : SiteFrame) (doors news : List (Name × Known)) (name : Name) (door : Known)
    → AreDoorsOfSite site doors → door.gate.frame ≡ frame_of_name site name → Hangs doors news name door
    → AreDoorsOfSite site news
AreDoorsOfSite-hangs site doors news name door are is hangs q =
    subst (λ (o : Option Known). IfSome o (λ d. d.gate.frame ≡ frame_of_name site q)) (sym (hangs q))
    (cond_both (is_at (name_order name) q) (Some door) (door_at doors q)
    (λ (o : Option Known). IfSome o (λ d. d.gate.frame ≡ frame_of_name site q))
    (λ same. subst (λ (n : Name). door.gate.frame ≡ frame_of_name site n) (name-same name q same) is)
    (λ apart. are q))

-- likewise of the doors of a directory
pub AreDoors-hangs : (limits : Limits) (site : SiteFrame) (doors news : List (Name × Known)) (name : Name)
    (door : Known)
    → AreDoors limits site doors → IsOpened (frame_of_name site name) door → Hangs doors news name door
    → AreDoors limits site news
AreDoors-hangs limits site doors news name door are is hangs = record {
  limited = are.limited;
  named = λ q. subst (λ (o : Option Known). IfSome o (IsOpened (frame_of_name site q))) (sym (hangs q))
      (cond_both (is_at (name_order name) q) (Some door) (door_at doors q)
      (λ (o : Option Known). IfSome o (IsOpened (frame_of_name site q)))
      (λ same. subst (λ (n : Name). IsOpened (frame_of_name site n) door) (name-same name q same) is)
      (λ apart. are.named q));
}

-- a turn through a door that was just hung is the first one there
pub Enters-first : (realm : Realm) (doors mid news : List (Name × Known)) (key : RepoKey) (door : Known) (ask : Ask)
    (told : Told) (place : Place)
    → door_at doors key.name ≡ None → door.past ≡ 0 → door.seen ≡ [] → Hangs doors mid key.name door
    → Enters realm mid news key ask told place → Enters realm doors news key ask told place
Enters-first realm doors mid news key door ask told place absent none unseen hung enters = record {
  now = enters.now;
  hangs = Hangs-again doors mid news key.name door enters.now hung enters.hangs;
  visited = subst (λ (o : Option Known). Visited realm (option_map view_of o) (view_of enters.now) (Repository key)
      ask told place)
      (sym absent)
      (Visited-first realm (view_of door) (view_of enters.now) (Repository key) ask told place none unseen
      (subst (λ (o : Option Known). Visited realm (option_map view_of o) (view_of enters.now) (Repository key)
      ask told place)
      (Hangs-there doors mid key.name door hung) enters.visited));
}

-- a look through a door that was just hung is the first one there
pub Peers-first : (doors mid news : List (Name × Known)) (key : RepoKey) (door : Known)
    → door_at doors key.name ≡ None → door.past ≡ 0 → door.seen ≡ [] → Hangs doors mid key.name door
    → Peers mid news key → Peers doors news key
Peers-first doors mid news key door absent none unseen hung peers = record {
  now = peers.now;
  hangs = Hangs-again doors mid news key.name door peers.now hung peers.hangs;
  comes = subst (λ (o : Option Known). ExtendsView (option_map view_of o) (view_of peers.now) []) (sym absent)
      (Comes-first (view_of door) (view_of peers.now) [] none unseen
      (subst (λ (o : Option Known). ExtendsView (option_map view_of o) (view_of peers.now) [])
      (Hangs-there doors mid key.name door hung) peers.comes));
}

-- ---- the passes at a site

-- passes that were lent, of the same directory as before, are all that changed
pub Passes-lent : (sites news : List (SiteId × SiteKnown)) (site : SiteId) (before after : SiteKnown)
    → Some before ≡ passes_at sites site → (IsSome (passes_at sites site) → Becomes sites news site after)
    → after.directory.gate ≡ before.directory.gate → Passes sites news site before after
Passes-lent sites news site before after found lent gate = record {
  was = sym found;
  updates = lent (ap is_some (sym found));
  gate = gate;
}

-- the turnstile of a site's directory is the one that the caller's pass has there
pub gate-found : (pass : DeskKnown) (sites : List (SiteId × SiteKnown)) (made : ℕ) (site : SiteId) (passes : SiteKnown)
    (gate : Gate)
    → record { sites = sites; made = made } ≡ pass → Some passes ≡ passes_at sites site
    → gates_in pass.sites site ≡ Some gate → passes.directory.gate ≡ gate
gate-found pass sites made site passes gate is found of =
    let own : gates_in sites site ≡ Some passes.directory.gate =
    ap (option_map (λ (s : SiteKnown). s.directory.gate)) (sym found) in
    let theirs : gates_in sites site ≡ Some gate = ap (λ (p : DeskKnown). gates_in p.sites site) is ∙ of in
    cc (own, theirs)

-- the view of a cell is that of the passes at its site
pub views_in-found : (sites : List (SiteId × SiteKnown)) (cell : CellKey) (passes : SiteKnown)
    → Some passes ≡ passes_at sites (site_of_cell cell) → views_in sites cell ≡ view_in passes cell
views_in-found sites cell passes found =
    ap (λ o. option_map_or (λ (s : SiteKnown). view_in s cell) o None) (sym found)

-- ---- all sites

-- one view is new, and the others are as before
views_in-changed : (sites news : List (SiteId × SiteKnown)) (cell : CellKey) (before after : SiteKnown) (view : View)
    → Passes sites news (site_of_cell cell) before after → view_in after cell ≡ Some view
    → ((other : CellKey) → site_of_cell other ≡ site_of_cell cell → same_cell cell other ≡ false
    → view_in after other ≡ view_in before other)
    → views_in news ≡ with_view (views_in sites) cell view
unfolding with_view
views_in-changed sites news cell before after view passes there others = fun_ext (λ other.
    cond_both (same_cell cell other) (Some view) (views_in sites other) (λ (o : Option View). views_in news other ≡ o)
    (λ yes. subst (λ (c : CellKey). views_in news c ≡ Some view) (same_cell-same cell other yes)
    (ap (λ o. option_map_or (λ (s : SiteKnown). view_in s cell) o None)
    (passes.updates (site_of_cell cell)
    ∙ cond-true (is_at (site_order (site_of_cell cell)) (site_of_cell cell)) (Some after)
    (passes_at sites (site_of_cell cell))
    (site-self (site_of_cell cell))) ∙ there))
    (λ differs.
    let of : Option SiteKnown → Option View = λ o. option_map_or (λ (s : SiteKnown). view_in s other) o None in
    ap of (passes.updates (site_of_cell other))
    ∙ cond_both (is_at (site_order (site_of_cell cell)) (site_of_cell other)) (Some after)
    (passes_at sites (site_of_cell other))
    (λ (o : Option SiteKnown). of o ≡ views_in sites other)
    (λ same. let at : site_of_cell cell ≡ site_of_cell other =
    site-same (site_of_cell cell) (site_of_cell other) same in
    others other (sym at) differs ∙ sym (ap of (ap (passes_at sites) (sym at) ∙ passes.was)))
    (λ apart. refl)))

-- the view of a site's directory is new
pub views_in-directory : (sites news : List (SiteId × SiteKnown)) (site : SiteId) (before after : SiteKnown)
    → Passes sites news site before after → after.doors ≡ before.doors
    → views_in news ≡ with_view (views_in sites) (Directory site) (view_of after.directory)
views_in-directory sites news site before after passes doors =
    views_in-changed sites news (Directory site) before after (view_of after.directory) passes refl
    (λ other at differs. others other at differs) where
      others : (other : CellKey) → site_of_cell other ≡ site → same_cell (Directory site) other ≡ false
          → view_in after other ≡ view_in before other
      others (Directory s) at differs =
          let same : same_site site s ≡ true =
          subst (λ (t : SiteId). same_site site t ≡ true) (sym at) (same_site-self site) in
          cc (same, differs)
      others (Repository key) at differs = ap (λ ds. door_view ds key.name) doors

-- the view of a repository is new
pub views_in-repository : (sites news : List (SiteId × SiteKnown)) (key : RepoKey) (before after : SiteKnown)
    (now : Known)
    → Passes sites news key.site before after → after.directory ≡ before.directory
    → Hangs before.doors after.doors key.name now
    → views_in news ≡ with_view (views_in sites) (Repository key) (view_of now)
views_in-repository sites news key before after now passes directory hangs =
    views_in-changed sites news (Repository key) before after (view_of now) passes
    (ap (option_map view_of) (Hangs-there before.doors after.doors key.name now hangs))
    (λ other at differs. others other at differs) where
      others : (other : CellKey) → site_of_cell other ≡ key.site → same_cell (Repository key) other ≡ false
          → view_in after other ≡ view_in before other
      others (Directory s) at differs = ap (λ (k : Known). Some (view_of k)) directory
      others (Repository k) at differs =
          let site : same_site key.site k.site ≡ true =
          subst (λ (t : SiteId). same_site key.site t ≡ true) (sym at) (same_site-self key.site) in
          ap (option_map view_of) (hangs k.name
          ∙ cond_both (is_at (name_order key.name) k.name) (Some now) (door_at before.doors k.name)
          (λ (o : Option Known). o ≡ door_at before.doors k.name)
          (λ same. absurd (both_ways (same_key key k) differs
          (and_from (bytes_eq key.name.text k.name.text) (same_site key.site k.site)
          (sym (is_eq-name_order key.name k.name) ∙ same) site)))
          (λ apart. refl))

-- the turnstiles are as before
pub gates_in-same : (sites news : List (SiteId × SiteKnown)) (site : SiteId) (before after : SiteKnown)
    → Passes sites news site before after → gates_in news ≡ gates_in sites
gates_in-same sites news site before after passes = fun_ext (λ other.
    let of : Option SiteKnown → Option Gate = λ o. option_map (λ (s : SiteKnown). s.directory.gate) o in
    ap of (passes.updates other)
    ∙ cond_both (is_at (site_order site) other) (Some after) (passes_at sites other)
    (λ (o : Option SiteKnown). of o ≡ gates_in sites other)
    (λ same. ap (λ (g : Gate). Some g) passes.gate
    ∙ sym (ap of (ap (passes_at sites) (sym (site-same site other same)) ∙ passes.was)))
    (λ apart. refl))

-- the turnstiles of the caller's pass are as before
pub gates_in-passes : (pass : DeskKnown) (sites news : List (SiteId × SiteKnown)) (made : ℕ) (site : SiteId)
    (before after : SiteKnown)
    → record { sites = sites; made = made } ≡ pass → Passes sites news site before after
    → gates_in news ≡ gates_in pass.sites
gates_in-passes pass sites news made site before after is passes =
    gates_in-same sites news site before after passes ∙ ap (λ (p : DeskKnown). gates_in p.sites) is

-- ---- turns

-- one caller among many isn't alone
not_still : (realm : Realm) (pass : DeskKnown) → IsStill (caller_state realm pass) → Some (gates_in pass.sites) ≡ None
not_still realm pass still = ap (λ (s : DeskState). s.gates) still

made_there : (realm : Realm) (before after : DeskKnown) (cell : CellKey) (view : View) (ask : Ask)
    (told : Told) (place : Place)
    → Visited realm (views_in before.sites cell) view cell ask told place
    → views_in after.sites ≡ with_view (views_in before.sites) cell view
    → gates_in after.sites ≡ gates_in before.sites
    → after.made ≡ before.made + (if place.changed then 1 else 0)
    → MadeTurn (caller_state realm before) (caller_state realm after) cell ask told place
unfolding Visits
made_there realm before after cell view ask told place visited views gates counted = record {
  realm_stays = refl;
  gates_stay = ap (λ (g : Gates). Some g) gates;
  turns = made_at place ∷ [];
  visited = (view, visited.visit, (views, visited.told_is));
  placed = refl;
  counted = omega (arith, counted);
  parts_are = λ still. let no : Some (gates_in before.sites) ≡ None = not_still realm before still in cc no;
}

-- a turn was made, and counted
pub MadeTurn-visited : (realm : Realm) (pass : DeskKnown) (sites news : List (SiteId × SiteKnown)) (made now : ℕ)
    (cell : CellKey) (was : Option View) (view : View) (ask : Ask) (told : Told) (place : Place)
    → record { sites = sites; made = made } ≡ pass → views_in sites cell ≡ was
    → Visited realm was view cell ask told place → views_in news ≡ with_view (views_in sites) cell view
    → gates_in news ≡ gates_in sites → now ≡ made + (if place.changed then 1 else 0)
    → MadeTurn (caller_state realm pass) (caller_state realm (record { sites = news; made = now })) cell ask told place
MadeTurn-visited realm pass sites news made now cell was view ask told place is viewed visited views gates counted =
    let after : DeskKnown = record { sites = news; made = now } in
    subst (λ (p : DeskKnown). MadeTurn (caller_state realm p) (caller_state realm after) cell ask told place) is
    (made_there realm (record { sites = sites; made = made }) after cell view ask told place
    (subst (λ (o : Option View). Visited realm o view cell ask told place) (sym viewed) visited) views gates counted)

-- no turn was made
pub StoppedWithin-looks : {A : Type 0} (realm : Realm) (before after : DeskKnown) (cell : CellKey) (ask : Ask)
    (next : Told → Script A)
    → Looks realm before after cell
    → StoppedWithin 0 (caller_state realm before) (caller_state realm after) (turn cell ask next)
unfolding Halts
StoppedWithin-looks realm before after cell ask next looks = record {
  stopped = record {
    realm_stays = refl;
    gates_stay = ap (λ (g : Gates). Some g) looks.gates;
    turns = [];
    halted = looks.glances;
    counted = omega (arith, looks.made);
    parts_are = λ still. let no : Some (gates_in before.sites) ≡ None = not_still realm before still in cc no;
  };
  few = omega arith;
}

-- one more turn was made at a site, in the cell of that view
pub Looks-comes : (realm : Realm) (pass : DeskKnown) (sites news : List (SiteId × SiteKnown)) (made : ℕ)
    (cell : CellKey) (was : Option View) (view : View)
    → record { sites = sites; made = made } ≡ pass → views_in sites cell ≡ was → ExtendsView was view []
    → views_in news ≡ with_view (views_in sites) cell view → gates_in news ≡ gates_in sites
    → Looks realm pass (record { sites = news; made = made }) cell
Looks-comes realm pass sites news made cell was view is viewed comes views gates =
    let after : DeskKnown = record { sites = news; made = made } in
    subst (λ (p : DeskKnown). Looks realm p after cell) is (record {
      glances = inr (refl, (view, subst (λ (o : Option View). ExtendsView o view []) (sym viewed) comes, views));
      gates = gates;
      made = refl;
    })

-- nothing was seen or made
pub Looks-none : (realm : Realm) (pass : DeskKnown) (sites news : List (SiteId × SiteKnown)) (made : ℕ)
    (cell : CellKey)
    → record { sites = sites; made = made } ≡ pass → views_in news ≡ views_in sites
    → gates_in news ≡ gates_in sites → Looks realm pass (record { sites = news; made = made }) cell
Looks-none realm pass sites news made cell is views gates =
    subst (λ (p : DeskKnown). Looks realm p (record { sites = news; made = made }) cell) is
    (record { glances = inl views; gates = gates; made = refl })

-- the passes of a site with the same directory and doors leave all views
pub views_in-same : (sites news : List (SiteId × SiteKnown)) (site : SiteId) (before after : SiteKnown)
    → Passes sites news site before after → after.directory ≡ before.directory → after.doors ≡ before.doors
    → views_in news ≡ views_in sites
views_in-same sites news site before after passes directory doors = fun_ext (λ other.
    let of : Option SiteKnown → Option View = λ o. option_map_or (λ (s : SiteKnown). view_in s other) o None in
    let same : after ≡ before =
    ap (λ k. record { directory = k; doors = after.doors }) directory
    ∙ ap (λ ds. record { directory = before.directory; doors = ds }) doors in
    ap of (passes.updates (site_of_cell other))
    ∙ cond_both (is_at (site_order site) (site_of_cell other)) (Some after) (passes_at sites (site_of_cell other))
    (λ (o : Option SiteKnown). of o ≡ views_in sites other)
    (λ yes. ap (λ (s : SiteKnown). view_in s other) same
    ∙ sym (ap of (ap (passes_at sites) (sym (site-same site (site_of_cell other) yes)) ∙ passes.was)))
    (λ apart. refl))

-- a way into a repository stays where the directory's pass alone changed
pub LeadsInto-passes : (sites news : List (SiteId × SiteKnown)) (key : RepoKey) (before after : SiteKnown)
    (door : Option Known)
    → Passes sites news key.site before after → after.doors ≡ before.doors
    → IsWay (site_frame_of before.directory.gate.frame) before.doors key.name door → LeadsInto news key door
LeadsInto-passes sites news key before after door passes doors way = record {
  passes = after;
  found = passes.updates key.site
      ∙ cond-true (is_at (site_order key.site) key.site) (Some after) (passes_at sites key.site) (site-self key.site);
  way = subst (λ (ds : List (Name × Known)). IsWay (site_frame_of after.directory.gate.frame) ds key.name door)
      (sym doors)
      (subst (λ (g : Gate). IsWay (site_frame_of g.frame) before.doors key.name door) (sym passes.gate) way);
}

-- what comes of a call for one of that key
pub given_then : {K D E : Type 0} (o : Result D E) (key : Option K) (P Q : K → D → Type 0) (At : K → Type 0)
    → IfSome key At → ((k : K) (d : D) → At k → P k d → Q k d)
    → IfOk o (λ d. IfSome key (λ k. P k d)) → IfOk o (λ d. IfSome key (λ k. Q k d))
given_then (Ok d) None P Q At at f given = tt
given_then (Ok d) (Some k) P Q At at f given = f k d at given
given_then (Err e) key P Q At at f given = tt

-- ---- scripts

-- not even the turn in the directory was made
pub StoppedWithin-first_turn : (realm : Realm) (before after : DeskKnown) (key : RepoKey) (c : Call) (site : SiteId)
    → site ≡ key.site → Looks realm before after (Directory site)
    → StoppedWithin 0 (caller_state realm before) (caller_state realm after) (first_turn key c)
unfolding first_turn
StoppedWithin-first_turn realm before after key c site at looks =
    StoppedWithin-looks realm before after (Directory key.site) (first_ask key.name c) (λ told. ends told)
    (subst (λ (s : SiteId). Looks realm before after (Directory s)) at looks)

-- not even the turn of a call on a site was made
pub StoppedWithin-site_script : (realm : Realm) (before after : DeskKnown) (site copy : SiteId) (c : SiteCall)
    → copy ≡ site → Looks realm before after (Directory copy)
    → StoppedWithin 0 (caller_state realm before) (caller_state realm after) (site_script site c)
unfolding site_script
StoppedWithin-site_script realm before after site copy c at looks =
    StoppedWithin-looks realm before after (Directory site) (site_call c) (λ told. ends (site_told told))
    (subst (λ (s : SiteId). Looks realm before after (Directory s)) at looks)

-- not the turn in the repository
pub StoppedWithin-cell_turn : (realm : Realm) (before after : DeskKnown) (key copy : RepoKey) (c : Call)
    (given : Option (List ℕ)) (moment : ℕ)
    → copy ≡ key → Looks realm before after (Repository copy)
    → StoppedWithin 0 (caller_state realm before) (caller_state realm after) (cell_turn key c given moment)
StoppedWithin-cell_turn realm before after key copy c given moment at looks =
    StoppedWithin-looks realm before after (Repository key) (call (beside_of given moment) c)
    (λ told. ends (reply_told told))
    (subst (λ (k : RepoKey). Looks realm before after (Repository k)) at looks)

-- ---- the desk

-- the sites and limits of a site's turnstile are the desk's
pub frame_of-gate : (served : List SiteId) (limits : Limits) (sites : List (SiteId × Gate)) (site : SiteId)
    (gate : Gate)
    → AreGates served limits sites → gate_at sites site ≡ Some gate
    → gate.frame ≡ frame_of_directory (record { site = site; served = served; limits = limits })
frame_of-gate served limits sites site gate are found =
    subst (λ (o : Option Gate). IfSome o (λ x. x.frame ≡ frame_of_directory
    (record { site = site; served = served; limits = limits }))) found (are.each site)

-- a way into a repository goes through a turnstile with the desk's sites and limits
pub LeadsInto-gate : (served : List SiteId) (limits : Limits) (gates : List (SiteId × Gate))
    (sites : List (SiteId × SiteKnown)) (key copy : RepoKey) (door : Option Known) (way : LeadsInto sites key door)
    → AreGates served limits gates → gates_in sites ≡ gate_at gates → copy ≡ key
    → (gates_in sites copy.site ≡ Some way.passes.directory.gate)
    × (realm_of_frame way.passes.directory.gate.frame ≡ record { served = served; limits = limits })
LeadsInto-gate served limits gates sites key copy door way are of same =
    let is : gates_in sites key.site ≡ Some way.passes.directory.gate =
    ap (option_map (λ (s : SiteKnown). s.directory.gate)) way.found in (
      ap (λ (k : RepoKey). gates_in sites k.site) same ∙ is,
      ap realm_of_frame (frame_of-gate served limits gates key.site way.passes.directory.gate are
          (sym (ap (λ (f : Gates). f key.site) of) ∙ is)),
    )
