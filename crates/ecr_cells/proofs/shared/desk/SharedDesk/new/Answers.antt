use Rattle.std.proofs.Common.{◌≡◌, ◌+◌, ◌<◌, ◌≤◌, ◌++◌, ◌∷◌, List, [], length, take, get_or, sym, ap, ◌∙◌, subst}
use Rattle.std.proofs.lemmas.List.{take_more, take_all}
use Rattle.std.proofs.Math.Path.{fun_ext}
use Rattle.ecr_model.specs.declared.names.SiteId.{SiteId}
use Rattle.ecr_cells.specs.Shared.{AreGates, AreOpen, DeskKnown, HasSeenNothing, Opens, gates_in, pass_of}
use Rattle.ecr_cells.proofs.SharedDeskLemmas.{AreGates-open, AreOpen-none, AreOpen-opens, HasSeenNothing-open}
use Rattle.ecr_cells.proofs.shared.desk.SharedDesk.new.Goals as goal

pub loop-site-init : goal.loop-site-init
loop-site-init c =
    AreOpen-none c.args.sites.items c.args.limits c.new-gates.result.entries c.new-passes.result.entries
    c.new-gates.ensures.empty c.new-passes.ensures.empty

pub loop-site-preserved : goal.loop-site-preserved
loop-site-preserved c =
    let served = c.args.sites.items in
    let i = c.loop-site.site-index in
    let site = c.site-item.result in
    let items : c.as_slice-site-items.result.now ≡ served = c.as_slice-site-items.ensures.items
    ∙ c.from_vec-served.ensures.items in
    let less : i < length served = subst (λ (xs : List SiteId). i < length xs) items c.loop-site-test.true in
    let is : site ≡ get_or served i site = c.site-item.is ∙ ap (λ xs. get_or xs i site) items in
    let more : take i served ++ site ∷ [] ≡ take (i + 1) served =
    ap (λ s. take i served ++ s ∷ []) is ∙ sym (take_more served i site less) in
    subst (λ (xs : List SiteId). AreOpen served c.args.limits c.open.new.gates.entries c.open.new.passes.entries xs)
    more
    (AreOpen-opens served c.args.limits c.loop-site.gates.entries c.open.new.gates.entries
    c.loop-site.passes.entries c.open.new.passes.entries (take i served) site c.loop-site.invariant
    (subst (λ (xs : List SiteId). Opens c.loop-site.gates.entries c.open.new.gates.entries c.loop-site.passes.entries
    c.open.new.passes.entries
    (record { site = site; served = xs; limits = c.args.limits })) c.from_vec-served.ensures.items
    c.in_ok-open.ensures))

pub invariant_of-desk : goal.invariant_of-desk
invariant_of-desk c =
    let served = c.args.sites.items in
    let items : c.as_slice-site-items.result.now ≡ served = c.as_slice-site-items.ensures.items
    ∙ c.from_vec-served.ensures.items in
    let whole : take c.loop-site.site-index served ≡ served =
    take_all c.loop-site.site-index served
    (subst (λ (xs : List SiteId). length xs ≤ c.loop-site.site-index) items c.loop-site-test.false) in
    let are = c.loop-site.invariant in
    subst (λ (xs : List SiteId). AreGates xs c.args.limits c.loop-site.gates.entries)
    (sym c.from_vec-served.ensures.items)
    (AreGates-open served c.args.limits c.loop-site.gates.entries c.loop-site.passes.entries
    (subst (λ (xs : List SiteId). AreOpen served c.args.limits c.loop-site.gates.entries c.loop-site.passes.entries xs)
    whole are))

pub returns-clause-of : goal.returns-clause-of
returns-clause-of c =
    ap (λ (p : DeskKnown). gates_in p.sites) c.new.ensures ∙ fun_ext c.loop-site.invariant.same

pub returns-clause-fresh : goal.returns-clause-fresh
returns-clause-fresh c =
    subst (λ (p : DeskKnown). HasSeenNothing (pass_of p)) (sym c.new.ensures)
    (HasSeenNothing-open c.args.sites.items c.args.limits c.loop-site.gates.entries c.loop-site.passes.entries
    (take c.loop-site.site-index c.args.sites.items) c.loop-site.invariant)
