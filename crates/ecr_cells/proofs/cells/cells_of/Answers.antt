use Rattle.std.proofs.Common.{◌≡◌, ◌+◌, ◌<◌, ◌≤◌, ◌++◌, ◌∷◌, List, [], IsSome, length, take, get_or, sym, ap, ◌∙◌, subst, arith}
use Rattle.std.proofs.lemmas.List.Elements.{All-push, All-weaker, All-same}
use Rattle.std.proofs.lemmas.List.{take_more, take_all}
use Rattle.ecr_model.specs.declared.names.SiteId.{SiteId}
use Rattle.ecr_cells.specs.SiteCells.{Site}
use Rattle.ecr_cells.specs.Desks.{site_at, AreEmpty}
use Rattle.ecr_cells.proofs.WorldLemmas.{AreEmpty-adds, IsSome-adds, IsSome-added, AreKept-empty, world_of-empty}
use Rattle.ecr_cells.proofs.cells.cells_of.Goals as goal

pub loop-site-init : goal.loop-site-init
loop-site-init c = record {
  empty = subst (λ (es : List (SiteId × Site)). AreEmpty c.args.served.now c.args.limits es)
      (sym c.new-cells.ensures.empty) (λ site. tt);
  all = λ k d h. absurd (omega (arith, h));
}

pub loop-site-preserved : goal.loop-site-preserved
loop-site-preserved c =
    let sites = c.loop-site.cells.entries in
    let news = c.add.new.cells.entries in
    let served = c.args.served.now in
    let i = c.loop-site.site-index in
    let site = c.site-item.result in
    let less : i < length served =
    subst (λ (xs : List SiteId). i < length xs) c.as_slice-site-items.ensures.items c.loop-site-test.true in
    let more : take (i + 1) served ≡ take i served ++ get_or served i site ∷ [] = take_more served i site less in
    let is : site ≡ get_or served i site =
    c.site-item.is ∙ ap (λ xs. get_or xs i site) c.as_slice-site-items.ensures.items in
    record {
      empty = AreEmpty-adds served c.args.limits sites news site c.loop-site.invariant.empty c.in_ok-add.ensures;
      all = All-same (λ s. IsSome (site_at news s)) (take (i + 1) served)
          (take i served ++ get_or served i site ∷ []) more
          (All-push (λ s. IsSome (site_at news s)) (take i served) (get_or served i site)
          (All-weaker (λ s. IsSome (site_at sites s)) (λ s. IsSome (site_at news s))
          (IsSome-adds served c.args.limits sites news site c.in_ok-add.ensures)
          (take i served) c.loop-site.invariant.all)
          (subst (λ (s : SiteId). IsSome (site_at news s)) is
          (IsSome-added served c.args.limits sites news site c.in_ok-add.ensures)));
    }

pub returns-clause-kept : goal.returns-clause-kept
returns-clause-kept c =
    let served = c.args.served.now in
    let whole : take c.loop-site.site-index served ≡ served =
    take_all c.loop-site.site-index served (subst (λ (xs : List SiteId). length xs ≤ c.loop-site.site-index)
    c.as_slice-site-items.ensures.items c.loop-site-test.false) in
    AreKept-empty served c.args.limits c.loop-site.cells.entries c.loop-site.invariant.empty
    (All-same (λ s. IsSome (site_at c.loop-site.cells.entries s)) served (take c.loop-site.site-index served)
    (sym whole) c.loop-site.invariant.all)

pub returns-clause-fresh : goal.returns-clause-fresh
returns-clause-fresh c = world_of-empty c.args.served.now c.args.limits c.loop-site.cells.entries
    c.loop-site.invariant.empty
