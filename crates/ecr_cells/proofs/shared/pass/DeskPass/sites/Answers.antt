use Rattle.std.proofs.Common.{◌++◌, List, All, IsSome, sym, ap, ◌∙◌, subst}
use Rattle.std.specs.Map.{keys_of}
use Rattle.ecr_model.specs.declared.names.SiteId.{SiteId}
use Rattle.ecr_cells.specs.Shared.{DeskKnown, passes_at}
use Rattle.ecr_cells.proofs.KeyLemmas.{copied-all, copied-more}
use Rattle.ecr_cells.proofs.shared.pass.DeskPass.sites.Goals as goal

pub loop-site-init : goal.loop-site-init
loop-site-init c =
    ap (λ (ss : List SiteId). ss ++ c.into_iter-site-iterator.result) c.new-sites.ensures.items
    ∙ c.into_iter-site-iterator.ensures.into_iter_gives ∙ c.keys-site-items.ensures.rest
    ∙ ap (λ (p : DeskKnown). keys_of p.sites) c.self.view_is

pub loop-site-preserved : goal.loop-site-preserved
loop-site-preserved c =
    copied-more c.loop-site.sites.items _ _ c.in-Some.site.now _ c.in_ok-push.ensures.items c.in_ok-copy_of.ensures
    c.in-Some.ensures.steps c.loop-site.invariant

pub returns-clause-sites : goal.returns-clause-sites
returns-clause-sites c = copied-all c.loop-site.sites.items _ c.in-None.ensures.steps.0 c.loop-site.invariant

pub returns-clause-found : goal.returns-clause-found
returns-clause-found c =
    let sites = c.args.self.now.sites in
    let found : All (λ s. IsSome (passes_at sites s)) (keys_of sites) =
    subst (λ (p : DeskKnown). All (λ s. IsSome (passes_at p.sites s)) (keys_of p.sites)) c.self.view_is
    c.keys-site-items.ensures.found in
    subst (λ (ss : List SiteId). All (λ s. IsSome (passes_at sites s)) ss)
    (sym (copied-all c.loop-site.sites.items _ c.in-None.ensures.steps.0 c.loop-site.invariant)) found
