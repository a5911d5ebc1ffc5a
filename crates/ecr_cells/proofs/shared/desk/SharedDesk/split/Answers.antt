use Rattle.std.proofs.Common.{◌≡◌, List, take, IsSome, All, refl, sym, ap, ◌∙◌, subst}
use Rattle.std.proofs.lemmas.List.{take_all}
use Rattle.std.specs.Map.{keys_of}
use Rattle.ecr_model.specs.declared.names.SiteId.{SiteId}
use Rattle.ecr_desk.specs.Desks.{Gates, PassState}
use Rattle.ecr_cells.specs.Shared.{DeskKnown, gate_at, gates_in, pass_of, passes_at, views_in}
use Rattle.ecr_cells.specs.Splits.{AreSitesSplitting, IsSplitOff, SplitsSite}
use Rattle.ecr_cells.proofs.SplitLemmas.{AreSitesSplitting-none, AreSitesSplitting-splits, IsSome-gate, gates_in-split, views_in-split}
use Rattle.ecr_cells.proofs.shared.desk.SharedDesk.split.Goals as goal

pub loop-site-init : goal.loop-site-init
loop-site-init g c = record {
  kept = refl;
  splitting = AreSitesSplitting-none (pass_of c.args.pass.now) c.new-splits.result.entries
      c.as_slice-site-items.result.now c.new-splits.ensures.empty;
}

pub turnstile_of-turnstile-requires : goal.turnstile_of-turnstile-requires
turnstile_of-turnstile-requires g c =
    let sites = c.args.pass.now.sites in
    let names = c.as_slice-site-items.result.now in
    record {
      there = IsSome-gate sites (gate_at c.args.self.now.sites) names c.loop-site.site-index c.site-item.result
          c.requires.of
          (subst (λ (ss : List SiteId). All (λ s. IsSome (passes_at sites s)) ss)
          (sym c.as_slice-site-items.ensures.value)
          c.in_ok-sites.ensures.found)
          c.loop-site-test.true c.site-item.is;
    }

pub split_site-requires : goal.split_site-requires
split_site-requires g c =
    let site = c.site-item.result in
    record {
      of = ap (λ (p : PassState). p.gates site) c.loop-site.invariant.kept
          ∙ ap (λ (f : Gates). f site) c.requires.of ∙ c.turnstile_of-turnstile.ensures.found;
    }

pub returns-in_err-split_site-clause-kept : goal.returns-in_err-split_site-clause-kept
returns-in_err-split_site-clause-kept g c = c.split_site.ensures.kept ∙ c.loop-site.invariant.kept

pub loop-site-preserved : goal.loop-site-preserved
loop-site-preserved g c = record {
  kept = c.split_site.ensures.kept ∙ c.loop-site.invariant.kept;
  splitting = AreSitesSplitting-splits (pass_of c.args.pass.now) c.loop-site.splits.entries
      c.split_site.new.splits.entries c.as_slice-site-items.result.now c.loop-site.site-index c.site-item.result
      c.loop-site-test.true c.site-item.is c.loop-site.invariant.splitting
      (subst (λ (p : PassState). SplitsSite p c.loop-site.splits.entries c.split_site.new.splits.entries
      c.site-item.result)
      c.loop-site.invariant.kept c.in_ok-split_site.ensures.split);
}

pub returns-clause-kept : goal.returns-clause-kept
returns-clause-kept g c = c.loop-site.invariant.kept

pub returns-clause-of : goal.returns-clause-of
returns-clause-of g c =
    let names = c.as_slice-site-items.result.now in
    let before = c.args.pass.now in
    let whole : take c.loop-site.site-index names ≡ keys_of before.sites =
    take_all c.loop-site.site-index names c.loop-site-test.false ∙ c.as_slice-site-items.ensures.value
    ∙ c.in_ok-sites.ensures.sites in
    ap (λ (p : DeskKnown). gates_in p.sites) c.new.ensures
    ∙ gates_in-split before.sites c.loop-site.splits.entries before.made
    (subst (λ (ss : List SiteId). AreSitesSplitting (pass_of before) c.loop-site.splits.entries ss) whole
    c.loop-site.invariant.splitting)
    ∙ c.requires.of

pub returns-clause-seen : goal.returns-clause-seen
returns-clause-seen g c = λ cell.
    let names = c.as_slice-site-items.result.now in
    let before = c.args.pass.now in
    let whole : take c.loop-site.site-index names ≡ keys_of before.sites =
    take_all c.loop-site.site-index names c.loop-site-test.false ∙ c.as_slice-site-items.ensures.value
    ∙ c.in_ok-sites.ensures.sites in
    subst (λ (p : DeskKnown). IsSplitOff (views_in before.sites cell) (views_in p.sites cell)) (sym c.new.ensures)
    (views_in-split before.sites c.loop-site.splits.entries before.made cell
    (subst (λ (ss : List SiteId). AreSitesSplitting (pass_of before) c.loop-site.splits.entries ss) whole
    c.loop-site.invariant.splitting))

pub returns-clause-none_made : goal.returns-clause-none_made
returns-clause-none_made g c = ap (λ (p : DeskKnown). p.made) c.new.ensures
