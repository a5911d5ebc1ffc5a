use Rattle.std.proofs.Common.{◌≡◌, Some, sym, subst}
use Rattle.ecr_model.specs.declared.names.SiteId.{SiteId}
use Rattle.ecr_cells.specs.Shared.{Becomes, DeskKnown, pass_of, passes_at}
use Rattle.ecr_cells.specs.Splits.{IsSplitAt}
use Rattle.ecr_cells.proofs.SharedViewLemmas.{gate-found}
use Rattle.ecr_cells.proofs.SplitLemmas.{IsSplitAt-site, pass_of-lent}
use Rattle.ecr_cells.proofs.shared.pass.DeskPass.split_site.Goals as goal

pub split-requires : goal.split-requires
split-requires g c =
    record { of = gate-found _ _ _ c.args.site.now _ _ c.self.view_is c.in-Some.ensures.value c.requires.of }

pub returns-in_err-other-in-Some-clause-kept : goal.returns-in_err-other-in-Some-clause-kept
returns-in_err-other-in-Some-clause-kept g c =
    pass_of-lent _ _ _ _ c.args.site.now _ _ c.self.view_is c.in-Some.ensures.value c.split.ensures.kept
    (λ there. ((c.get_mut.follows.holds c.split.new.self).3 there).0)

pub returns-in_err-insert-in-Some-clause-kept : goal.returns-in_err-insert-in-Some-clause-kept
returns-in_err-insert-in-Some-clause-kept g c =
    pass_of-lent _ _ _ _ c.args.site.now _ _ c.self.view_is c.in-Some.ensures.value c.split.ensures.kept
    (λ there. ((c.get_mut.follows.holds c.split.new.self).3 there).0)

pub returns-clause-kept : goal.returns-clause-kept
returns-clause-kept g c =
    pass_of-lent _ _ _ _ c.args.site.now _ _ c.self.view_is c.in-Some.ensures.value c.split.ensures.kept
    (λ there. ((c.get_mut.follows.holds c.split.new.self).3 there).0)

pub returns-clause-split : goal.returns-clause-split
returns-clause-split g c =
    let sites = c.self.inside.sites.entries in
    let site = c.args.site.now in
    let splits = c.args.splits.now.entries in
    let other = c.in_ok-other-in-Some.other in
    let found : passes_at sites site ≡ Some c.in-Some.passes.now = sym c.in-Some.ensures.value in
    record {
      passes = other;
      from = subst (λ (p : DeskKnown). IsSplitAt (pass_of p) site other) c.self.view_is
          (IsSplitAt-site sites c.self.inside.made site c.in-Some.passes.now other found
          c.in_ok-other-in-Some.ensures.split);
      hangs = subst (λ (s : SiteId). Becomes splits c.insert.new.self.entries s other) c.in_ok-copy.ensures
          c.in_ok-insert-in-Some.ensures.updates.0;
    }
