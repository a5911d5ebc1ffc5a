use Rattle.std.proofs.Common.{◌≡◌, Some, Option, refl, sym, ap, ◌∙◌, subst}
use Rattle.ecr_turn.specs.Passes.{Gate, Known, known_in}
use Rattle.ecr_cells.specs.Doors.{site_frame_of}
use Rattle.ecr_cells.specs.Shared.{SiteKnown, AreDoorsOfSite}
use Rattle.ecr_cells.specs.Splits.{AreSplit, IsSplitFrom}
use Rattle.ecr_cells.proofs.SplitLemmas.{AreDoorsOfSite-split}
use Rattle.ecr_cells.proofs.shared.site.SitePass.split.Goals as goal

pub invariant_of-result : goal.invariant_of-result
invariant_of-result g c =
    let s = c.self.inside in
    let splits = c.in_ok-doors.doors.entries in
    let other = c.in_ok-other-in-Some.other in
    let gate : (known_in s.pass).gate ≡ other.gate =
    ap (λ (o : Option Known). (known_in o).gate) c.in-Some.is ∙ sym c.in_ok-other-in-Some.ensures.given.0 in (
      refl,
      AreDoorsOfSite-split (site_frame_of other.gate.frame) s.doors.entries splits
          (subst (λ (x : Gate). AreDoorsOfSite (site_frame_of x.frame) s.doors.entries) gate c.self.invariant.1)
          c.in_ok-doors.ensures.split,
    )

pub returns-clause-split : goal.returns-clause-split
unfolding IsSplitFrom
returns-clause-split g c =
    let s = c.self.inside in
    let other = c.in_ok-other-in-Some.other in
    let given = c.in_ok-other-in-Some.ensures.given in
    let known : c.in-Some.pass ≡ c.args.self.now.directory =
    sym (ap known_in c.in-Some.is) ∙ ap (λ (k : SiteKnown). k.directory) c.self.view_is in
    record {
      directory = subst (λ (k : Known). IsSplitFrom (Some k) (Some other)) known
          (given.0, given.1, given.2, c.in_ok-other-in-Some.ensures.new.0);
      doors = subst (λ (k : SiteKnown). AreSplit k.doors c.in_ok-doors.doors.entries) c.self.view_is
          c.in_ok-doors.ensures.split;
    }
