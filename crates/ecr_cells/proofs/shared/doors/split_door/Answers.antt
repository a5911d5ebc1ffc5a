use Rattle.std.proofs.Common.{◌≡◌, Option, Some, sym, ap, subst}
use Rattle.std.proofs.lemmas.Result.{on_ok_weaker}
use Rattle.ecr_model.specs.declared.names.Name.{Name}
use Rattle.ecr_turn.specs.Passes.{Known}
use Rattle.ecr_cells.specs.Doors.{Hangs, door_at}
use Rattle.ecr_cells.specs.Splits.{IsSplitFrom, standing}
use Rattle.ecr_cells.proofs.SplitLemmas.{DoorsStay-lent}
use Rattle.ecr_cells.proofs.shared.doors.split_door.Goals as goal

pub returns-in_err-other-in-Some-clause-kept : goal.returns-in_err-other-in-Some-clause-kept
returns-in_err-other-in-Some-clause-kept g c =
    let after = c.another.new.self in
    DoorsStay-lent _ (c.get_mut.follows.lender after).entries c.args.name.now _ after c.in-Some.ensures.value
    (ap standing c.another.ensures.kept) (λ there. ((c.get_mut.follows.holds after).3 there).0)

pub returns-clause-kept : goal.returns-clause-kept
returns-clause-kept g c =
    let after = c.another.new.self in
    DoorsStay-lent _ (c.get_mut.follows.lender after).entries c.args.name.now _ after c.in-Some.ensures.value
    (ap standing c.another.ensures.kept) (λ there. ((c.get_mut.follows.holds after).3 there).0)

pub returns-clause-split : goal.returns-clause-split
unfolding IsSplitFrom
returns-clause-split g c =
    let doors = c.args.doors.now.entries in
    let splits = c.args.splits.now.entries in
    let news = c.hang.new.doors.entries in
    let name = c.args.name.now in
    let other = c.in_ok-other-in-Some.other in
    let given = c.in_ok-other-in-Some.ensures.given in
    let found : door_at doors name ≡ Some c.in-Some.door.now = sym c.in-Some.ensures.value in
    on_ok_weaker c.hang.result
    (λ hung. record {
      door = other;
      from = subst (λ (o : Option Known). IsSplitFrom o (Some other)) (sym found)
          (given.0, given.1, given.2, c.in_ok-other-in-Some.ensures.new);
      hangs = subst (λ (n : Name). Hangs splits news n other) c.in_ok-copy.ensures hung;
    })
    c.hang.ensures.hung
