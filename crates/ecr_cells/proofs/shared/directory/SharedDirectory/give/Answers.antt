use Rattle.std.proofs.Common.{◌≡◌, Option, Some, is_some, IfSome, sym, ap, subst}
use Rattle.ecr_turn.specs.Passes.{Known}
use Rattle.ecr_site.specs.States.{frame_of_journal}
use Rattle.ecr_cells.specs.Doors.{Hangs, IsOpened, door_at, frame_of_name}
use Rattle.ecr_cells.proofs.SharedViewLemmas.{AreDoors-hangs}
use Rattle.ecr_cells.proofs.shared.directory.SharedDirectory.give.Goals as goal

pub invariant_of-self : goal.invariant_of-self
invariant_of-self g c =
    let d = c.self.inside in
    let name = c.args.key.now.name in
    let site = frame_of_journal d.directory in
    let news = (c.get_mut.follows.lender c.another.new.self).entries in
    let found : door_at d.doors.entries name ≡ Some c.in-Some.door.now = sym c.in-Some.ensures.value in
    let hangs : Hangs d.doors.entries news name c.another.new.self =
    ((c.get_mut.follows.holds c.another.new.self).3 (ap is_some found)).0 in
    let was : IsOpened (frame_of_name site name) c.in-Some.door.now =
    subst (λ (o : Option Known). IfSome o (IsOpened (frame_of_name site name))) found (c.self.invariant.named name) in
    let is : IsOpened (frame_of_name site name) c.another.new.self =
    subst (IsOpened (frame_of_name site name)) (sym c.another.ensures.kept)
    (record { frame_is = was.frame_is; at_first = was.at_first; unseen = was.unseen }) in
    AreDoors-hangs d.limits site d.doors.entries news name c.another.new.self c.self.invariant is hangs
