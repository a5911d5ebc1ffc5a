use Rattle.std.proofs.Common.{◌≡◌, Option, Some, is_some, IfSome, option_map, sym, ap, ◌∙◌, subst}
use Rattle.std.proofs.lemmas.Result.{IfOk-weaker}
use Rattle.ecr_model.specs.declared.registry.journal.CellKey.TheVariants.{Repository}
use Rattle.ecr_model.specs.registry.Scripts.{Realm}
use Rattle.ecr_turn.specs.Passes.{Gate, Known, known_in}
use Rattle.ecr_cells.specs.Deeds.{ask_of, told_of}
use Rattle.ecr_cells.specs.Doors.{Hangs, Visited, door_at, frame_of_name, realm_of_frame, site_frame_of, view_of}
use Rattle.ecr_cells.specs.Shared.{Enters, SiteKnown}
use Rattle.ecr_cells.proofs.SharedViewLemmas.{AreDoorsOfSite-hangs}
use Rattle.ecr_cells.proofs.shared.site.SitePass.again.Goals as goal

pub invariant_of-self : goal.invariant_of-self
invariant_of-self g c =
    let s = c.self.inside in
    let name = c.args.key.name in
    let site = site_frame_of (known_in s.pass).gate.frame in
    let news = (c.get_mut.follows.lender c.make.new.self).entries in
    let found : door_at s.doors.entries name ≡ Some c.in-Some.door.now = sym c.in-Some.ensures.value in
    let hangs : Hangs s.doors.entries news name c.make.new.self =
    ((c.get_mut.follows.holds c.make.new.self).3 (ap is_some found)).0 in
    let frame : c.in-Some.door.now.gate.frame ≡ frame_of_name site name =
    subst (λ (o : Option Known). IfSome o (λ d. d.gate.frame ≡ frame_of_name site name)) found
    (c.self.invariant.1 name) in (
      c.self.invariant.0,
      AreDoorsOfSite-hangs site s.doors.entries news name c.make.new.self c.self.invariant.1
          (ap (λ (x : Gate). x.frame) c.make.ensures.gate ∙ frame) hangs,
    )

pub returns-clause-entered : goal.returns-clause-entered
returns-clause-entered g c =
    let s = c.self.inside in
    let key = c.args.key in
    let ask = ask_of c.args.deed in
    let site = site_frame_of (known_in s.pass).gate.frame in
    let news = (c.get_mut.follows.lender c.make.new.self).entries in
    let door = c.in-Some.door.now in
    let found : door_at s.doors.entries key.name ≡ Some door = sym c.in-Some.ensures.value in
    let hangs : Hangs s.doors.entries news key.name c.make.new.self =
    ((c.get_mut.follows.holds c.make.new.self).3 (ap is_some found)).0 in
    let frame : door.gate.frame ≡ frame_of_name site key.name =
    subst (λ (o : Option Known). IfSome o (λ d. d.gate.frame ≡ frame_of_name site key.name)) found
    (c.self.invariant.1 key.name) in
    IfOk-weaker c.make.result
    (λ t. Visited (realm_of_frame door.gate.frame) (Some (view_of door)) (view_of c.make.new.self) (Repository key) ask
    (told_of t.0) t.1)
    (λ t. Enters (realm_of_frame c.args.self.now.directory.gate.frame) c.args.self.now.doors news key ask
    (told_of t.0) t.1)
    (λ t visited. subst (λ (k : SiteKnown). Enters (realm_of_frame k.directory.gate.frame) k.doors news key ask
    (told_of t.0) t.1) c.self.view_is (record {
      now = c.make.new.self;
      hangs = hangs;
      visited = subst (λ (o : Option Known). Visited (realm_of_frame (known_in s.pass).gate.frame)
          (option_map view_of o) (view_of c.make.new.self) (Repository key) ask (told_of t.0) t.1)
          (sym found)
          (subst (λ (r : Realm). Visited r (Some (view_of door)) (view_of c.make.new.self) (Repository key) ask
          (told_of t.0) t.1) (ap realm_of_frame frame) visited);
    }))
    c.make.ensures.visited
