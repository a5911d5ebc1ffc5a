use Rattle.std.proofs.Common.{◌≡◌, Option, None, IsSome, inr, refl, sym, ap, ◌∙◌, subst}
use Rattle.std.proofs.lemmas.Result.{IfOk-weaker, on_err_weaker}
use Rattle.ecr_model.specs.declared.names.Name.{Name}
use Rattle.ecr_turn.specs.Passes.{Known, known_in}
use Rattle.ecr_cells.specs.Deeds.{ask_of, told_of}
use Rattle.ecr_cells.specs.Doors.{Hangs, door_at, frame_of_name, realm_of_frame, site_frame_of}
use Rattle.ecr_cells.specs.Shared.{Enters, Peers, SiteKnown}
use Rattle.ecr_cells.proofs.SharedViewLemmas.{AreDoorsOfSite-hangs, Enters-first, Hangs-there, Peers-first}
use Rattle.ecr_cells.proofs.shared.site.SitePass.through.Goals as goal

pub invariant_of-self-2 : goal.invariant_of-self-2
invariant_of-self-2 g c =
    let s = c.self.inside in
    let site = site_frame_of (known_in s.pass).gate.frame in
    let hung : Hangs s.doors.entries c.hang.new.doors.entries c.args.key.name c.args.door =
    subst (λ (n : Name). Hangs s.doors.entries c.hang.new.doors.entries n c.args.door) c.in_ok-name.ensures
    c.in_ok-hang.ensures.hung in (
      c.self.invariant.0,
      AreDoorsOfSite-hangs site s.doors.entries c.hang.new.doors.entries c.args.key.name c.args.door c.self.invariant.1
          (subst (λ (k : SiteKnown). c.args.door.gate.frame ≡ frame_of_name (site_frame_of k.directory.gate.frame)
          c.args.key.name)
          (sym c.self.view_is) c.requires.opened.frame_is) hung,
    )

pub again-requires-clause-there : goal.again-requires-clause-there
again-requires-clause-there g c =
    let hung : Hangs c.self.inside.doors.entries c.hang.new.doors.entries c.args.key.name c.args.door =
    subst (λ (n : Name). Hangs c.self.inside.doors.entries c.hang.new.doors.entries n c.args.door)
    c.in_ok-name.ensures c.in_ok-hang.ensures.hung in
    subst (λ (o : Option Known). IsSome o)
    (sym (Hangs-there c.self.inside.doors.entries c.hang.new.doors.entries c.args.key.name c.args.door hung)) refl

pub returns-clause-entered : goal.returns-clause-entered
returns-clause-entered g c =
    let s = c.self.inside in
    let key = c.args.key in
    let mid = c.hang.new.doors.entries in
    let realm = realm_of_frame (known_in s.pass).gate.frame in
    let ask = ask_of c.args.deed in
    let hung : Hangs s.doors.entries mid key.name c.args.door =
    subst (λ (n : Name). Hangs s.doors.entries mid n c.args.door) c.in_ok-name.ensures c.in_ok-hang.ensures.hung in
    let absent : door_at s.doors.entries key.name ≡ None =
    ap (λ (k : SiteKnown). door_at k.doors key.name) c.self.view_is ∙ c.requires.first in
    IfOk-weaker c.again.result
    (λ t. Enters realm mid c.again.new.self.doors key ask (told_of t.0) t.1)
    (λ t. Enters (realm_of_frame c.args.self.now.directory.gate.frame) c.args.self.now.doors
    c.again.new.self.doors key ask
    (told_of t.0) t.1)
    (λ t entered. subst (λ (k : SiteKnown). Enters (realm_of_frame k.directory.gate.frame) k.doors
    c.again.new.self.doors
    key ask (told_of t.0) t.1) c.self.view_is
    (Enters-first realm s.doors.entries mid c.again.new.self.doors key c.args.door ask (told_of t.0) t.1
    absent c.requires.opened.at_first c.requires.opened.unseen hung entered))
    c.again.ensures.entered

pub returns-clause-err : goal.returns-clause-err
returns-clause-err g c =
    let s = c.self.inside in
    let key = c.args.key in
    let mid = c.hang.new.doors.entries in
    let hung : Hangs s.doors.entries mid key.name c.args.door =
    subst (λ (n : Name). Hangs s.doors.entries mid n c.args.door) c.in_ok-name.ensures c.in_ok-hang.ensures.hung in
    let absent : door_at s.doors.entries key.name ≡ None =
    ap (λ (k : SiteKnown). door_at k.doors key.name) c.self.view_is ∙ c.requires.first in
    on_err_weaker c.again.result
    (λ peers. inr (subst (λ (k : SiteKnown). Peers k.doors c.again.new.self.doors key) c.self.view_is
    (Peers-first s.doors.entries mid c.again.new.self.doors key c.args.door absent c.requires.opened.at_first
    c.requires.opened.unseen hung peers)))
    c.again.ensures.err
