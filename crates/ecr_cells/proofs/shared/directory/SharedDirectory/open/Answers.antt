use Rattle.std.proofs.Common.{◌≡◌, sym, ap, ◌∙◌, subst}
use Rattle.ecr_model.specs.declared.registry.journal.CellKey.TheVariants.{Repository}
use Rattle.ecr_model.specs.declared.registry.journal.Frame.{Frame}
use Rattle.ecr_model.specs.declared.registry.journal.Limits.{Limits}
use Rattle.ecr_model.specs.declared.names.Name.{Name}
use Rattle.ecr_model.specs.declared.names.RepoKey.{RepoKey}
use Rattle.ecr_model.specs.declared.names.SiteId.{SiteId}
use Rattle.ecr_site.specs.States.{frame_of_journal}
use Rattle.ecr_cells.specs.Doors.{DirectoryAt, Hangs, IsOpened, frame_of_name, frame_of_repository}
use Rattle.ecr_cells.proofs.SharedViewLemmas.{AreDoors-hangs}
use Rattle.ecr_cells.proofs.shared.directory.SharedDirectory.open.Goals as goal

pub invariant_of-self-2 : goal.invariant_of-self-2
invariant_of-self-2 g c =
    let d = c.self.inside in
    let key = c.args.key.now in
    let dir = d.directory in
    let news = c.hang.new.doors.entries in
    let at : key.site ≡ dir.site = c.requires.at ∙ ap (λ (x : DirectoryAt). x.directory.site) (sym c.self.view_is) in
    let frame : frame_of_repository c.in_ok-repository.repository ≡ frame_of_name (frame_of_journal dir) key.name =
    ap frame_of_repository c.in_ok-repository.ensures
    ∙ ap {B = Frame} (λ (k : RepoKey). record { cell = Repository k; served = dir.served; limits = d.limits })
    c.in_ok-copy.ensures
    ∙ ap {B = Frame} (λ (s : SiteId). record {
      cell = Repository (record { site = s; name = key.name });
      served = dir.served;
      limits = d.limits;
    }) at
    ∙ ap {B = Frame} (λ (l : Limits). record {
      cell = Repository (record { site = dir.site; name = key.name });
      served = dir.served;
      limits = l;
    }) c.self.invariant.limited in
    let hung : Hangs d.doors.entries news key.name c.another.new.self =
    subst (λ (n : Name). Hangs d.doors.entries news n c.another.new.self) c.in_ok-name.ensures
    c.in_ok-hang.ensures.hung in
    let was : IsOpened (frame_of_repository c.in_ok-repository.repository) c.in_ok-first.first =
    c.in_ok-first.ensures.opened in
    let is : IsOpened (frame_of_name (frame_of_journal dir) key.name) c.another.new.self =
    subst (IsOpened (frame_of_name (frame_of_journal dir) key.name)) (sym c.another.ensures.kept)
    (record { frame_is = was.frame_is ∙ frame; at_first = was.at_first; unseen = was.unseen }) in
    AreDoors-hangs d.limits (frame_of_journal dir) d.doors.entries news key.name c.another.new.self
    c.self.invariant is hung
