use Rattle.std.proofs.Common.{◌≡◌, [], None, sym, ap, ◌∙◌, subst}
use Rattle.ecr_model.specs.declared.registry.journal.CellKey.TheVariants.{Repository}
use Rattle.ecr_model.specs.declared.names.Name.{Name}
use Rattle.ecr_repo.specs.States.{State}
use Rattle.ecr_cells.specs.Deeds.{ask_of, told_of}
use Rattle.ecr_cells.specs.SiteCells.{Site, IsOfName, IsTurn, Puts, state_of_name, lines_of_name}
use Rattle.ecr_cells.proofs.SiteLemmas.{AreOfSite-put, IsOfName-new, IsTurn-repository, lines_of_name-none}
use Rattle.ecr_cells.proofs.site_cells.SiteCells.in_new.Goals as goal

pub invariant_of-self-2 : goal.invariant_of-self-2
invariant_of-self-2 c =
    let s = c.self.inside in
    let name = c.args.key.name in
    let news = c.put.new.repositories.entries in
    let is : IsOfName s.directory name c.in_ok-cell.cell =
    IsOfName-new s.directory c.args.key s.limits c.in_ok-cell.cell c.self.invariant.limited
    (ap (λ (h : Site). h.directory.site) c.self.view_is ∙ c.requires.at)
    (c.in_ok-cell.ensures ∙ ap (λ k. record { key = k; limits = s.limits; journal = [] }) c.in_ok-copy_of.ensures) in
    let puts : Puts s.repositories.entries news name c.next_in.new.cell =
    subst (λ (n : Name). Puts s.repositories.entries news n c.next_in.new.cell) c.in_ok-name.ensures
    c.in_ok-put.ensures.put in
    AreOfSite-put s.limits s.directory s.repositories.entries news name c.next_in.new.cell c.self.invariant
    (record {
      key = c.next_in.ensures.stays.0 ∙ is.key;
      limits = c.next_in.ensures.stays.1 ∙ is.limits;
      numbered = c.next_in.ensures.numbered;
    })
    puts

pub returns-clause-turned : goal.returns-clause-turned
returns-clause-turned c =
    let s = c.self.inside in
    let name = c.args.key.name in
    let ask = ask_of c.args.deed in
    let news = c.put.new.repositories.entries in
    let told = told_of c.in_ok-done.done.0 in
    let after : Site = record { directory = s.directory; repositories = news } in
    let site = ap (λ (h : Site). h.directory.site) c.self.view_is ∙ c.requires.at in
    let is : IsOfName s.directory name c.in_ok-cell.cell =
    IsOfName-new s.directory c.args.key s.limits c.in_ok-cell.cell c.self.invariant.limited site
    (c.in_ok-cell.ensures ∙ ap (λ k. record { key = k; limits = s.limits; journal = [] }) c.in_ok-copy_of.ensures) in
    let puts : Puts s.repositories.entries news name c.next_in.new.cell =
    subst (λ (n : Name). Puts s.repositories.entries news n c.next_in.new.cell) c.in_ok-name.ensures
    c.in_ok-put.ensures.put in
    let absent : state_of_name s.repositories.entries name ≡ None =
    ap (λ (h : Site). state_of_name h.repositories name) c.self.view_is ∙ c.requires.absent in
    let empty : lines_of_name s.repositories.entries name ≡ c.in_ok-cell.cell.journal =
    lines_of_name-none s.repositories.entries name absent ∙ sym (ap (λ (r : State). r.journal) c.in_ok-cell.ensures) in
    subst (λ (h : Site). IsTurn h after (Repository c.args.key) ask told c.in_ok-done.done.1) c.self.view_is
    (IsTurn-repository s.directory s.repositories.entries news c.args.key c.in_ok-cell.cell c.next_in.new.cell ask told
    c.in_ok-done.done.1
    site empty is puts c.in_ok-done.ensures.turned)
