use Rattle.std.proofs.Common.{◌≡◌, Option, Some, is_some, IfSome, sym, ap, ◌∙◌, subst}
use Rattle.std.proofs.lemmas.Result.{IfOk-weaker, on_err_weaker}
use Rattle.ecr_model.specs.declared.registry.journal.CellKey.TheVariants.{Repository}
use Rattle.ecr_repo.specs.States.{State}
use Rattle.ecr_cells.specs.Deeds.{ask_of, told_of}
use Rattle.ecr_cells.specs.SiteCells.{Site, IsOfName, IsNextTurn, IsTurn, IsQuiet, Puts, state_of_name}
use Rattle.ecr_cells.proofs.SiteLemmas.{AreOfSite-put, IsQuiet-put, IsTurn-repository, lines_of_name-some}
use Rattle.ecr_cells.proofs.site_cells.SiteCells.in_repository.Goals as goal

pub invariant_of-self : goal.invariant_of-self
invariant_of-self c =
    let s = c.self.inside in
    let name = c.args.key.name in
    let found : state_of_name s.repositories.entries name ≡ Some c.in-Some.cell.now = sym c.in-Some.ensures.value in
    let is : IsOfName s.directory name c.in-Some.cell.now =
    subst (λ (o : Option State). IfSome o (IsOfName s.directory name)) found (c.self.invariant.named name) in
    let puts : Puts s.repositories.entries
    (c.get_mut.follows.lender c.next_in.new.cell).entries name c.next_in.new.cell =
    ((c.get_mut.follows.holds c.next_in.new.cell).3 (ap is_some found)).0 in
    AreOfSite-put s.limits s.directory s.repositories.entries
    (c.get_mut.follows.lender c.next_in.new.cell).entries name c.next_in.new.cell c.self.invariant
    (record {
      key = c.next_in.ensures.stays.0 ∙ is.key;
      limits = c.next_in.ensures.stays.1 ∙ is.limits;
      numbered = c.next_in.ensures.numbered;
    })
    puts

pub returns-in-Some-clause-turned : goal.returns-in-Some-clause-turned
returns-in-Some-clause-turned c =
    let s = c.self.inside in
    let name = c.args.key.name in
    let ask = ask_of c.args.deed in
    let news = (c.get_mut.follows.lender c.next_in.new.cell).entries in
    let found : state_of_name s.repositories.entries name ≡ Some c.in-Some.cell.now = sym c.in-Some.ensures.value in
    let is : IsOfName s.directory name c.in-Some.cell.now =
    subst (λ (o : Option State). IfSome o (IsOfName s.directory name)) found (c.self.invariant.named name) in
    let puts : Puts s.repositories.entries news name c.next_in.new.cell =
    ((c.get_mut.follows.holds c.next_in.new.cell).3 (ap is_some found)).0 in
    let after : Site = record { directory = s.directory; repositories = news } in
    IfOk-weaker c.next_in.result
    (λ t. IsNextTurn c.in-Some.cell.now c.next_in.new.cell ask (told_of t.0) t.1)
    (λ t. IsTurn c.args.self.now after (Repository c.args.key) ask (told_of t.0) t.1)
    (λ t turn. subst (λ (h : Site). IsTurn h after (Repository c.args.key) ask (told_of t.0) t.1) c.self.view_is
    (IsTurn-repository s.directory s.repositories.entries news c.args.key c.in-Some.cell.now c.next_in.new.cell ask
    (told_of t.0) t.1
    (ap (λ (h : Site). h.directory.site) c.self.view_is ∙ c.requires.at)
    (lines_of_name-some s.repositories.entries name c.in-Some.cell.now found) is puts turn))
    c.next_in.ensures.turned

pub returns-in-Some-clause-err : goal.returns-in-Some-clause-err
returns-in-Some-clause-err c =
    let s = c.self.inside in
    let name = c.args.key.name in
    let news = (c.get_mut.follows.lender c.next_in.new.cell).entries in
    let found : state_of_name s.repositories.entries name ≡ Some c.in-Some.cell.now = sym c.in-Some.ensures.value in
    let puts : Puts s.repositories.entries news name c.next_in.new.cell =
    ((c.get_mut.follows.holds c.next_in.new.cell).3 (ap is_some found)).0 in
    let after : Site = record { directory = s.directory; repositories = news } in
    on_err_weaker c.next_in.result
    (λ same. subst (λ (h : Site). IsQuiet h after) c.self.view_is
    (IsQuiet-put s.directory s.repositories.entries news name c.next_in.new.cell
    (lines_of_name-some s.repositories.entries name c.in-Some.cell.now found
    ∙ ap (λ (r : State). r.journal) (sym same)) puts))
    c.next_in.ensures.err
