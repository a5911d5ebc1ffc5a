use Rattle.std.proofs.Common.{◌≡◌, Option, None, is_some, IsSome, sym, ap, subst}
use Rattle.std.proofs.lemmas.Bool.{both_ways}
use Rattle.ecr_turn.specs.Passes.{Gate}
use Rattle.ecr_cells.specs.Shared.{SharedCells, gate_at}
use Rattle.ecr_cells.proofs.shared.desk.SharedDesk.turnstile_of.Goals as goal

pub unreachable-requires : goal.unreachable-requires
unreachable-requires c =
    let d = c.self.inside in
    let site = c.args.site.now in
    let none : gate_at d.sites.entries site ≡ None = sym c.in-None.ensures.value in
    let found : IsSome (gate_at d.sites.entries site) =
    subst (λ (x : SharedCells). IsSome (gate_at x.sites site)) (sym c.self.view_is) c.requires.there in
    both_ways (is_some (gate_at d.sites.entries site)) (ap (λ (o : Option Gate). is_some o) none) found
