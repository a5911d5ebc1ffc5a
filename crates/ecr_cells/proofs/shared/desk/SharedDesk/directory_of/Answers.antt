use Rattle.std.proofs.Common.{IsSome}
use Rattle.std.proofs.lemmas.List.Elements.{All-contains}
use Rattle.ecr_cells.specs.Shared.{gate_at}
use Rattle.ecr_cells.proofs.SharedViewLemmas.{frame_of-gate}
use Rattle.ecr_cells.proofs.shared.desk.SharedDesk.directory_of.Goals as goal

pub turnstile_of-requires : goal.turnstile_of-requires
turnstile_of-requires c = record {
  there = All-contains (λ s. IsSome (gate_at c.args.self.now.sites s)) c.args.self.now.served c.args.site.now
      c.gates_are.ensures.all c.requires.served;
}

pub returns-clause-frame : goal.returns-clause-frame
returns-clause-frame c =
    let d = c.args.self.now in
    frame_of-gate d.served d.limits d.sites c.args.site.now c.turnstile_of.result.now c.gates_are.ensures
    c.turnstile_of.ensures.found
