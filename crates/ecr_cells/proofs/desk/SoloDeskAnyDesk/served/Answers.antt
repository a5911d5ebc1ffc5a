use Rattle.std.proofs.Common.{subst}
use Rattle.ecr_model.specs.registry.Soundness.{AreSound}
use Rattle.ecr_cells.specs.Desks.{Desk, still_state_of}
use Rattle.ecr_cells.proofs.desk.SoloDeskAnyDesk.served.Goals as goal

pub returns-clause-sound : goal.returns-clause-sound
returns-clause-sound c = λ alone.
    subst (λ (d : Desk). AreSound (still_state_of d).realm (still_state_of d).world.journals) c.self.view_is
    c.self.invariant.sound
