use Rattle.ecr_cells.proofs.CrossingLemmas.{SoloDesk-send}
use Rattle.ecr_cells.proofs.laws.desks_cross_threads.Goals as goal

pub returns : goal.returns
returns c = record { send = SoloDesk-send }
