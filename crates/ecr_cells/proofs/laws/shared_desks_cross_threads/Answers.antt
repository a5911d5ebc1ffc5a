use Rattle.ecr_cells.proofs.CrossingLemmas.{SharedDesk-send, SharedDesk-sync, DeskPass-send}
use Rattle.ecr_cells.proofs.laws.shared_desks_cross_threads.Goals as goal

pub returns-clause-desks_sent : goal.returns-clause-desks_sent
returns-clause-desks_sent c = SharedDesk-send

pub returns-clause-desks_shared : goal.returns-clause-desks_shared
returns-clause-desks_shared c = SharedDesk-sync

pub returns-clause-passes_sent : goal.returns-clause-passes_sent
returns-clause-passes_sent c = DeskPass-send
