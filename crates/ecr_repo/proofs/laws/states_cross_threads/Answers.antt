use denote.Param.Send.{sendable}
use Rattle.std.proofs.Crossing.{crosses}
use Rattle.ecr_model.proofs.lemmas.registry.CrossingLemmas.{Line-send}
use Rattle.ecr_repo.proofs.laws.states_cross_threads.Goals as goal

pub returns : goal.returns
returns c = record { send = search (Line-send, sendable, crosses) depth 60 fits 20000 }
