use denote.Param.Send.{sendable}
use Rattle.std.proofs.Crossing.{crosses}
use Rattle.ecr_blob_upload.proofs.laws.calls_cross_threads.Goals as goal

pub returns-clause-loads : goal.returns-clause-loads
returns-clause-loads c = search (sendable, crosses) depth 60 fits 20000

pub returns-clause-outcomes : goal.returns-clause-outcomes
returns-clause-outcomes c = search (sendable, crosses) depth 60 fits 20000
