use denote.Param.Send.{sendable}
use Rattle.std.proofs.Crossing.{crosses}
use Rattle.ecr_blob_upload.proofs.laws.content_crosses_threads.Goals as goal

pub returns-clause-blobs_sent : goal.returns-clause-blobs_sent
returns-clause-blobs_sent c = search (sendable, crosses) depth 20

pub returns-clause-blobs_shared : goal.returns-clause-blobs_shared
returns-clause-blobs_shared c = search (sendable, crosses) depth 20

pub returns-clause-bytes_sent : goal.returns-clause-bytes_sent
returns-clause-bytes_sent c = search (sendable, crosses) depth 20

pub returns-clause-bytes_shared : goal.returns-clause-bytes_shared
returns-clause-bytes_shared c = search (sendable, crosses) depth 20
