use Rattle.std.proofs.Common.{arith}
use Rattle.ecr_model.specs.sessions.Sessions.{max_read}
use Rattle.ecr_http.specs.Takings.{left_to_read}
use Rattle.ecr_http.proofs.intake.Intake.fill.Goals as goal

pub returns-in-Bytes-clause-nearer : goal.returns-in-Bytes-clause-nearer
unfolding left_to_read max_read
returns-in-Bytes-clause-nearer g c =
    let filled = rw c.in-Bytes.is at c.in_ok-got.ensures.filled in
    let some = filled.some in
    omega (arith, c.if-self-ge-MAX_READ.false)
