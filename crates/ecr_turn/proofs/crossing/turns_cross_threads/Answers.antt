use denote.Param.Send.{sendable}
use Rattle.std.proofs.Crossing.{crosses}
use Rattle.ecr_turn.proofs.turnstile.Turnstile.TheSendSync as turnstile
use Rattle.ecr_turn.proofs.turnstile.Pass.TheSendSync as pass
use Rattle.ecr_turn.proofs.turnstile.Turn.TheSendSync as turn
use Rattle.ecr_turn.proofs.Sharing.{Pass-sync, Turn-sync}
use Rattle.ecr_turn.proofs.crossing.turns_cross_threads.Goals as goal

pub returns-clause-turnstiles_sent : goal.returns-clause-turnstiles_sent
returns-clause-turnstiles_sent g c =
    search (c.type_bounds.send-S, turnstile.the_send, sendable, crosses) depth 60 fits 20000

pub returns-clause-turnstiles_shared : goal.returns-clause-turnstiles_shared
returns-clause-turnstiles_shared g c =
    search (c.type_bounds.send-S, turnstile.the_sync, sendable, crosses) depth 60 fits 20000

pub returns-clause-passes_sent : goal.returns-clause-passes_sent
returns-clause-passes_sent g c = search (c.type_bounds.send-S, pass.the_send, sendable, crosses) depth 60 fits 20000

pub returns-clause-passes_shared : goal.returns-clause-passes_shared
returns-clause-passes_shared g c = search (c.type_bounds.send-S, Pass-sync, sendable) depth 60 fits 20000

pub returns-clause-turns_sent : goal.returns-clause-turns_sent
returns-clause-turns_sent g c = search (c.type_bounds.send-S, turn.the_send, sendable, crosses) depth 60 fits 20000

pub returns-clause-turns_shared : goal.returns-clause-turns_shared
returns-clause-turns_shared g c =
    search (c.type_bounds.send-S, c.type_bounds.sync-S, Turn-sync, sendable) depth 60 fits 20000
