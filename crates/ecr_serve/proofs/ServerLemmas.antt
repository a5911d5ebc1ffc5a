-- What a server says of its links, from the beginning to the end.
use Rattle.std.proofs.Common.{◌≡◌, true, sym, subst, arith}
use Rattle.ecr_model.specs.declared.outcome.End.{End}
use Rattle.ecr_model.specs.declared.outcome.End.TheVariants as ends
use Rattle.ecr_model.specs.sessions.Commands.{Front, RunsServer, SaysReady, Written}
use Rattle.ecr_outside.specs.Accept.{Entrance}
use Rattle.ecr_serve.specs.Serving.{IsReady, ServesLinks, front_with}

-- a server that said it was ready, and took links until they ended
pub RunsServer-links : (before : Front) (opened closed : Entrance) (sink : Written) (end : End)
    → IsReady before (front_with opened sink) → ServesLinks opened closed end
    → RunsServer before (front_with closed sink) end
RunsServer-links before opened closed sink ends.Whole ready links = record {
  ready = subst (λ b. SaysReady b before.sink sink ends.Whole) (sym links.takes.opened) ready.said;
  cause = links.cause;
}
RunsServer-links before opened closed sink ends.AcceptFault ready links = record {
  ready = subst (λ b. SaysReady b before.sink sink ends.AcceptFault) (sym links.takes.opened) ready.said;
  cause = let risen = links.cause in let later = ready.later in omega arith;
}
RunsServer-links before opened closed sink ends.Mem ready links = record {
  ready = subst (λ b. SaysReady b before.sink sink ends.Mem) (sym links.takes.opened) ready.said;
  cause = tt;
}
RunsServer-links before opened closed sink ends.Usage ready links = absurd links.cause
RunsServer-links before opened closed sink ends.ReadFault ready links = absurd links.cause
RunsServer-links before opened closed sink ends.WriteFault ready links = absurd links.cause
RunsServer-links before opened closed sink (ends.Truncated at) ready links = absurd links.cause
RunsServer-links before opened closed sink (ends.Bad at) ready links = absurd links.cause
RunsServer-links before opened closed sink (ends.TooLong at limit) ready links = absurd links.cause
RunsServer-links before opened closed sink ends.Spent ready links = absurd links.cause
