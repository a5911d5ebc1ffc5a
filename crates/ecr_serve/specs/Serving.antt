-- The links of a server, from the first to the end.
use Rattle.std.specs.Prelude.{◌≡◌, ◌≤◌, ◌<◌, true, Option, None, Some}
use Rattle.std.specs.Io.KnownBytes.{Appends}
use Rattle.ecr_model.specs.declared.outcome.End.{End}
use Rattle.ecr_model.specs.declared.outcome.End.TheVariants as ends
use Rattle.ecr_model.specs.sessions.Commands.{Front, RunsServer, Written, ready_line}
use Rattle.ecr_outside.specs.Accept.{Entrance}

-- the outside of a server with this acceptor and this sink
abbrev pub front_with : Entrance → Written → Front
front_with entrance sink =
    record { is_open = entrance.is_open; is_closed = entrance.is_closed; accept_faults = entrance.faults; sink = sink }

-- the end of the links, by its cause
abbrev pub LinksEnd : Entrance → Entrance → End → Type 0
LinksEnd old new ends.Whole = new.is_closed ≡ true
LinksEnd old new ends.AcceptFault = old.faults < new.faults
LinksEnd old new ends.Mem = Unit {0}
LinksEnd old new _ = ⊥

-- links are taken from an open acceptor
pub record TakesLinks (old new : Entrance) : Type 0 where
  pub opened : new.is_open ≡ true
  pub later : old.faults ≤ new.faults

-- links were taken, until the end
pub record ServesLinks (old new : Entrance) (end : End) : Type 0 where
  pub takes : TakesLinks old new
  pub cause : LinksEnd old new end

-- the address was opened and the line written
pub record IsReady (before after : Front) : Type 0 where
  pub opened : after.is_open ≡ true
  pub said : Appends before.sink.held after.sink.held ready_line
  pub later : before.accept_faults ≤ after.accept_faults

-- a server that goes on to take links, or has ended before
abbrev pub Begins : Front → Front → Option End → Type 0
Begins before after None = IsReady before after
Begins before after (Some end) = RunsServer before after end
