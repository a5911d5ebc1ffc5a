-- A session whose exchanges are served so is one whose exchanges are served otherwise, where they are that too.
use Rattle.std.proofs.Common.{List}
use Rattle.ecr_model.specs.declared.outcome.End.{End}
use Rattle.ecr_model.specs.declared.outcome.End.TheVariants as ends
use Rattle.ecr_model.specs.sessions.Sessions.{Account, AnsweredBy, CompletedBy, CutOffBy, Exchange, Outside, ServesBy, ServicedBy, SettingOf, StandingOf}

module _ {W : Type 0} (serves : StandingOf W → Exchange → StandingOf W → Type 0) (set : SettingOf W)
    (before after : Outside) (account : Account) (last : W) where
  -- the exchanges of a session, however it ended
  pub exchanges_in : (end : End) → ServesBy serves set before after account last end
      → (es : List Exchange) × ServicedBy serves set before after es account last
  exchanges_in ends.Usage s = absurd s
  exchanges_in ends.AcceptFault s = absurd s
  exchanges_in ends.Mem s = (s.exchanges, s.serviced)
  exchanges_in ends.ReadFault s = (s.1.exchanges, s.1.serviced)
  exchanges_in ends.WriteFault s = (s.1.exchanges, s.1.serviced)
  exchanges_in ends.Whole s = (s.exchanges, s.serviced)
  exchanges_in (ends.Truncated at) s = (s.exchanges, s.serviced)
  exchanges_in (ends.Bad at) s = (s.exchanges, s.serviced)
  exchanges_in (ends.TooLong at limit) s = (s.exchanges, s.serviced)
  exchanges_in ends.Spent s = (s.exchanges, s.serviced)

module _ {W V : Type 0} (serves : StandingOf W → Exchange → StandingOf W → Type 0)
    (other : StandingOf V → Exchange → StandingOf V → Type 0) (set : SettingOf W) (to : SettingOf V)
    (before after : Outside) (account : Account) (last : W) (left : V)
    (moves : (es : List Exchange) → ServicedBy serves set before after es account last
    → ServicedBy other to before after es account left) where
  AnsweredBy-moves : AnsweredBy serves set before after account last → AnsweredBy other to before after account left
  AnsweredBy-moves s = record {
    read = s.read;
    exchanges = s.exchanges;
    point = s.point;
    further = s.further;
    consumed = s.consumed;
    within = s.within;
    begins = s.begins;
    goes_on = s.goes_on;
    serviced = moves s.exchanges s.serviced;
    told_to = s.told_to;
    sent = s.sent;
  }

  CompletedBy-moves : (end : End) → CompletedBy serves set before after account last end
      → CompletedBy other to before after account left end
  CompletedBy-moves end s = record {
    read = s.read;
    over = s.over;
    exchanges = s.exchanges;
    tail = s.tail;
    consumed = s.consumed;
    within = s.within;
    at_end = s.at_end;
    reads = s.reads;
    serviced = moves s.exchanges s.serviced;
    sent = s.sent;
    ends = s.ends;
    unspent = s.unspent;
  }

  CutOffBy-moves : CutOffBy serves set before after account last → CutOffBy other to before after account left
  CutOffBy-moves s = record {
    read = s.read;
    exchanges = s.exchanges;
    point = s.point;
    done = s.done;
    piece = s.piece;
    taken = s.taken;
    lost = s.lost;
    consumed = s.consumed;
    within = s.within;
    begins = s.begins;
    serviced = moves s.exchanges s.serviced;
    is_last = s.is_last;
    parts = s.parts;
    some = s.some;
    sent = s.sent;
  }

  -- however it ended
  pub ServesBy-moves : (end : End) → ServesBy serves set before after account last end
      → ServesBy other to before after account left end
  ServesBy-moves ends.Usage s = s
  ServesBy-moves ends.AcceptFault s = s
  ServesBy-moves ends.Mem s = AnsweredBy-moves s
  ServesBy-moves ends.ReadFault s = (s.0, CompletedBy-moves ends.ReadFault s.1)
  ServesBy-moves ends.WriteFault s = (s.0, CutOffBy-moves s.1)
  ServesBy-moves ends.Whole s = CompletedBy-moves ends.Whole s
  ServesBy-moves (ends.Truncated at) s = CompletedBy-moves (ends.Truncated at) s
  ServesBy-moves (ends.Bad at) s = CompletedBy-moves (ends.Bad at) s
  ServesBy-moves (ends.TooLong at limit) s = CompletedBy-moves (ends.TooLong at limit) s
  ServesBy-moves ends.Spent s = CompletedBy-moves ends.Spent s
