use Rattle.std.proofs.Common.{◌≡◌, ◌<◌, false, length}
use Rattle.ecr_model.specs.sessions.Sessions.{Account}
use Rattle.ecr_session.specs.Serving.{HasCome}
use Rattle.ecr_session.proofs.session.Session.run.Given as goal

abbrev pub invariant-loop-end : goal.invariant-loop-end
invariant-loop-end g l = record {
  come : (account : Account) × g.A.Keeper.stands_for l.self.keeper account × HasCome
      (record {
        realm = (g.D.AnyDesk.seen l.initial.desk).realm;
        first = (g.D.AnyDesk.seen l.initial.desk);
        fixed = l.fixed;
      })
      (record {
        left = g.S.Source.left l.initial.source;
        held = g.K.Sink.held l.initial.sink;
        told = g.C.Clock.told l.initial.clock;
        read_faults = g.S.Source.faults l.initial.source;
        write_faults = g.K.Sink.faults l.initial.sink;
      })
      (record {
        left = g.S.Source.left l.source;
        held = g.K.Sink.held l.sink;
        told = g.C.Clock.told l.clock;
        read_faults = g.S.Source.faults l.source;
        write_faults = g.K.Sink.faults l.sink;
      })
      l.self.reader account (g.D.AnyDesk.seen l.desk);
  opened : l.self.reader.closed ≡ false;
  some : 0 < length (g.D.AnyDesk.seen l.desk).realm.served;
}

abbrev pub decreases-loop-end : goal.decreases-loop-end
decreases-loop-end g l = g.A.Keeper.left l.self.keeper
