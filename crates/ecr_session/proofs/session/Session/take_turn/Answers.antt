use Rattle.std.proofs.Common.{◌∙◌, refl, sym, ap, subst}
use Rattle.ecr_model.specs.declared.outcome.End.TheVariants as ends
use Rattle.ecr_model.specs.sessions.Sessions.{Outside}
use Rattle.ecr_session.specs.Serving.{SendsLast, ServesRequest}
use Rattle.ecr_session.specs.declared.session.Session.{Session}
use Rattle.ecr_session.proofs.EndLemmas.{Serves-whole, Serves-truncated, Serves-fault, Serves-spent, Serves-mem, Serves-no_room, Serves-untold, Serves-bad, Serves-long}
use Rattle.ecr_session.proofs.ServingLemmas.{GoesOn-request}
use Rattle.ecr_session.proofs.session.Session.take_turn.Goals as goal

pub returns-then-is_err-clause-goes_on : goal.returns-then-is_err-clause-goes_on
returns-then-is_err-clause-goes_on g c = λ set before account stands same s. (
  account,
  c.make_room.ensures.stands account stands,
  record {
    realm_stays = s.realm_stays;
    counted = s.counted;
    serves = Serves-no_room set before _ _ account _ s.so_far c.requires.opened;
  },
)

pub returns-in-Request-clause-goes_on : goal.returns-in-Request-clause-goes_on
returns-in-Request-clause-goes_on g c = λ set before account stands same s.
    let between : Outside = record {
      left = g.S.Source.left c.next.new.source;
      held = g.K.Sink.held c.next.new.sink;
      told = g.C.Clock.told c.args.clock.now;
      read_faults = g.S.Source.faults c.next.new.source;
      write_faults = g.K.Sink.faults c.next.new.sink;
    } in
    let after : Outside = record {
      left = between.left;
      held = g.K.Sink.held c.serve.new.sink;
      told = g.C.Clock.told c.serve.new.clock;
      read_faults = between.read_faults;
      write_faults = g.K.Sink.faults c.serve.new.sink;
    } in
    GoesOn-request (g.A.Keeper.stands_for c.serve.new.self.keeper) set before _ between after _ c.next.new.self
    c.serve.new.self.reader account
    (g.D.AnyDesk.seen c.args.desk.now) (g.D.AnyDesk.seen c.serve.new.desk) c.in-Request.request c.serve.result
    s c.requires.opened c.in-Request.ensures.next refl c.serve.ensures.reader
    (subst (λ fixed. ServesRequest (g.A.Keeper.stands_for c.serve.new.self.keeper) fixed c.in-Request.request between
    account (g.D.AnyDesk.seen c.args.desk.now) after (g.D.AnyDesk.seen c.serve.new.desk) c.serve.result) (sym same)
    (c.serve.ensures.serves between.left between.read_faults account (c.make_room.ensures.stands account stands)))
    c.in-Request.ensures.reads_later c.in-Request.ensures.writes_later c.serve.ensures.later c.serve.ensures.cause

pub returns-in-End-clause-goes_on : goal.returns-in-End-clause-goes_on
returns-in-End-clause-goes_on g c = λ set before account stands same s. (
  account,
  c.make_room.ensures.stands account stands,
  record {
    realm_stays = s.realm_stays;
    counted = s.counted;
    serves = Serves-whole set before _ _ _ _ _ _ s.so_far c.requires.opened c.in-End.ensures.next refl;
  },
)

pub returns-in-Truncated-clause-goes_on : goal.returns-in-Truncated-clause-goes_on
returns-in-Truncated-clause-goes_on g c = λ set before account stands same s. (
  account,
  c.make_room.ensures.stands account stands,
  record {
    realm_stays = s.realm_stays;
    counted = s.counted;
    serves = Serves-truncated set before _ _ _ _ _ _ _ s.so_far c.requires.opened c.in-Truncated.ensures.next refl;
  },
)

pub returns-in-Bad-clause-goes_on : goal.returns-in-Bad-clause-goes_on
returns-in-Bad-clause-goes_on g c = λ set before account stands same s.
    let between : Outside = record {
      left = g.S.Source.left c.next.new.source;
      held = g.K.Sink.held c.next.new.sink;
      told = g.C.Clock.told c.args.clock.now;
      read_faults = g.S.Source.faults c.next.new.source;
      write_faults = g.K.Sink.faults c.next.new.sink;
    } in (
      account,
      subst (λ (x : Session g.row.A.Denot). g.A.Keeper.stands_for x.keeper account) (sym c.refuse.ensures.kept)
          (c.make_room.ensures.stands account stands),
      record {
        realm_stays = s.realm_stays;
        counted = s.counted;
        serves = Serves-bad set before _ between _ _ _ account _ c.in-Bad.at
            c.refuse.result s.so_far c.requires.opened c.in-Bad.ensures.next refl refl
            (subst (λ l. SendsLast between.held (g.K.Sink.held c.refuse.new.sink) l
            (ends.Bad c.in-Bad.at) c.refuse.result) c.bad_reply.ensures c.refuse.ensures.sends)
            c.in-Bad.ensures.writes_later c.refuse.ensures.cause;
      },
    )

pub returns-in-TooLong-clause-goes_on : goal.returns-in-TooLong-clause-goes_on
returns-in-TooLong-clause-goes_on g c = λ set before account stands same s.
    let between : Outside = record {
      left = g.S.Source.left c.next.new.source;
      held = g.K.Sink.held c.next.new.sink;
      told = g.C.Clock.told c.args.clock.now;
      read_faults = g.S.Source.faults c.next.new.source;
      write_faults = g.K.Sink.faults c.next.new.sink;
    } in (
      account,
      subst (λ (x : Session g.row.A.Denot). g.A.Keeper.stands_for x.keeper account) (sym c.refuse-in-TooLong.ensures.kept)
          (c.make_room.ensures.stands account stands),
      record {
        realm_stays = s.realm_stays;
        counted = s.counted;
        serves = Serves-long set before _ between _ _ _ account _ c.in-TooLong.at c.in-TooLong.section c.in-TooLong.limit
            c.refuse-in-TooLong.result s.so_far c.requires.opened c.in-TooLong.ensures.next refl refl
            (subst (λ l. SendsLast between.held (g.K.Sink.held c.refuse-in-TooLong.new.sink) l
            (ends.TooLong c.in-TooLong.at c.in-TooLong.limit) c.refuse-in-TooLong.result) c.long_reply.ensures c.refuse-in-TooLong.ensures.sends)
            c.in-TooLong.ensures.writes_later c.refuse-in-TooLong.ensures.cause;
      },
    )

pub returns-in-ReadFault-clause-goes_on : goal.returns-in-ReadFault-clause-goes_on
returns-in-ReadFault-clause-goes_on g c = λ set before account stands same s. (
  account,
  c.make_room.ensures.stands account stands,
  record {
    realm_stays = s.realm_stays;
    counted = s.counted;
    serves = Serves-fault set before _ _ _ _ _ _ s.so_far c.requires.opened c.in-ReadFault.ensures.next
        refl (c.in-ReadFault.ensures.read_cause refl);
  },
)

pub returns-in-WriteFault-clause-goes_on : goal.returns-in-WriteFault-clause-goes_on
returns-in-WriteFault-clause-goes_on g c = λ set before account stands same s. (
  account,
  c.make_room.ensures.stands account stands,
  record {
    realm_stays = s.realm_stays;
    counted = s.counted;
    serves = Serves-untold set before _ _ _ _ _ _ s.so_far c.requires.opened c.in-WriteFault.ensures.next
        refl (c.in-WriteFault.ensures.write_cause refl);
  },
)

pub returns-in-Spent-clause-goes_on : goal.returns-in-Spent-clause-goes_on
returns-in-Spent-clause-goes_on g c = λ set before account stands same s. (
  account,
  c.make_room.ensures.stands account stands,
  record {
    realm_stays = s.realm_stays;
    counted = s.counted;
    serves = Serves-spent set before _ _ _ _ _ _ s.so_far c.requires.opened c.in-Spent.ensures.next
        refl;
  },
)

pub returns-in-Mem-clause-goes_on : goal.returns-in-Mem-clause-goes_on
returns-in-Mem-clause-goes_on g c = λ set before account stands same s. (
  account,
  c.make_room.ensures.stands account stands,
  record {
    realm_stays = s.realm_stays;
    counted = s.counted;
    serves = Serves-mem set before _ _ _ _ _ _ s.so_far c.requires.opened c.in-Mem.ensures.next
        refl;
  },
)
