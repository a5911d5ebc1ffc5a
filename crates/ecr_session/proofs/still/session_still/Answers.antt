use Rattle.std.proofs.Common.{◌≡◌, ◌+◌, ◌∙◌, refl, sym, ap, map, subst}
use Rattle.ecr_model.specs.declared.outcome.End.{End}
use Rattle.ecr_model.specs.laws.SessionLaws.{all_places}
use Rattle.ecr_model.specs.sessions.Sessions.{Account, Outside, Serves, SettingOf}
use Rattle.ecr_model.specs.registry.Soundness.{AreFresh}
use Rattle.ecr_desk.specs.Desks.{DeskState, still_of}
use Rattle.ecr_session.specs.Accounts.{entries_in}
use Rattle.ecr_session.proofs.FreshLemmas.{Serves-fresh}
use Rattle.ecr_session.proofs.StillLemmas.{Serves-still, still_setting}
use Rattle.ecr_session.proofs.still.session_still.Goals as goal

pub returns-clause-serves : goal.returns-clause-serves
returns-clause-serves g c =
    let desk : DeskState = g.D.AnyDesk.seen c.args.desk.now in
    let last : DeskState = g.D.AnyDesk.seen c.run_session-kept.new.desk in
    let set : SettingOf DeskState = record { realm = desk.realm; first = desk; fixed = c.args.mode.fixed } in
    let before : Outside = record {
      left = g.S.Source.left c.args.source.now;
      held = g.K.Sink.held c.args.sink.now;
      told = g.C.Clock.told c.args.clock.now;
      read_faults = g.S.Source.faults c.args.source.now;
      write_faults = g.K.Sink.faults c.args.sink.now;
    } in
    let after : Outside = record {
      left = g.S.Source.left c.run_session-kept.new.source;
      held = g.K.Sink.held c.run_session-kept.new.sink;
      told = g.C.Clock.told c.run_session-kept.new.clock;
      read_faults = g.S.Source.faults c.run_session-kept.new.source;
      write_faults = g.K.Sink.faults c.run_session-kept.new.sink;
    } in
    let told : Account = record {
      moments = c.ended.result.moments.items;
      places = map (λ v. v.items) c.ended.result.places.items;
      cuts = c.ended.result.cuts.items;
    } in
    subst (λ (e : End). Serves (still_setting set) before after told (still_of last).world e) (sym c.ended.ensures.end)
    (subst (λ (a : Account). Serves (still_setting set) before after a (still_of last).world c.run_session-kept.result.1)
    (sym (c.ended.ensures.account ∙ c.run_session-kept.ensures.serves.1))
    (Serves-still set before after c.run_session-kept.ensures.serves.0 last c.run_session-kept.result.1
    (record {
      realm_is = refl;
      still = g.met.D.StillDesk.is_still c.args.desk.now;
    }) c.run_session-kept.ensures.serves.2.serves))

pub returns-clause-fresh : goal.returns-clause-fresh
returns-clause-fresh g c =
    let desk : DeskState = g.D.AnyDesk.seen c.args.desk.now in
    let last : DeskState = g.D.AnyDesk.seen c.run_session-kept.new.desk in
    let set : SettingOf DeskState = record { realm = desk.realm; first = desk; fixed = c.args.mode.fixed } in
    let still = g.met.D.StillDesk.is_still c.args.desk.now in
    subst (λ (a : Account). AreFresh (still_of desk).world.journals (all_places a.places))
    (sym (c.ended.ensures.account ∙ c.run_session-kept.ensures.serves.1))
    (Serves-fresh (still_setting set) _ _ c.run_session-kept.ensures.serves.0
    (still_of last).world c.run_session-kept.result.1
    (c.served-sites.ensures.sound (ap (λ (s : DeskState). s.gates) still))
    (Serves-still set _ _ c.run_session-kept.ensures.serves.0 last c.run_session-kept.result.1
    (record { realm_is = refl; still = still }) c.run_session-kept.ensures.serves.2.serves))

pub returns-clause-counted : goal.returns-clause-counted
returns-clause-counted g c =
    let first : DeskState = g.D.AnyDesk.seen c.args.desk.now in
    let last : DeskState = g.D.AnyDesk.seen c.run_session-kept.new.desk in
    subst (λ (a : Account). last.made ≡ first.made + entries_in a.cuts)
    (sym (c.ended.ensures.account ∙ c.run_session-kept.ensures.serves.1)) c.run_session-kept.ensures.serves.2.counted
