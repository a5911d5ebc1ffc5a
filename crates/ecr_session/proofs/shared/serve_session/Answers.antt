use Rattle.std.proofs.Common.{◌≡◌, Some, sym, ap, ◌∙◌, map}
use Rattle.ecr_model.specs.sessions.Sessions.{Account}
use Rattle.ecr_desk.specs.Desks.{DeskState, PassState, SharedState, seen_with}
use Rattle.ecr_session.proofs.AmongLemmas.{IsOf-after, Serves-with, counted_with}
use Rattle.ecr_session.proofs.FreshLemmas.{ServesAmong-between}
use Rattle.ecr_session.proofs.shared.serve_session.Goals as goal

pub returns-clause-serves : goal.returns-clause-serves
returns-clause-serves g c =
    let desk : SharedState = g.D.Desk.shared c.args.desk.now in
    let pass : PassState = g.D.Pass.Seen.seen c.args.pass in
    let now : PassState = g.D.Pass.Seen.seen c.ended.result.pass in
    let first : DeskState =
    seen_with (g.D.Desk.shared c.new-caller.result.desk.now) (g.D.Pass.Seen.seen c.new-caller.result.pass) in
    let last : DeskState =
    seen_with (g.D.Desk.shared c.run_session-kept.new.desk.desk.now) (g.D.Pass.Seen.seen c.run_session-kept.new.desk.pass) in
    let same : first ≡ seen_with desk pass =
    ap (λ d. seen_with (g.D.Desk.shared d) (g.D.Pass.Seen.seen c.new-caller.result.pass)) c.new-caller.ensures.desk
    ∙ ap (λ p. seen_with desk (g.D.Pass.Seen.seen p)) c.new-caller.ensures.pass in
    Serves-with desk pass now first last c.args.mode.fixed _ _ _ c.run_session-kept.ensures.serves.0 _ c.run_session-kept.result.1 same
    (ap (λ p. (g.D.Pass.Seen.seen p).views) (sym (c.ended.ensures.pass ∙ c.into_pass.ensures.pass)))
    (c.ended.ensures.account ∙ c.run_session-kept.ensures.serves.1) c.ended.ensures.end c.run_session-kept.ensures.serves.2.serves

pub returns-clause-of : goal.returns-clause-of
returns-clause-of g c =
    let desk : SharedState = g.D.Desk.shared c.args.desk.now in
    let pass : PassState = g.D.Pass.Seen.seen c.args.pass in
    let now : PassState = g.D.Pass.Seen.seen c.ended.result.pass in
    let first : DeskState =
    seen_with (g.D.Desk.shared c.new-caller.result.desk.now) (g.D.Pass.Seen.seen c.new-caller.result.pass) in
    let last : DeskState =
    seen_with (g.D.Desk.shared c.run_session-kept.new.desk.desk.now) (g.D.Pass.Seen.seen c.run_session-kept.new.desk.pass) in
    let same : first ≡ seen_with desk pass =
    ap (λ d. seen_with (g.D.Desk.shared d) (g.D.Pass.Seen.seen c.new-caller.result.pass)) c.new-caller.ensures.desk
    ∙ ap (λ p. seen_with desk (g.D.Pass.Seen.seen p)) c.new-caller.ensures.pass in
    IsOf-after desk pass now first last c.args.mode.fixed _ _ c.run_session-kept.ensures.serves.0 c.run_session-kept.result.1 same
    (ap (λ p. Some (g.D.Pass.Seen.seen p).gates) (sym (c.ended.ensures.pass ∙ c.into_pass.ensures.pass)))
    c.requires.of c.run_session-kept.ensures.serves.2.serves

pub returns-clause-fresh : goal.returns-clause-fresh
returns-clause-fresh g c =
    let desk : SharedState = g.D.Desk.shared c.args.desk.now in
    let pass : PassState = g.D.Pass.Seen.seen c.args.pass in
    let now : PassState = g.D.Pass.Seen.seen c.ended.result.pass in
    let first : DeskState =
    seen_with (g.D.Desk.shared c.new-caller.result.desk.now) (g.D.Pass.Seen.seen c.new-caller.result.pass) in
    let last : DeskState =
    seen_with (g.D.Desk.shared c.run_session-kept.new.desk.desk.now) (g.D.Pass.Seen.seen c.run_session-kept.new.desk.pass) in
    let same : first ≡ seen_with desk pass =
    ap (λ d. seen_with (g.D.Desk.shared d) (g.D.Pass.Seen.seen c.new-caller.result.pass)) c.new-caller.ensures.desk
    ∙ ap (λ p. seen_with desk (g.D.Pass.Seen.seen p)) c.new-caller.ensures.pass in
    let told : Account = record {
      moments = c.ended.result.moments.items;
      places = map (λ v. v.items) c.ended.result.places.items;
      cuts = c.ended.result.cuts.items;
    } in
    ServesAmong-between (record {
      realm = desk.realm;
      first = pass.views;
      fixed = c.args.mode.fixed;
    }) _ _ told now.views
    c.ended.result.end
    (Serves-with desk pass now first last c.args.mode.fixed _ _ told c.run_session-kept.ensures.serves.0 c.ended.result.end
    c.run_session-kept.result.1 same
    (ap (λ p. (g.D.Pass.Seen.seen p).views) (sym (c.ended.ensures.pass ∙ c.into_pass.ensures.pass)))
    (c.ended.ensures.account ∙ c.run_session-kept.ensures.serves.1) c.ended.ensures.end c.run_session-kept.ensures.serves.2.serves)

pub returns-clause-counted : goal.returns-clause-counted
returns-clause-counted g c =
    let desk : SharedState = g.D.Desk.shared c.args.desk.now in
    let pass : PassState = g.D.Pass.Seen.seen c.args.pass in
    let now : PassState = g.D.Pass.Seen.seen c.ended.result.pass in
    let first : DeskState =
    seen_with (g.D.Desk.shared c.new-caller.result.desk.now) (g.D.Pass.Seen.seen c.new-caller.result.pass) in
    let last : DeskState =
    seen_with (g.D.Desk.shared c.run_session-kept.new.desk.desk.now)
    (g.D.Pass.Seen.seen c.run_session-kept.new.desk.pass) in
    let same : first ≡ seen_with desk pass =
    ap (λ d. seen_with (g.D.Desk.shared d) (g.D.Pass.Seen.seen c.new-caller.result.pass)) c.new-caller.ensures.desk
    ∙ ap (λ p. seen_with desk (g.D.Pass.Seen.seen p)) c.new-caller.ensures.pass in
    counted_with desk pass now first last c.ended.result.cuts.items c.run_session-kept.ensures.serves.0.cuts same
    (ap (λ p. (g.D.Pass.Seen.seen p).made) (sym (c.ended.ensures.pass ∙ c.into_pass.ensures.pass)))
    (ap (λ (a : Account). a.cuts) (c.ended.ensures.account ∙ c.run_session-kept.ensures.serves.1))
    c.run_session-kept.ensures.serves.2.counted
