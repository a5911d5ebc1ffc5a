use Rattle.std.proofs.Common.{◌≡◌, Some, sym, ap, ◌∙◌}
use Rattle.ecr_desk.specs.Desks.{DeskState, PassState, SharedState, seen_with}
use Rattle.ecr_session.proofs.AmongLemmas.{AccountsFor-with, IsOf-after}
use Rattle.ecr_session.proofs.shared.serve_link.Goals as goal

pub returns-clause-serves : goal.returns-clause-serves
returns-clause-serves g c =
    let desk : SharedState = g.D.Desk.shared c.args.desk.now in
    let pass : PassState = g.D.Pass.Seen.seen c.args.pass in
    let now : PassState = g.D.Pass.Seen.seen c.into_pass.result in
    let first : DeskState =
    seen_with (g.D.Desk.shared c.new-caller.result.desk.now) (g.D.Pass.Seen.seen c.new-caller.result.pass) in
    let last : DeskState =
    seen_with (g.D.Desk.shared c.run_session-end.new.desk.desk.now)
    (g.D.Pass.Seen.seen c.run_session-end.new.desk.pass) in
    let same : first ≡ seen_with desk pass =
    ap (λ d. seen_with (g.D.Desk.shared d) (g.D.Pass.Seen.seen c.new-caller.result.pass)) c.new-caller.ensures.desk
    ∙ ap (λ p. seen_with desk (g.D.Pass.Seen.seen p)) c.new-caller.ensures.pass in
    AccountsFor-with desk pass now first last c.args.mode.fixed _ _ c.run_session-end.ensures.serves.0
    c.run_session-end.result.1 same
    (ap (λ p. (g.D.Pass.Seen.seen p).views) (sym c.into_pass.ensures.pass))
    (ap (λ p. (g.D.Pass.Seen.seen p).made) (sym c.into_pass.ensures.pass))
    c.run_session-end.ensures.serves.2

pub returns-clause-of : goal.returns-clause-of
returns-clause-of g c =
    let desk : SharedState = g.D.Desk.shared c.args.desk.now in
    let pass : PassState = g.D.Pass.Seen.seen c.args.pass in
    let now : PassState = g.D.Pass.Seen.seen c.into_pass.result in
    let first : DeskState =
    seen_with (g.D.Desk.shared c.new-caller.result.desk.now) (g.D.Pass.Seen.seen c.new-caller.result.pass) in
    let last : DeskState =
    seen_with (g.D.Desk.shared c.run_session-end.new.desk.desk.now)
    (g.D.Pass.Seen.seen c.run_session-end.new.desk.pass) in
    let same : first ≡ seen_with desk pass =
    ap (λ d. seen_with (g.D.Desk.shared d) (g.D.Pass.Seen.seen c.new-caller.result.pass)) c.new-caller.ensures.desk
    ∙ ap (λ p. seen_with desk (g.D.Pass.Seen.seen p)) c.new-caller.ensures.pass in
    IsOf-after desk pass now first last c.args.mode.fixed _ _ c.run_session-end.ensures.serves.0
    c.run_session-end.result.1 same
    (ap (λ p. Some (g.D.Pass.Seen.seen p).gates) (sym c.into_pass.ensures.pass))
    c.requires.of c.run_session-end.ensures.serves.2.serves
