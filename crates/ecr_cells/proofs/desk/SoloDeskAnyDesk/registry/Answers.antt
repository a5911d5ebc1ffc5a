use Rattle.std.proofs.Common.{[], ◌∷◌, refl, sym, ap, subst, Contains}
use Rattle.ecr_model.specs.declared.names.SiteId.{SiteId}
use Rattle.ecr_model.specs.declared.requests.reply.SiteReply.{SiteReply}
use Rattle.ecr_model.specs.requests.Requests.{site_script}
use Rattle.ecr_desk.specs.Desks.{Ran, seen_by}
use Rattle.ecr_desk.proofs.DeskLemmas.{StoppedWithin-none}
use Rattle.ecr_cells.specs.Deeds.{told_of}
use Rattle.ecr_cells.specs.Desks.{state_of}
use Rattle.ecr_cells.proofs.RunLemmas.{Ran-site_script}
use Rattle.ecr_cells.proofs.WorldLemmas.{on_err_any}
use Rattle.ecr_cells.proofs.desk.SoloDeskAnyDesk.registry.Goals as goal

pub make-requires-clause-served : goal.make-requires-clause-served
make-requires-clause-served c =
    subst (λ (s : SiteId). Contains c.args.self.now.served s) (sym c.in_ok-copy.ensures) c.requires.served

pub returns-clause-ran : goal.returns-clause-ran
returns-clause-ran c =
    let before = state_of c.args.self.now in
    let after = state_of c.make.new.self in
    let place = c.in_ok-done.place in
    subst (λ (r : SiteReply). Ran before after (site_script c.args.site.now c.args.call) r (place ∷ []))
    (sym c.reply_of-reply.ensures)
    (Ran-site_script before after c.args.site.now c.in_ok-copy.copy c.args.call
    (told_of c.in_ok-done.done) place c.in_ok-copy.ensures c.in_ok-done.ensures.ran)

pub returns-in_err-copy-clause-stopped : goal.returns-in_err-copy-clause-stopped
returns-in_err-copy-clause-stopped c =
    let seen = state_of c.args.self.now in
    on_err_any c.from_residual.result (StoppedWithin-none 0 seen seen (site_script c.args.site.now c.args.call) refl)

pub returns-in_err-done-clause-stopped : goal.returns-in_err-done-clause-stopped
returns-in_err-done-clause-stopped c =
    on_err_any c.from_residual-in_err-done.result
    (StoppedWithin-none 0 (state_of c.args.self.now) (state_of c.make.new.self)
    (site_script c.args.site.now c.args.call) (ap seen_by c.in_err-done.ensures.err))
