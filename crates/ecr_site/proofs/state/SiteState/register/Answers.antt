use Rattle.std.proofs.Common.{◌≤◌, ℕ, length, ap, subst, sym}
use Rattle.ecr_site.specs.States.{SiteJournal, directory_of}
use Rattle.ecr_site.proofs.StateLemmas.{after_register-beyond}
use Rattle.ecr_site.proofs.state.SiteState.register.Goals as goal

pub returns-else-count-self-clause-entered : goal.returns-else-count-self-clause-entered
returns-else-count-self-clause-entered c =
    let now = c.args.self.now in
    let limit = ap (λ (j : SiteJournal). j.limits.names) c.self.view_is in
    let full : now.limits.names ≤ length (directory_of now).names =
    subst (λ (n : ℕ). now.limits.names ≤ n) c.count.ensures.names
    (subst (λ (l : ℕ). l ≤ c.count.result) limit c.if-count-self.false) in
    sym (after_register-beyond now c.args.ticket c.args.caller c.args.name.now full)
