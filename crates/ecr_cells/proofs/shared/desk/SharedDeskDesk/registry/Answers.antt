use Rattle.std.proofs.Common.{[], ◌∷◌, refl, sym, ap, ◌∙◌, subst}
use Rattle.ecr_model.specs.declared.registry.journal.CellKey.TheVariants.{Directory}
use Rattle.ecr_model.specs.declared.requests.reply.SiteReply.{SiteReply}
use Rattle.ecr_model.specs.registry.Scripts.{Realm, site_call}
use Rattle.ecr_model.specs.requests.Requests.{site_script}
use Rattle.ecr_desk.specs.Desks.{Gates, Ran}
use Rattle.ecr_desk.proofs.DeskLemmas.{StoppedWithin-none}
use Rattle.ecr_cells.specs.Deeds.{told_of}
use Rattle.ecr_cells.specs.Doors.{realm_of_frame}
use Rattle.ecr_cells.specs.Shared.{Looks, caller_state, gate_at, seen_through}
use Rattle.ecr_cells.proofs.RunLemmas.{MadeTurn, Ran-site_script}
use Rattle.ecr_cells.proofs.SharedViewLemmas.{StoppedWithin-site_script}
use Rattle.ecr_cells.proofs.WorldLemmas.{on_err_any}
use Rattle.ecr_cells.proofs.shared.desk.SharedDeskDesk.registry.Goals as goal

pub returns-in_err-copy-clause-stopped : goal.returns-in_err-copy-clause-stopped
returns-in_err-copy-clause-stopped g c =
    let seen = seen_through c.args.self.now c.args.pass.now in
    on_err_any c.from_residual.result (StoppedWithin-none 0 seen seen (site_script c.args.site.now c.args.call) refl)

pub in_directory-requires-clause-of : goal.in_directory-requires-clause-of
in_directory-requires-clause-of g c =
    ap (λ (f : Gates). f c.in_ok-copy.copy) c.requires.of
    ∙ ap (gate_at c.args.self.now.sites) c.in_ok-copy.ensures ∙ c.directory_of-turnstile.ensures.found

pub returns-in_err-done-clause-stopped : goal.returns-in_err-done-clause-stopped
returns-in_err-done-clause-stopped g c =
    let desk = c.args.self.now in
    let before = c.args.pass.now in
    let after = c.in_directory.new.self in
    let realm : Realm = record { served = desk.served; limits = desk.limits } in
    on_err_any c.from_residual-in_err-done.result
    (StoppedWithin-site_script realm before after c.args.site.now c.in_ok-copy.copy c.args.call c.in_ok-copy.ensures
    (subst (λ (r : Realm). Looks r before after (Directory c.in_ok-copy.copy))
    (ap realm_of_frame c.directory_of-turnstile.ensures.frame) c.in_err-done.ensures.err))

pub returns-clause-ran : goal.returns-clause-ran
returns-clause-ran g c =
    let desk = c.args.self.now in
    let site = c.args.site.now in
    let before = c.args.pass.now in
    let after = c.in_directory.new.self in
    let told = told_of c.in_ok-done.done in
    let place = c.in_ok-done.place in
    let realm : Realm = record { served = desk.served; limits = desk.limits } in
    subst (λ (r : SiteReply). Ran (caller_state realm before) (caller_state realm after) (site_script site c.args.call)
    r (place ∷ [])) (sym c.reply_of-reply.ensures)
    (Ran-site_script (caller_state realm before) (caller_state realm after) site c.in_ok-copy.copy c.args.call told
    place c.in_ok-copy.ensures
    (subst (λ (r : Realm). MadeTurn (caller_state r before) (caller_state r after) (Directory c.in_ok-copy.copy)
    (site_call c.args.call) told place) (ap realm_of_frame c.directory_of-turnstile.ensures.frame)
    c.in_ok-done.ensures.ran))
