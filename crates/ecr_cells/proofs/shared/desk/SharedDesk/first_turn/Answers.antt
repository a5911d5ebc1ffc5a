use Rattle.std.proofs.Common.{◌≡◌, ◌∷◌, [], refl, ap, ◌∙◌, subst}
use Rattle.std.proofs.lemmas.Result.{IfOk-weaker, on_err_weaker}
use Rattle.ecr_model.specs.declared.registry.journal.CellKey.TheVariants.{Directory}
use Rattle.ecr_model.specs.declared.names.Name.{Name}
use Rattle.ecr_model.specs.registry.Scripts.{Realm}
use Rattle.ecr_model.specs.requests.Requests.{first_ask, first_turn}
use Rattle.ecr_desk.specs.Desks.{Gates, Ran}
use Rattle.ecr_desk.proofs.DeskLemmas.{StoppedWithin-none}
use Rattle.ecr_cells.specs.Deeds.{ask_of, told_of}
use Rattle.ecr_cells.specs.Doors.{realm_of_frame}
use Rattle.ecr_cells.specs.Shared.{Looks, caller_state, gate_at, seen_through}
use Rattle.ecr_cells.proofs.RunLemmas.{MadeTurn, Ran-first_turn}
use Rattle.ecr_cells.proofs.SharedViewLemmas.{StoppedWithin-first_turn}
use Rattle.ecr_cells.proofs.WorldLemmas.{on_err_any}
use Rattle.ecr_cells.proofs.shared.desk.SharedDesk.first_turn.Goals as goal

pub returns-in_err-site-clause-err : goal.returns-in_err-site-clause-err
returns-in_err-site-clause-err g c =
    let seen = seen_through c.args.self.now c.args.pass.now in
    on_err_any c.from_residual.result
    (StoppedWithin-none 0 seen seen (first_turn c.args.key.now c.args.call.now) refl)

pub returns-in_err-copy_of_name-clause-err : goal.returns-in_err-copy_of_name-clause-err
returns-in_err-copy_of_name-clause-err g c =
    let seen = seen_through c.args.self.now c.args.pass.now in
    on_err_any c.from_residual-in_err-copy_of_name.result
    (StoppedWithin-none 0 seen seen (first_turn c.args.key.now c.args.call.now) refl)

pub in_directory-requires-clause-of : goal.in_directory-requires-clause-of
in_directory-requires-clause-of g c =
    ap (λ (f : Gates). f c.in_ok-site.site) c.requires.of
    ∙ ap (gate_at c.args.self.now.sites) c.in_ok-site.ensures ∙ c.directory_of-turnstile.ensures.found

pub returns-clause-ran : goal.returns-clause-ran
returns-clause-ran g c =
    let desk = c.args.self.now in
    let key = c.args.key.now in
    let before = c.args.pass.now in
    let after = c.in_directory.new.self in
    let ask = ask_of c.first_deed-deed.result in
    let realm : Realm = record { served = desk.served; limits = desk.limits } in
    let asks : ask ≡ first_ask key.name c.args.call.now =
    c.first_deed-deed.ensures.asks ∙ ap (λ (n : Name). first_ask n c.args.call.now) c.in_ok-copy_of_name.ensures in
    IfOk-weaker c.in_directory.result
    (λ t. MadeTurn (caller_state (realm_of_frame c.directory_of-turnstile.result.now.frame) before)
    (caller_state (realm_of_frame c.directory_of-turnstile.result.now.frame) after) (Directory c.in_ok-site.site) ask
    (told_of t.0) t.1)
    (λ t. Ran (seen_through desk before) (seen_through desk after)
    (first_turn key c.args.call.now) (told_of t.0) (t.1 ∷ []))
    (λ t made. Ran-first_turn (caller_state realm before) (caller_state realm after) key c.args.call.now
    c.in_ok-site.site ask (told_of t.0) t.1 c.in_ok-site.ensures asks
    (subst (λ (r : Realm). MadeTurn (caller_state r before) (caller_state r after) (Directory c.in_ok-site.site) ask
    (told_of t.0) t.1) (ap realm_of_frame c.directory_of-turnstile.ensures.frame) made))
    c.in_directory.ensures.ran

pub returns-clause-err : goal.returns-clause-err
returns-clause-err g c =
    let desk = c.args.self.now in
    let before = c.args.pass.now in
    let after = c.in_directory.new.self in
    let realm : Realm = record { served = desk.served; limits = desk.limits } in
    on_err_weaker c.in_directory.result
    (λ looks. StoppedWithin-first_turn realm before after c.args.key.now c.args.call.now c.in_ok-site.site
    c.in_ok-site.ensures
    (subst (λ (r : Realm). Looks r before after (Directory c.in_ok-site.site))
    (ap realm_of_frame c.directory_of-turnstile.ensures.frame) looks))
    c.in_directory.ensures.err
