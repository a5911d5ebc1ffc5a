use Rattle.std.proofs.Common.{◌≡◌, List, sym, subst}
use Rattle.ecr_blob_upload.specs.Loads.{given}
use Rattle.ecr_model.specs.declared.names.SiteId.{SiteId}
use Rattle.ecr_repo.specs.States.{unsealed_turn, reply_to, changes_repository, after_call}
use Rattle.ecr_cells.specs.declared.deed.Deed.{Deed}
use Rattle.ecr_cells.specs.declared.deed.Done.TheVariants as done
use Rattle.ecr_cells.specs.Deeds.{ask_of}
use Rattle.ecr_cells.specs.Turns.{IsRepositoryTurn}
use Rattle.ecr_cells.proofs.RepositoryLemmas.{IsRepositoryTurn-call}
use Rattle.ecr_cells.proofs.repository.make.Goals as goal

pub returns-in-OnRepository-clause-turned : goal.returns-in-OnRepository-clause-turned
returns-in-OnRepository-clause-turned c =
    let s = c.args.state.now in
    let after = c.change.new.self in
    let n = c.args.ticket in
    let call = c.in-OnRepository.call in
    let moment = c.in-OnRepository.moment in
    let out = c.in_ok-outcome-in-OnRepository.outcome in
    let nowhere = c.new-nowhere.ensures.items in
    subst (λ (d : Deed). IsRepositoryTurn s after n c.args.caller (ask_of d) (done.Replied out))
    (sym c.in-OnRepository.is)
    (IsRepositoryTurn-call s after n c.args.caller moment
    (given c.in-OnRepository.load) call out c.a_journal_is_sound.ensures.sound c.requires.later
    (subst (λ (ds : List SiteId). out.reply ≡ reply_to s
    (unsealed_turn n moment ds) call) nowhere c.in_ok-outcome-in-OnRepository.ensures.reply)
    (subst (λ (ds : List SiteId). out.changed ≡ changes_repository s
    (unsealed_turn n moment ds) call) nowhere c.in_ok-outcome-in-OnRepository.ensures.changed)
    (subst (λ (ds : List SiteId). after ≡ after_call s c.args.caller
    (unsealed_turn n moment ds) call) nowhere c.in_ok-outcome-in-OnRepository.ensures.entered))
