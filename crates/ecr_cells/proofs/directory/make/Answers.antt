use Rattle.std.proofs.Common.{sym, subst}
use Rattle.ecr_cells.specs.declared.deed.Deed.{Deed}
use Rattle.ecr_cells.specs.declared.deed.Done.TheVariants as done
use Rattle.ecr_cells.specs.Deeds.{ask_of}
use Rattle.ecr_cells.specs.Turns.{IsDirectoryTurn}
use Rattle.ecr_cells.proofs.DirectoryLemmas.{IsDirectoryTurn-knows, IsDirectoryTurn-register, IsDirectoryTurn-site_call}
use Rattle.ecr_cells.proofs.directory.make.Goals as goal

pub returns-in-Knows-clause-turned : goal.returns-in-Knows-clause-turned
returns-in-Knows-clause-turned c =
    let s = c.args.state.now in
    subst (λ (d : Deed). IsDirectoryTurn s s c.args.ticket c.args.caller (ask_of d) (done.Known c.knows.result))
    (sym c.in-Knows.is)
    (IsDirectoryTurn-knows s c.args.ticket c.args.caller c.in-Knows.name c.knows.result
    c.a_journal_is_sound.ensures.sound c.requires.later c.knows.ensures.known)

pub returns-in_ok-registered-in-Register-clause-turned : goal.returns-in_ok-registered-in-Register-clause-turned
returns-in_ok-registered-in-Register-clause-turned c =
    let s = c.args.state.now in
    let r = c.in_ok-registered-in-Register.registered in
    subst (λ (d : Deed). IsDirectoryTurn s c.register.new.self c.args.ticket c.args.caller (ask_of d)
    (done.Registered r)) (sym c.in-Register.is)
    (IsDirectoryTurn-register s c.register.new.self c.args.ticket c.args.caller c.in-Register.name r
    c.a_journal_is_sound.ensures.sound c.requires.later
    c.in_ok-registered-in-Register.ensures.exact c.in_ok-registered-in-Register.ensures.entered)

pub returns-in_ok-reply-in-OnSite-clause-turned : goal.returns-in_ok-reply-in-OnSite-clause-turned
returns-in_ok-reply-in-OnSite-clause-turned c =
    let s = c.args.state.now in
    let reply = c.in_ok-reply-in-OnSite.reply in
    subst (λ (d : Deed). IsDirectoryTurn s s c.args.ticket c.args.caller (ask_of d) (done.Listed reply))
    (sym c.in-OnSite.is)
    (IsDirectoryTurn-site_call s c.args.ticket c.args.caller c.in-OnSite.call reply c.a_journal_is_sound.ensures.sound
    c.requires.later
    c.in_ok-reply-in-OnSite.ensures.exact c.in_ok-reply-in-OnSite.ensures.asks)
