-- The laws of a turn in a directory.
use Rattle.std.proofs.Common.{◌≡◌, ◌≤◌, ℕ, Bool, Option, None, is_some, option_map, refl, sym, ap, ◌∙◌}
use Rattle.ecr_model.specs.declared.requests.call.Call.{Call}
use Rattle.ecr_model.specs.declared.requests.call.SiteCall.{SiteCall}
use Rattle.ecr_model.specs.declared.registry.directory.Registered.{Registered}
use Rattle.ecr_model.specs.declared.registry.directory.Registered.TheVariants.{New, Known, Full}
use Rattle.ecr_model.specs.declared.registry.journal.Act.{Act}
use Rattle.ecr_model.specs.declared.names.Name.{Name}
use Rattle.ecr_model.specs.declared.requests.reply.SiteReply.{SiteReply}
use Rattle.ecr_model.specs.registry.Directories as directories
use Rattle.ecr_model.specs.registry.Directories.{first_directory, directory_after_line, is_registered, registration_line}
use Rattle.ecr_model.specs.registry.Journals.{past}
use Rattle.ecr_model.specs.registry.Scripts.{Ask, knows, register, site_call, call, known, registered, listed, registers, acts, directory_turn, lines_after}
use Rattle.ecr_model.specs.registry.Steps.{Beside}
use Rattle.ecr_model.proofs.lemmas.registry.JournalLemmas.{the_last_is_now}
use Rattle.ecr_site.specs.States as sites
use Rattle.ecr_site.specs.States.{SiteJournal, frame_of_journal, directory_of, registration_in, outcome_in, after_register}
use Rattle.ecr_cells.specs.declared.deed.Done.TheVariants as done
use Rattle.ecr_cells.specs.Deeds.{is_new}
use Rattle.ecr_cells.specs.Turns.{turn_in_directory, IsDirectoryTurn}

-- past all tickets of a sound journal a turn is decided by the directory that the journal leads to
turn_in_directory-now : (d : SiteJournal) (ticket : ℕ) (ask : Ask)
    → directories.IsSoundDirectory (frame_of_journal d) d.journal → past d.journal ≤ ticket
    → turn_in_directory d ticket ask ≡ directory_turn (frame_of_journal d) (directory_of d) ask
turn_in_directory-now d ticket ask sound later =
    ap (λ s. directory_turn (frame_of_journal d) s ask)
    (the_last_is_now (directory_after_line (frame_of_journal d)) first_directory d.journal ticket sound later)

-- a look for a name is the directory's turn, and changes nothing
pub IsDirectoryTurn-knows : (d : SiteJournal) (ticket caller : ℕ) (name : Name) (is : Bool)
    → directories.IsSoundDirectory (frame_of_journal d) d.journal → past d.journal ≤ ticket
    → is ≡ is_registered name (directory_of d)
    → IsDirectoryTurn d d ticket caller (knows name) (done.Known is)
IsDirectoryTurn-knows d ticket caller name is sound later same = record {
  told_is = ap known same ∙ sym (ap (λ t. t.told) (turn_in_directory-now d ticket (knows name) sound later));
  changes_is = refl;
  left = refl;
}

-- a registration is the directory's turn
pub IsDirectoryTurn-register : (d after : SiteJournal) (ticket caller : ℕ) (name : Name) (r : Registered)
    → directories.IsSoundDirectory (frame_of_journal d) d.journal → past d.journal ≤ ticket
    → r ≡ registration_in d name → after ≡ after_register d ticket caller name
    → IsDirectoryTurn d after ticket caller (register name) (done.Registered r)
IsDirectoryTurn-register d after ticket caller name r sound later same left =
    let now : turn_in_directory d ticket (register name) ≡ registers name (registration_in d name) =
    turn_in_directory-now d ticket (register name) sound later in
    record {
      told_is = told name r ∙ ap (λ x. (registers name x).told) same ∙ sym (ap (λ t. t.told) now);
      changes_is = entry name r ∙ ap (λ x. is_some (registers name x).entry) same
          ∙ sym (ap (λ t. is_some t.entry) now);
      left = left ∙ entered d ticket caller name (registration_in d name)
          ∙ sym (ap (λ t. record d { journal = lines_after caller ticket d.journal t.entry }) now);
    } where
      told : (name : Name) (r : Registered) → registered r ≡ (registers name r).told
      told name New = refl
      told name Known = refl
      told name (Full limit count) = refl

      entry : (name : Name) (r : Registered) → is_new r ≡ is_some (registers name r).entry
      entry name New = refl
      entry name Known = refl
      entry name (Full limit count) = refl

      entered : (d : SiteJournal) (ticket caller : ℕ) (name : Name) (r : Registered)
          → sites.after_result r d (registration_line ticket caller name)
          ≡ record d { journal = lines_after caller ticket d.journal (registers name r).entry }
      entered d ticket caller name New = refl
      entered d ticket caller name Known = refl
      entered d ticket caller name (Full limit count) = refl

-- a call on the site that enters nothing is the directory's turn
pub IsDirectoryTurn-site_call : (d : SiteJournal) (ticket caller : ℕ) (c : SiteCall) (reply : SiteReply)
    → directories.IsSoundDirectory (frame_of_journal d) d.journal → past d.journal ≤ ticket
    → reply ≡ (outcome_in d c).reply → (outcome_in d c).act ≡ None
    → IsDirectoryTurn d d ticket caller (site_call c) (done.Listed reply)
IsDirectoryTurn-site_call d ticket caller c reply sound later same asks =
    let now : turn_in_directory d ticket (site_call c) ≡ acts (outcome_in d c) =
    turn_in_directory-now d ticket (site_call c) sound later in
    record {
      told_is = ap listed same ∙ sym (ap (λ t. t.told) now);
      changes_is = sym (ap (λ t. is_some t.entry) now
          ∙ ap (λ (a : Option Act). is_some (option_map directories.act_entry a)) asks);
      left = sym (ap (λ t. record d { journal = lines_after caller ticket d.journal t.entry }) now
          ∙ ap (λ (a : Option Act). record d {
            journal = lines_after caller ticket d.journal
                (option_map directories.act_entry a);
          }) asks);
    }

-- a call on a repository does nothing in a directory
pub IsDirectoryTurn-call : (d : SiteJournal) (ticket caller : ℕ) (beside : Beside) (c : Call)
    → IsDirectoryTurn d d ticket caller (call beside c) done.Nothing
IsDirectoryTurn-call d ticket caller beside c = record { told_is = refl; changes_is = refl; left = refl }
