-- The laws of a turn in a repository.
use Rattle.std.proofs.Common.{◌≡◌, ◌≤◌, ℕ, List, Option, None, Some, [], is_some, option_map, if◌then◌else◌, refl, sym, ap, ◌∙◌, subst}
use Rattle.ecr_blob_upload.specs.declared.call.Outcome.{Outcome}
use Rattle.ecr_model.specs.declared.requests.call.Call.{Call}
use Rattle.ecr_model.specs.declared.requests.call.SiteCall.{SiteCall}
use Rattle.ecr_model.specs.declared.registry.journal.CellKey.TheVariants.{Repository}
use Rattle.ecr_model.specs.declared.registry.journal.Place.{Place}
use Rattle.ecr_model.specs.declared.names.Name.{Name}
use Rattle.ecr_model.specs.declared.registry.repository.Repository as kept
use Rattle.ecr_model.specs.registry.Journals.{past}
use Rattle.ecr_model.specs.requests.Requests.{beside_of}
use Rattle.ecr_model.specs.registry.Scripts.{Ask, knows, register, site_call, call, Turned, replied, replies, lines_after}
use Rattle.ecr_model.specs.registry.Steps.{Turn, first_state, step, after_line, IsSoundRepository, entry_of, line_of}
use Rattle.ecr_model.proofs.lemmas.registry.JournalLemmas.{the_last_is_now}
use Rattle.ecr_repo.specs.States.{State, unsealed_turn, call_outcome, reply_to, changes_repository, after_call, with_entry}
use Rattle.ecr_cells.specs.declared.deed.Done.{Done}
use Rattle.ecr_cells.specs.declared.deed.Done.TheVariants as done
use Rattle.ecr_cells.specs.Deeds as deeds
use Rattle.ecr_cells.specs.Deeds.{told_of}
use Rattle.ecr_cells.specs.SiteCells.{IsNextTurn}
use Rattle.ecr_cells.specs.Turns.{turn_in_repository, IsRepositoryTurn}

is_some-option_map : {A B : Type 0} (f : A → B) (o : Option A) → is_some (option_map f o) ≡ is_some o
is_some-option_map f None = refl
is_some-option_map f (Some a) = refl

-- a call with the reply and the change that its state has is the repository's turn
pub IsRepositoryTurn-call : (s after : State) (ticket caller moment : ℕ) (given : Option (List ℕ)) (c : Call)
    (out : Outcome)
    → IsSoundRepository s.key s.limits s.journal → past s.journal ≤ ticket
    → out.reply ≡ reply_to s (unsealed_turn ticket moment []) c
    → out.changed ≡ changes_repository s (unsealed_turn ticket moment []) c
    → after ≡ after_call s caller (unsealed_turn ticket moment []) c
    → IsRepositoryTurn s after ticket caller (call (beside_of given moment) c) (done.Replied out)
IsRepositoryTurn-call s after ticket caller moment given c out sound later reply_is changed_is after_is =
    let turn : Turn = unsealed_turn ticket moment [] in
    let turned : Turned = replies turn c (call_outcome s turn c) in
    let now : turn_in_repository s ticket (call (beside_of given moment) c) ≡ turned =
    ap (λ r. replies turn c (step s.key s.limits r turn c))
    (the_last_is_now (after_line s.key s.limits) first_state s.journal ticket sound later) in
    record {
      told_is = ap (λ r. replied r None) reply_is ∙ sym (ap (λ t. t.told) now);
      changes_is = changed_is
          ∙ sym (is_some-option_map (λ (r : kept.Repository). entry_of turn c) (call_outcome s turn c).after)
          ∙ sym (ap (λ t. is_some t.entry) now);
      left = after_is
          ∙ entered s ticket caller turn c refl (call_outcome s turn c).after
          ∙ sym (ap (λ t. record s { journal = lines_after caller ticket s.journal t.entry }) now);
    } where
      entered : (s : State) (ticket caller : ℕ) (turn : Turn) (c : Call) → turn.ticket ≡ ticket
          → (o : Option kept.Repository)
          → (if is_some o then with_entry s (line_of caller turn c) else s)
          ≡ record s { journal = lines_after caller ticket s.journal (option_map (λ r. entry_of turn c) o) }
      entered s ticket caller turn c is None = refl
      entered s ticket caller turn c is (Some r) =
          ap (λ n. with_entry s (record { ticket = n; caller = caller; entry = entry_of turn c })) is

-- no name is looked up in a repository
pub IsRepositoryTurn-knows : (s : State) (ticket caller : ℕ) (name : Name)
    → IsRepositoryTurn s s ticket caller (knows name) done.Nothing
IsRepositoryTurn-knows s ticket caller name = record { told_is = refl; changes_is = refl; left = refl }

-- no name is registered in a repository
pub IsRepositoryTurn-register : (s : State) (ticket caller : ℕ) (name : Name)
    → IsRepositoryTurn s s ticket caller (register name) done.Nothing
IsRepositoryTurn-register s ticket caller name = record { told_is = refl; changes_is = refl; left = refl }

-- a call on a site does nothing in a repository
pub IsRepositoryTurn-site_call : (s : State) (ticket caller : ℕ) (c : SiteCall)
    → IsRepositoryTurn s s ticket caller (site_call c) done.Nothing
IsRepositoryTurn-site_call s ticket caller c = record { told_is = refl; changes_is = refl; left = refl }

-- the turn of the next ticket, by caller 0
pub IsNextTurn-made : (before after : State) (ticket : ℕ) (ask : Ask) (d : Done) (place : Place)
    → past before.journal ≡ ticket → IsRepositoryTurn before after ticket 0 ask d
    → place ≡ record { cell = Repository before.key; ticket = ticket; changed = deeds.changes d }
    → IsNextTurn before after ask (told_of d) place
IsNextTurn-made before after ticket ask d place is turn placed =
    let next : IsRepositoryTurn before after (past before.journal) 0 ask d =
    subst (λ (n : ℕ). IsRepositoryTurn before after n 0 ask d) (sym is) turn in
    record {
      told_is = next.told_is;
      placed = placed
          ∙ ap (λ n. record { cell = Repository before.key; ticket = n; changed = deeds.changes d }) (sym is)
          ∙ ap (λ b. record {
            cell = Repository before.key;
            ticket = past before.journal;
            changed = b;
          }) next.changes_is;
      left = next.left;
    }
