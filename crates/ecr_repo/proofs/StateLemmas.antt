-- What holds of a state's journal and of what it leads to.
use Rattle.std.proofs.Common.{◌≡◌, ◌≤◌, ℕ, suc, List, [], ◌∷◌, ◌++◌, Option, None, Some, is_some, if◌then◌else◌, unwrap_or, refl, sym, ap, ◌∙◌, subst, arith}
use Rattle.ecr_model.specs.declared.requests.call.Call.{Call}
use Rattle.ecr_model.specs.declared.requests.call.Call.TheVariants.{Describe}
use Rattle.ecr_model.specs.declared.registry.journal.Limits.{Limits}
use Rattle.ecr_model.specs.declared.registry.journal.Line.{Line}
use Rattle.ecr_model.specs.declared.names.RepoKey.{RepoKey}
use Rattle.ecr_model.specs.declared.registry.repository.Repository.{Repository}
use Rattle.ecr_model.specs.registry.Journals.{past_from, past}
use Rattle.ecr_model.specs.registry.Journals as journals
use Rattle.ecr_model.specs.registry.Steps.{Turn, first_state, step, after_line, replayed_repository, line_of}
use Rattle.ecr_model.proofs.lemmas.registry.JournalLemmas.{IsSoundFrom-push, replay-push}
use Rattle.ecr_repo.specs.Cells.{IsKept}
use Rattle.ecr_repo.specs.StateLaws.{AnAnswerChangesNothing, TheNextTurnIsLater}

-- the empty journal is kept as that of a name that was never used
pub IsKept-first : (key : RepoKey) (limits : Limits) → IsKept key limits [] first_state
unfolding journals.replay journals.IsSoundFrom
IsKept-first key limits = record { sound = tt; leads = refl }

-- a line of a later turn that changes the repository keeps the journal
pub IsKept-entered : (key : RepoKey) (limits : Limits) (journal : List Line) (repository : Repository) (line : Line)
    (next : Repository)
    → IsKept key limits journal repository → past journal ≤ line.ticket
    → after_line key limits repository line ≡ Some next
    → IsKept key limits (journal ++ line ∷ []) next
IsKept-entered key limits journal repository line next kept later changes =
    let there : after_line key limits (replayed_repository key limits journal) line ≡ Some next =
    subst (λ r. after_line key limits r line ≡ Some next) kept.leads changes in
    record {
      sound = IsSoundFrom-push (after_line key limits) 0 first_state journal line next kept.sound later there;
      leads = sym (replay-push (after_line key limits) first_state journal line
          ∙ ap (λ o. unwrap_or o (replayed_repository key limits journal)) there);
    }

-- so does entering a line only where it changes the repository
pub IsKept-after : (key : RepoKey) (limits : Limits) (journal : List Line) (repository : Repository) (line : Line)
    (o : Option Repository)
    → IsKept key limits journal repository → past journal ≤ line.ticket → after_line key limits repository line ≡ o
    → IsKept key limits (if is_some o then journal ++ line ∷ [] else journal) (unwrap_or o repository)
IsKept-after key limits journal repository line None kept later changes = kept
IsKept-after key limits journal repository line (Some next) kept later changes =
    IsKept-entered key limits journal repository line next kept later changes

-- the line of a call makes of the repository what the call comes to
pub after_line-line_of : (key : RepoKey) (limits : Limits) (repository : Repository) (caller : ℕ) (turn : Turn)
    (call : Call)
    → after_line key limits repository (line_of caller turn call) ≡ (step key limits repository turn call).after
unfolding after_line
after_line-line_of key limits repository caller turn call = refl

-- so a call's line, entered where the call changes the repository, keeps the journal
pub IsKept-called : (key : RepoKey) (limits : Limits) (journal : List Line) (repository : Repository) (caller : ℕ)
    (turn : Turn) (call : Call)
    → IsKept key limits journal repository → past journal ≤ turn.ticket
    → IsKept key limits
    (if is_some (step key limits repository turn call).after then journal ++ line_of caller turn call ∷ [] else journal)
    (unwrap_or (step key limits repository turn call).after repository)
IsKept-called key limits journal repository caller turn call kept later =
    IsKept-after key limits journal repository (line_of caller turn call)
    (step key limits repository turn call).after kept later
    (after_line-line_of key limits repository caller turn call)

-- a call that asks changes nothing
pub an_answer_changes_nothing : AnAnswerChangesNothing
unfolding step
an_answer_changes_nothing s turn Describe asks = grind arith
an_answer_changes_nothing s turn _ asks = absurd asks

-- the last line is past the others
past_from-push : (low : ℕ) (lines : List Line) (line : Line) → past_from low (lines ++ line ∷ []) ≡ suc line.ticket
past_from-push low [] line = refl
past_from-push low (l ∷ ls) line = past_from-push (suc l.ticket) ls line

-- the next turn is later than what a turn enters
pub the_next_turn_is_later : TheNextTurnIsLater
the_next_turn_is_later s caller turn call later =
    let push : past (s.journal ++ line_of caller turn call ∷ []) ≡ suc turn.ticket =
    past_from-push 0 s.journal (line_of caller turn call) in
    grind (arith, later, push)
