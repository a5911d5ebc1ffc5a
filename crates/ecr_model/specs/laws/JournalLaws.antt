-- What holds of journals.
use Rattle.std.specs.Prelude.{◌≡◌, ◌≤◌, ℕ, List, [], ◌∷◌, ◌++◌, All, Option, None, Some, unwrap_or}
use Rattle.ecr_model.specs.declared.requests.call.Call.{Call}
use Rattle.ecr_model.specs.declared.registry.journal.Limits.{Limits}
use Rattle.ecr_model.specs.declared.registry.journal.Line.{Line}
use Rattle.ecr_model.specs.declared.names.RepoKey.{RepoKey}
use Rattle.ecr_model.specs.declared.requests.refusal.Refusal.{Refusal}
use Rattle.ecr_model.specs.declared.requests.reply.Reply.TheVariants.{Refused}
use Rattle.ecr_model.specs.declared.registry.repository.Repository.{Repository}
use Rattle.ecr_model.specs.registry.Directories as directories
use Rattle.ecr_model.specs.registry.Directories.{SiteFrame}
use Rattle.ecr_model.specs.registry.Journals.{past, between, replay, IsSound, state_at}
use Rattle.ecr_model.specs.registry.Steps as steps
use Rattle.ecr_model.specs.registry.Steps.{Turn, step}

module _ {S : Type 0} (after : S → Line → Option S) (first : S) where
  -- a journal and one line more lead to what the line makes of the state
  abbrev pub ReplayGoesOn : Type 0
  ReplayGoesOn = (lines : List Line) (line : Line)
      → replay after first (lines ++ line ∷ []) ≡ unwrap_or (after (replay after first lines) line)
      (replay after first lines)

  -- the first lines of a sound journal are one
  abbrev pub AFirstPartIsSound : Type 0
  AFirstPartIsSound = (lines news : List Line) → IsSound after first (lines ++ news) → IsSound after first lines

  -- a sound journal stays sound with a later line that changes its state
  abbrev pub ASoundJournalGrows : Type 0
  ASoundJournalGrows = (lines : List Line) (line : Line) (next : S)
      → IsSound after first lines → past lines ≤ line.ticket → after (replay after first lines) line ≡ Some next
      → IsSound after first (lines ++ line ∷ [])

  -- the state at a ticket stays, whatever is entered at that ticket or later
  abbrev pub WhatWasStays : Type 0
  WhatWasStays = (lines news : List Line) (ticket : ℕ) → All (λ l. ticket ≤ l.ticket) news
      → state_at after first (lines ++ news) ticket ≡ state_at after first lines ticket

  -- past the last ticket stands what the whole journal leads to
  abbrev pub TheLastIsNow : Type 0
  TheLastIsNow = (lines : List Line) (ticket : ℕ) → IsSound after first lines → past lines ≤ ticket
      → state_at after first lines ticket ≡ replay after first lines

  -- the lines between two tickets lead from the state as at the one to that as at the other
  abbrev pub TheLinesBetweenLeadOn : Type 0
  TheLinesBetweenLeadOn = (lines : List Line) (ticket later : ℕ) → IsSound after first lines → ticket ≤ later
      → state_at after first lines later ≡ replay after (state_at after first lines ticket)
      (between ticket later lines)

-- a call that is refused changes nothing
abbrev pub ARefusalChangesNothing : Type 0
ARefusalChangesNothing = (key : RepoKey) (limits : Limits) (s : Repository) (turn : Turn) (call : Call)
    (refusal : Refusal)
    → (step key limits s turn call).reply ≡ Refused refusal → (step key limits s turn call).after ≡ None

-- ---- of all repositories, and of all directories

-- `ReplayGoesOn`, of each repository
abbrev pub ReplayOfRepositories : Type 0
ReplayOfRepositories = (key : RepoKey) (limits : Limits) → ReplayGoesOn (steps.after_line key limits) steps.first_state

-- `ReplayGoesOn`, of each directory
abbrev pub ReplayOfDirectories : Type 0
ReplayOfDirectories = (frame : SiteFrame)
    → ReplayGoesOn (directories.directory_after_line frame) directories.first_directory

-- `AFirstPartIsSound`, of each repository
abbrev pub FirstPartsOfRepositories : Type 0
FirstPartsOfRepositories = (key : RepoKey) (limits : Limits)
    → AFirstPartIsSound (steps.after_line key limits) steps.first_state

-- `AFirstPartIsSound`, of each directory
abbrev pub FirstPartsOfDirectories : Type 0
FirstPartsOfDirectories = (frame : SiteFrame)
    → AFirstPartIsSound (directories.directory_after_line frame) directories.first_directory

-- `ASoundJournalGrows`, of each repository
abbrev pub GrowthOfRepositories : Type 0
GrowthOfRepositories = (key : RepoKey) (limits : Limits)
    → ASoundJournalGrows (steps.after_line key limits) steps.first_state

-- `ASoundJournalGrows`, of each directory
abbrev pub GrowthOfDirectories : Type 0
GrowthOfDirectories = (frame : SiteFrame)
    → ASoundJournalGrows (directories.directory_after_line frame) directories.first_directory

-- `WhatWasStays`, of each repository
abbrev pub PastOfRepositories : Type 0
PastOfRepositories = (key : RepoKey) (limits : Limits) → WhatWasStays (steps.after_line key limits) steps.first_state

-- `WhatWasStays`, of each directory
abbrev pub PastOfDirectories : Type 0
PastOfDirectories = (frame : SiteFrame)
    → WhatWasStays (directories.directory_after_line frame) directories.first_directory

-- `TheLastIsNow`, of each repository
abbrev pub NowOfRepositories : Type 0
NowOfRepositories = (key : RepoKey) (limits : Limits) → TheLastIsNow (steps.after_line key limits) steps.first_state

-- `TheLastIsNow`, of each directory
abbrev pub NowOfDirectories : Type 0
NowOfDirectories = (frame : SiteFrame)
    → TheLastIsNow (directories.directory_after_line frame) directories.first_directory

-- `TheLinesBetweenLeadOn`, of each repository
abbrev pub BetweenOfRepositories : Type 0
BetweenOfRepositories = (key : RepoKey) (limits : Limits)
    → TheLinesBetweenLeadOn (steps.after_line key limits) steps.first_state

-- `TheLinesBetweenLeadOn`, of each directory
abbrev pub BetweenOfDirectories : Type 0
BetweenOfDirectories = (frame : SiteFrame)
    → TheLinesBetweenLeadOn (directories.directory_after_line frame) directories.first_directory
