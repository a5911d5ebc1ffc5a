-- A site's directory as contracts see it: its journal, and what is fixed throughout. Of this registry:
-- docs/DECISIONS.md, "Directories".
use Rattle.std.specs.Prelude.{◌≡◌, ℕ, List, [], ◌∷◌, ◌++◌}
use Rattle.ecr_model.specs.declared.requests.call.SiteCall.{SiteCall}
use Rattle.ecr_model.specs.declared.registry.directory.Directory.{Directory}
use Rattle.ecr_model.specs.declared.registry.directory.Registered.{Registered}
use Rattle.ecr_model.specs.declared.registry.directory.Registered.TheVariants.{New, Known, Full}
use Rattle.ecr_model.specs.declared.registry.journal.Limits.{Limits}
use Rattle.ecr_model.specs.declared.registry.journal.Line.{Line}
use Rattle.ecr_model.specs.declared.names.Name.{Name}
use Rattle.ecr_model.specs.declared.names.SiteId.{SiteId}
use Rattle.ecr_model.specs.registry.Directories.{SiteFrame, SiteOutcome, registration, replayed_directory, site_step, registration_line, IsSoundDirectory}

-- a site's journal, the first line first, and the values that are fixed throughout it
pub record SiteJournal : Type 0 where
  pub site : SiteId
  pub served : List SiteId
  pub limits : Limits
  pub journal : List Line

-- the frame of a site's journal
abbrev pub frame_of_journal : SiteJournal → SiteFrame
frame_of_journal s = record { site = s.site; served = s.served; limits = s.limits }

-- the directory that the journal leads to
abbrev pub directory_of : SiteJournal → Directory
directory_of s = replayed_directory (frame_of_journal s) s.journal

-- the result of registering the name
abbrev pub registration_in : SiteJournal → Name → Registered
registration_in s name = registration (frame_of_journal s) (directory_of s) name

-- the result of a call on the directory
abbrev pub outcome_in : SiteJournal → SiteCall → SiteOutcome
outcome_in s call = site_step (frame_of_journal s) (directory_of s) call

-- the journal with one line more
abbrev pub with_line : SiteJournal → Line → SiteJournal
with_line s line = record s { journal = s.journal ++ line ∷ [] }

-- the journal after a registration with that result: a new name's line is entered
abbrev pub after_result : Registered → SiteJournal → Line → SiteJournal
after_result New s line = with_line s line
after_result Known s line = s
after_result (Full limit count) s line = s

-- the journal after the registration at that ticket, under that caller's number
abbrev pub after_register : SiteJournal → ℕ → ℕ → Name → SiteJournal
after_register s ticket caller name = after_result (registration_in s name) s (registration_line ticket caller name)

-- the names in order are those of a sound journal
pub record AreNamesOf (frame : SiteFrame) (journal : List Line) (names : List Name) : Type 0 where
  pub sound : IsSoundDirectory frame journal
  pub same : names ≡ (replayed_directory frame journal).names
