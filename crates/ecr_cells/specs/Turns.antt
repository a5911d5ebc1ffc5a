-- A turn in the state of one cell, and how it leaves it (docs/DECISIONS.md, "Scripts"). Tickets count from 0.
use Rattle.std.specs.Prelude.{◌≡◌, ℕ, None, is_some}
use Rattle.ecr_model.specs.registry.Directories.{directory_at}
use Rattle.ecr_model.specs.registry.Scripts.{Ask, Turned, directory_turn, repository_turn, lines_after}
use Rattle.ecr_repo.specs.States.{State}
use Rattle.ecr_site.specs.States.{SiteJournal, frame_of_journal}
use Rattle.ecr_cells.specs.declared.deed.Done.{Done}
use Rattle.ecr_cells.specs.Deeds.{told_of, changes}

-- the turn of that ticket in the directory
abbrev pub turn_in_directory : SiteJournal → ℕ → Ask → Turned
turn_in_directory d ticket ask =
    directory_turn (frame_of_journal d) (directory_at (frame_of_journal d) d.journal ticket) ask

-- the turn of that ticket in the repository
abbrev pub turn_in_repository : State → ℕ → Ask → Turned
turn_in_repository s ticket ask = repository_turn s.key s.limits s.journal ticket None ask

-- the turn of that ticket was made in the directory under that caller's number: its answer is the turn's, and says
-- whether there is an entry, which is the journal's last
pub record IsDirectoryTurn (before after : SiteJournal) (ticket caller : ℕ) (ask : Ask) (done : Done) : Type 0 where
  pub told_is : told_of done ≡ (turn_in_directory before ticket ask).told
  pub changes_is : changes done ≡ is_some (turn_in_directory before ticket ask).entry
  pub left : after ≡ record before {
    journal = lines_after caller ticket before.journal
        (turn_in_directory before ticket ask).entry;
  }

-- likewise in the repository
pub record IsRepositoryTurn (before after : State) (ticket caller : ℕ) (ask : Ask) (done : Done) : Type 0 where
  pub told_is : told_of done ≡ (turn_in_repository before ticket ask).told
  pub changes_is : changes done ≡ is_some (turn_in_repository before ticket ask).entry
  pub left : after ≡ record before {
    journal = lines_after caller ticket before.journal
        (turn_in_repository before ticket ask).entry;
  }
