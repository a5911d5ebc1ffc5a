-- Places of turns compared with journals, with views and with each other, at examples. Of this registry. Tickets count
-- from 0.
use Rattle.std.specs.Prelude.{◌≡◌, ℕ, true, List, [], ◌∷◌, Some}
use Rattle.ecr_model.specs.declared.registry.journal.CellKey.{CellKey}
use Rattle.ecr_model.specs.declared.registry.journal.CellKey.TheVariants.{Directory, Repository}
use Rattle.ecr_model.specs.declared.registry.journal.Line.{Line}
use Rattle.ecr_model.specs.declared.registry.journal.Place.{Place}
use Rattle.ecr_model.specs.registry.Scripts.{Journals}
use Rattle.ecr_model.specs.registry.Soundness.{IsAbove, DoesNotFall, AreFresh}
use Rattle.ecr_model.specs.registry.Views.{Views}
use Rattle.ecr_model.specs.sessions.Callers.{IsBetween, IsFollowed, AreBetween}
use Rattle.ecr_examples.specs.Kept.{line}
use Rattle.ecr_examples.specs.States.{app}

-- the directory's place at that ticket, and the repository's
abbrev pub listed : ℕ → Place
listed ticket = record { cell = Directory app.site; ticket = ticket; changed = true }

abbrev pub stored : ℕ → Place
stored ticket = record { cell = Repository app; ticket = ticket; changed = true }

-- journals with these lines in each directory, and none in a repository
abbrev pub journals : List Line → Journals
journals lines (Directory site) = lines
journals lines (Repository key) = []

-- views in which each directory's turns below `here` are passed, and each repository's below `there`
abbrev pub views : ℕ → ℕ → Views
views here there (Directory site) = Some (record { caller = 0; past = here; seen = [] })
views here there (Repository key) = Some (record { caller = 0; past = there; seen = [] })

-- a place is above what stood in its cell, and between the views before and after; later ones of a cell don't fall, or
-- rise
pub record PlacesAreCompared : Type 0 where
  pub above : IsAbove (line 0 3 ∷ line 1 7 ∷ []) 8
  pub above_none : IsAbove [] 0
  pub at_last : IsAbove (line 0 3 ∷ line 1 7 ∷ []) 7 → ⊥
  pub below_first : IsAbove (line 0 9 ∷ line 1 7 ∷ []) 8 → ⊥
  pub stays : DoesNotFall (listed 3) (listed 3)
  pub falls : DoesNotFall (listed 4) (listed 3) → ⊥
  pub falls_elsewhere : DoesNotFall (listed 4) (stored 3)
  pub fresh : AreFresh (journals (line 0 3 ∷ [])) (listed 4 ∷ stored 0 ∷ listed 4 ∷ [])
  pub not_fresh : AreFresh (journals (line 0 3 ∷ [])) (stored 0 ∷ listed 3 ∷ []) → ⊥
  pub fresh_falls : AreFresh (journals []) (listed 4 ∷ stored 0 ∷ listed 3 ∷ []) → ⊥
  pub first : IsBetween (views 3 0) (views 5 0) (listed 3)
  pub last : IsBetween (views 3 0) (views 5 0) (listed 4)
  pub low : IsBetween (views 3 0) (views 5 0) (listed 2) → ⊥
  pub high : IsBetween (views 3 0) (views 5 0) (listed 5) → ⊥
  pub elsewhere : IsBetween (views 3 0) (views 5 0) (stored 0) → ⊥
  pub rises : IsFollowed (listed 3) (listed 4)
  pub stays_not : IsFollowed (listed 3) (listed 3) → ⊥
  pub rises_elsewhere : IsFollowed (listed 3) (stored 3)
  pub between : AreBetween (views 3 0) (views 5 1) (listed 3 ∷ stored 0 ∷ listed 4 ∷ [])
  pub twice : AreBetween (views 3 0) (views 5 1) (listed 3 ∷ stored 0 ∷ listed 3 ∷ []) → ⊥
  pub later_high : AreBetween (views 3 0) (views 5 1) (listed 3 ∷ stored 1 ∷ []) → ⊥
