-- What is kept of a session's account, and a session whose account is of somebody's keeping. Moments are in seconds.
use Rattle.std.specs.Prelude.{◌≡◌, ◌<◌, ◌+◌, ◌++◌, ℕ, List, [], ◌∷◌, map, vec_len, vec_capacity}
use Rattle.std.specs.List.{sum_by}
use Rattle.ecr_model.specs.declared.registry.journal.Place.{Place}
use Rattle.ecr_model.specs.declared.outcome.Cut.{Cut}
use Rattle.ecr_model.specs.declared.outcome.End.{End}
use Rattle.ecr_model.specs.laws.SessionLaws.{all_places}
use Rattle.ecr_model.specs.registry.Views.{Views}
use Rattle.ecr_model.specs.sessions.Callers.{AreBetween, ServesAmong}
use Rattle.ecr_model.specs.sessions.Sessions.{Account, Outside, SettingOf}
use Rattle.ecr_desk.specs.Desks.{PassState}
use Rattle.ecr_session.specs.declared.keeper.Kept.{Kept}

-- the account of no request
abbrev pub no_account : Account
no_account = record { moments = []; places = []; cuts = [] }

-- the account with a request more: its moment, the places of its turns, and its cut
abbrev pub noted : Account → ℕ → List Place → Cut → Account
noted account moment places cut = record {
  moments = account.moments ++ moment ∷ [];
  places = account.places ++ places ∷ [];
  cuts = account.cuts ++ cut ∷ [];
}

-- the number of entries that the requests of those cuts added
abbrev pub entries_in : List Cut → ℕ
entries_in cuts = sum_by (λ cut. cut.entries) cuts

-- the account that was kept
abbrev pub account_in : Kept → Account
account_in kept = record {
  moments = kept.moments.items;
  places = map (λ v. v.items) kept.places.items;
  cuts = kept.cuts.items;
}

-- there is room for what is said of one request more
pub record HasRoom (kept : Kept) : Type 0 where
  pub moments : vec_len kept.moments < vec_capacity kept.moments
  pub places : vec_len kept.places < vec_capacity kept.places
  pub cuts : vec_len kept.cuts < vec_capacity kept.cuts

-- a session among others was served under a pass, by an account that nobody keeps: its moments, places and cuts are
-- there, each place was drawn in this session, and its entries are those that were added under the pass
pub record AccountsFor (set : SettingOf Views) (before after : Outside) (was now : PassState) (end : End)
    : Type 0 where
  pub account : Account
  pub serves : ServesAmong set before after account now.views end
  pub fresh : AreBetween was.views now.views (all_places account.places)
  pub counted : now.made ≡ was.made + entries_in account.cuts
