-- The words of a session, part by part.
use Rattle.std.specs.Prelude.{◌≡◌, ◌≢◌, ◌≤◌, ℕ, List, All, AllPairs, Contains, map, decimal}
use Rattle.ecr_model.specs.declared.names.SiteId.{SiteId}
use Rattle.ecr_model.specs.declared.names.TheConstants.{MAX_MOMENT}
use Rattle.ecr_model.specs.names.Sites.{IsSite, ReadsSite, site_word}

-- the word is that number, at most `most`, in decimal with no leading zero
pub record IsNumber (most : ℕ) (word : List ℕ) (number : ℕ) : Type 0 where
  pub spelled : word ≡ decimal number
  pub in_range : number ≤ most

-- the word is no such number
abbrev pub IsNoNumber : ℕ → List ℕ → Type 0
IsNoNumber most word = (number : ℕ) → IsNumber most word number → ⊥

-- the word is that moment
abbrev pub IsMoment : List ℕ → ℕ → Type 0
IsMoment = IsNumber MAX_MOMENT

-- the word reads as that site, and isn't one of the earlier words
pub record IsNew (earlier : List (List ℕ)) (word : List ℕ) (site : SiteId) : Type 0 where
  pub reads : ReadsSite word site
  pub is_new : ¬ (Contains earlier word)

-- the words are those of these sites, none of which stands twice
pub record AreSites (words : List (List ℕ)) (sites : List SiteId) : Type 0 where
  pub spelled : words ≡ map site_word sites
  pub are_sites : All IsSite sites
  pub differ : AllPairs ◌≢◌ sites
