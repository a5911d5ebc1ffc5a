-- The words of a server: options, an address, and the words of sites. They are read by `clap`, which tells of the words
-- that it takes the texts of each argument; a word that stands before them all is the command's.
use Rattle.std.specs.Prelude.{◌≡◌, ◌≤◌, ℕ, true, List, [], length, codes, decimal, Option, None, Some, option_map, slice_get}
use Rattle.std.specs.Borrow.{Bor}
use Rattle.clap.specs.Words.{App, Row, Rule, Text, all_of, fault_of, first_of, matches_of, new_app, new_rule, with_rule}
use Rattle.clap.specs.Lexer.{usize_max}
use Rattle.ecr_model.specs.declared.names.SiteId.{SiteId}
use Rattle.ecr_serve.specs.Words.{AreSites}

-- an option `--name N`, or `--name=N`
abbrev pub option_rule : Text → Rule
option_rule name = record (new_rule name) { long = Some name }

-- the address
abbrev pub address_rule : Rule
address_rule = record (new_rule (codes "address")) { required = true }

-- the words behind the address
abbrev pub sites_rule : Rule
sites_rule = record (new_rule (codes "sites")) {
  required = true;
  range = Some (record { start_inclusive = 1; end_inclusive = usize_max });
}

-- the arguments of a server
abbrev pub serve_app : App
serve_app =
    with_rule
    (with_rule
    (with_rule (with_rule (new_app (codes "serve")) (option_rule (codes "workers"))) (option_rule (codes "copiers")))
    address_rule) sites_rule

-- the number of an option, from 1 to `most`: that of its text in decimal, and without it the usual one
abbrev pub IsCount : ℕ → ℕ → Option Text → ℕ → Type 0
IsCount usual most None count = count ≡ usual
IsCount usual most (Some text) count = (text ≡ decimal count) × (1 ≤ count) × (count ≤ most)

-- there is no such number
abbrev pub IsNoCount : ℕ → ℕ → Option Text → Type 0
IsNoCount usual most text = (count : ℕ) → IsCount usual most text count → ⊥

-- the text behind a reference, where there is one
abbrev pub text_of : Option (Bor Text) → Option Text
text_of = option_map (λ s. s.now)

-- the words behind the address are those of 1 to 64 different sites
abbrev pub AreSiteTexts : Option (List Text) → List SiteId → Type 0
AreSiteTexts None sites = ⊥
AreSiteTexts (Some words) sites = AreSites words sites × (1 ≤ length words) × (length words ≤ 64)

-- these texts of the arguments are those of a server
pub record AreTexts (texts : List Row) (workers copiers : ℕ) (address : Text) (sites : List SiteId) : Type 0 where
  pub workers_are : IsCount 4 64 (first_of (codes "workers") texts) workers
  pub copiers_are : IsCount 1 16 (first_of (codes "copiers") texts) copiers
  pub address_is : first_of (codes "address") texts ≡ Some address
  pub sites_are : AreSiteTexts (all_of (codes "sites") texts) sites

-- the words are those of a server of so many workers and copiers at that address, for these sites
pub record IsServer (words : List Text) (workers copiers : ℕ) (address : Text) (sites : List SiteId) : Type 0 where
  pub command : slice_get words 0 ≡ Some (codes "serve")
  pub taken : fault_of serve_app words ≡ []
  pub texts : AreTexts (matches_of serve_app words) workers copiers address sites

-- the words are no server's
abbrev pub IsNoServer : List Text → Type 0
IsNoServer words =
    (workers copiers : ℕ) (address : Text) (sites : List SiteId) → IsServer words workers copiers address sites → ⊥
