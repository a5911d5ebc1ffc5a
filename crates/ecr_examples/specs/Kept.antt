-- Journals that grow, and what is kept of repositories and directories, at examples. Of this registry. Tickets count
-- from 0, moments are in seconds.
use Rattle.std.specs.Prelude.{◌≡◌, ℕ, true, false, List, [], ◌∷◌, map, None, Some, codes}
use Rattle.ecr_model.specs.declared.registry.directory.Registered.TheVariants.{New, Known, Full}
use Rattle.ecr_model.specs.declared.registry.journal.Line.{Line}
use Rattle.ecr_model.specs.declared.registry.repository.Mutability.TheVariants.{Mutable}
use Rattle.ecr_model.specs.declared.requests.call.Call.TheVariants.{Create, Delete, Describe}
use Rattle.ecr_model.specs.declared.requests.call.SiteCall.TheVariants as site_calls
use Rattle.ecr_model.specs.declared.requests.reply.Reply.TheVariants.{Created, Described}
use Rattle.ecr_model.specs.declared.requests.reply.SiteReply.TheVariants as site_replies
use Rattle.ecr_model.specs.registry.Directories.{registration_line, first_directory, with_name}
use Rattle.ecr_model.specs.registry.Growth.{Each, Rises, Grows, Follows}
use Rattle.ecr_model.specs.registry.Limits.{standard}
use Rattle.ecr_model.specs.registry.Steps.{becomes, first_state, line_of}
use Rattle.ecr_outside.specs.Plan.{most_at, is_failing, next_call}
use Rattle.ecr_repo.specs.Cells.{repository_of}
use Rattle.ecr_repo.specs.States.{repository_now, unsealed_turn, call_outcome, reply_to, changes_repository, with_entry, after_call}
use Rattle.ecr_site.specs.States.{SiteJournal, frame_of_journal, directory_of, registration_in, outcome_in, with_line, after_result, after_register}
use Rattle.ecr_turn.specs.Journals.{longer_of, of_caller}
use Rattle.ecr_examples.specs.States.{app}

-- a line of that caller at that ticket
abbrev pub line : ℕ → ℕ → Line
line caller ticket = line_of caller
    (record { ticket = ticket; moment = 70; destinations = []; sealed = None }) (Create Mutable)

-- the tickets of journals rise, and what others add comes later
pub record JournalsGrow : Type 0 where
  pub rise : Rises 3 (line 0 3 ∷ line 1 7 ∷ []) 8
  pub low : Rises 4 (line 0 3 ∷ []) 8 → ⊥
  pub fall : Rises 0 (line 0 3 ∷ line 1 3 ∷ []) 8 → ⊥
  pub high : Rises 0 (line 0 3 ∷ []) 3 → ⊥
  pub each : Each (λ l. l.caller ≡ 1) (line 1 3 ∷ line 1 7 ∷ [])
  pub not_each : Each (λ l. l.caller ≡ 1) (line 1 3 ∷ line 2 7 ∷ []) → ⊥
  pub grows : Grows 0 7 (line 0 3 ∷ []) (line 0 3 ∷ line 1 7 ∷ [])
  pub follows : Follows 7 (line 0 3 ∷ []) (line 0 3 ∷ line 0 7 ∷ [])
  pub longer : longer_of (line 0 3 ∷ []) (line 0 3 ∷ line 1 7 ∷ []) ≡ line 0 3 ∷ line 1 7 ∷ []
  pub longer_too : longer_of (line 0 3 ∷ line 1 7 ∷ []) (line 0 3 ∷ []) ≡ line 0 3 ∷ line 1 7 ∷ []
  pub own : of_caller 1 (line 0 3 ∷ line 1 7 ∷ line 1 8 ∷ []) ≡ line 1 7 ∷ line 1 8 ∷ []

abbrev site : List Line → SiteJournal
site lines = record { site = app.site; served = app.site ∷ []; limits = record standard { names = 1 }; journal = lines }

abbrev registered : Line
registered = registration_line 4 3 app.name

-- a directory and a repository with their journals
pub record StatesAreKept : Type 0 where
  pub frame : frame_of_journal (site []) ≡ record { site = app.site; served = app.site ∷ []; limits = (site []).limits }
  pub directory : directory_of (site (registered ∷ [])) ≡ with_name app.name first_directory
  pub new : registration_in (site []) app.name ≡ New
  pub known : registration_in (site (registered ∷ [])) app.name ≡ Known
  pub full : registration_in (site (registered ∷ [])) (record { text = codes "a1" }) ≡ Full 1 1
  pub page : (outcome_in (site (registered ∷ [])) (site_calls.Names (record { from = 0; max = 1 }))).reply
      ≡ site_replies.Names (app.name ∷ []) false
  pub entered : with_line (site []) registered ≡ site (registered ∷ [])
  pub after_new : after_result New (site []) registered ≡ site (registered ∷ [])
  pub after_known : after_result Known (site []) registered ≡ site []
  pub after_full : after_result (Full 1 1) (site []) registered ≡ site []
  pub after : after_register (site []) 4 3 app.name ≡ site (registered ∷ [])
  pub present : repository_of (Some (record { created = 5; mutability = Mutable }))
      ≡ record first_state { present = Some (record { created = 5; mutability = Mutable }) }
  pub now : repository_now (record { key = app; limits = standard; journal = line 0 3 ∷ [] })
      ≡ record first_state { present = Some (record { created = 70; mutability = Mutable }) }
  pub turn : unsealed_turn 3 70 [] ≡ record { ticket = 3; moment = 70; destinations = []; sealed = None }
  pub outcome : call_outcome (record { key = app; limits = standard; journal = [] }) (unsealed_turn 3 70 [])
      (Create Mutable)
      ≡ becomes (repository_of (Some (record { created = 70; mutability = Mutable }))) (Created 70 Mutable)
  pub reply : reply_to (record {
    key = app;
    limits = standard;
    journal = line 0 3
        ∷ [];
  }) (unsealed_turn 4 71 []) Describe
      ≡ Described (record { name = app.name; created = 70; mutability = Mutable } ∷ []) None
  pub changes : changes_repository (record { key = app; limits = standard; journal = [] }) (unsealed_turn 3 70 [])
      (Create Mutable)
      ≡ true
  pub unchanged : changes_repository (record { key = app; limits = standard; journal = [] }) (unsealed_turn 3 70 [])
      (Delete true)
      ≡ false
  pub entry : with_entry (record { key = app; limits = standard; journal = [] }) (line 0 3)
      ≡ record { key = app; limits = standard; journal = line 0 3 ∷ [] }
  pub after_call_is : after_call (record { key = app; limits = standard; journal = [] }) 2 (unsealed_turn 3 70 [])
      (Create Mutable)
      ≡ record { key = app; limits = standard; journal = line 2 3 ∷ [] }
  pub after_none : after_call (record { key = app; limits = standard; journal = [] }) 2 (unsealed_turn 3 70 [])
      (Delete true)
      ≡ record { key = app; limits = standard; journal = [] }

-- the calls of things in memory: their sizes, the last one again at the end, and which of them fail
pub record CallsArePlanned : Type 0 where
  pub sizes : map (most_at (3 ∷ 0 ∷ 5 ∷ [])) (0 ∷ 1 ∷ 2 ∷ 9 ∷ []) ≡ 3 ∷ 1 ∷ 5 ∷ 5 ∷ []
  pub unlimited : most_at [] 0 ≡ 18446744073709551615
  pub fails : map (is_failing (2 ∷ [])) (1 ∷ 2 ∷ []) ≡ false ∷ true ∷ []
  pub next : next_call 5 ≡ 6
  pub last : next_call 18446744073709551615 ≡ 18446744073709551615
