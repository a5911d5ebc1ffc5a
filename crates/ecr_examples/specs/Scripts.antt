-- The turns of requests in their cells at examples. Of this registry. Moments are in seconds, tickets count from 0.
use Rattle.std.specs.Prelude.{◌≡◌, ℕ, true, false, List, [], ◌∷◌, ◌++◌, map, length, None, Some, codes}
use Rattle.ecr_model.specs.declared.names.Name.{Name}
use Rattle.ecr_model.specs.declared.names.RepoKey.{RepoKey}
use Rattle.ecr_model.specs.declared.names.SiteId.{SiteId}
use Rattle.ecr_model.specs.declared.registry.directory.Registered.TheVariants.{New, Known, Full}
use Rattle.ecr_model.specs.declared.registry.journal.Act.TheVariants.{Register}
use Rattle.ecr_model.specs.declared.registry.journal.CellKey.TheVariants.{Directory, Repository}
use Rattle.ecr_model.specs.declared.registry.journal.Entry.{Entry}
use Rattle.ecr_model.specs.declared.registry.journal.Line.{Line}
use Rattle.ecr_model.specs.declared.registry.journal.Place.{Place}
use Rattle.ecr_model.specs.declared.registry.repository.Mutability.TheVariants.{Mutable}
use Rattle.ecr_model.specs.declared.requests.call.Call.TheVariants.{Create, Delete, Describe}
use Rattle.ecr_model.specs.declared.requests.call.SiteCall.TheVariants as site_calls
use Rattle.ecr_model.specs.declared.requests.refusal.Refusal.TheVariants.{RepositoryNotFound, LimitExceeded, UnknownOperation}
use Rattle.ecr_model.specs.declared.requests.reply.Described.{Described as Row}
use Rattle.ecr_model.specs.declared.requests.reply.Reply.TheVariants.{Created, Deleted, Described, Refused}
use Rattle.ecr_model.specs.declared.requests.reply.SiteReply.TheVariants as site_replies
use Rattle.ecr_model.specs.registry.Contents.{named_by}
use Rattle.ecr_model.specs.registry.Directories.{first_directory, registration_line}
use Rattle.ecr_model.specs.registry.Limits.{standard}
use Rattle.ecr_model.specs.registry.Scripts as scripts
use Rattle.ecr_model.specs.registry.Scripts.{Told, knows, register, site_call, call, known, registered, listed, replied, nothing, Script, ends, turn, then_do, Realm, frame_of, tells, registers, acts, directory_turn, replies, repository_turn, turn_at, lines_after, place_of, same_site, same_key, same_cell, Journals, World, fresh, with_lines, is_uploading, parts_left, parts_after, entry_count, count_changed, sealed_in, next_ticket, next_turn, entered, Run, in_front, run, run_to}
use Rattle.ecr_model.specs.registry.Steps.{Beside, Turn, answers, becomes, first_state, entry_of, line_of}
use Rattle.ecr_model.specs.registry.Views.{View, seen_of, past_of, caller_of, journals_of, with_view, PlacedTurn, places_of, result_of, lines_of, answer_at, entered_in, own_of, alone_in, whole, views_of, unsealed}
use Rattle.ecr_model.specs.requests.Actions.{cell, site, many}
use Rattle.ecr_model.specs.requests.Requests.{Decided, plain, beside_of, is_registering, first_ask, first_turn, reply_told, cell_turn, then_cell, call_script, site_told, site_script, key_at, rows_in, is_refused, one_script, named_script, listed_script, next_place, page_script, describe_script, of_site, asked_script}
use Rattle.ecr_examples.specs.Names.{of_abc}
use Rattle.ecr_examples.specs.States.{app}

abbrev home : SiteId
home = app.site

abbrev neighbour : SiteId
neighbour = record { region = codes "us-east-1"; account = codes "444455556666" }

abbrev name : List ℕ → Name
name text = record { text = text }

abbrev key : List ℕ → RepoKey
key text = record { site = home; name = name text }

abbrev realm : Realm
realm = record { served = home ∷ neighbour ∷ []; limits = record standard { names = 4 } }

-- a creation by caller 0 at ticket 0, at that moment
abbrev created : ℕ → List Line
created moment = line_of 0 (record { ticket = 0; moment = moment; destinations = []; sealed = None }) (Create Mutable)
    ∷ []

-- the names `a1`, `b1`, `c1` and `d1` are registered, at tickets 0 to 3
abbrev registrations : List Line
registrations =
    registration_line 0 0 (name (codes "a1")) ∷ registration_line 1 0 (name (codes "b1"))
    ∷ registration_line 2 0 (name (codes "c1")) ∷ registration_line 3 0 (name (codes "d1")) ∷ []

-- of these `a1`, `c1` and `d1` are there
abbrev journals : Journals
journals = with_lines (with_lines (with_lines (with_lines (λ cell. []) (Directory home) registrations)
    (Repository (key (codes "a1"))) (created 11)) (Repository (key (codes "c1"))) (created 13))
    (Repository (key (codes "d1"))) (created 14)

abbrev world : World
world = record { journals = journals; parts = λ k number. [] }

-- ---- one turn

abbrev beside : Beside
beside = record { moment = 70; destinations = []; given = Some (codes "x") }

-- the turn of ticket 0 at the moment 70
abbrev at : Turn
at = record { ticket = 0; moment = 70; destinations = []; sealed = None }

abbrev entry : Entry
entry = entry_of at (Create Mutable)

-- the answers of directories and repositories, and the entries that they add
pub record TurnsAreMade : Type 0 where
  pub frame : frame_of realm neighbour
      ≡ record { site = neighbour; served = home ∷ neighbour ∷ []; limits = realm.limits }
  pub told : tells nothing ≡ record { told = nothing; entry = None }
  pub new : registers (name (codes "a1")) New
      ≡ record { told = registered New; entry = Some (record { moment = 0; act = Register (name (codes "a1")) }) }
  pub again : registers (name (codes "a1")) Known ≡ record { told = registered Known; entry = None }
  pub full : registers (name (codes "a1")) (Full 2 2) ≡ record { told = registered (Full 2 2); entry = None }
  pub acting : acts (record { reply = site_replies.Names [] false; act = Some (Register app.name) })
      ≡ record {
        told = listed (site_replies.Names [] false);
        entry = Some (record { moment = 0; act = Register app.name });
      }
  pub asking : acts (record { reply = site_replies.Names [] false; act = None })
      ≡ record { told = listed (site_replies.Names [] false); entry = None }
  pub knowing : directory_turn (frame_of realm home) (first_directory) (knows app.name) ≡ tells (known false)
  pub no_call : directory_turn (frame_of realm home) (first_directory) (call beside Describe) ≡ tells nothing
  pub answer : replies at (Create Mutable) (answers (Refused RepositoryNotFound))
      ≡ record { told = replied (Refused RepositoryNotFound) None; entry = None }
  pub change : replies at (Create Mutable) (becomes first_state (Created 70 Mutable))
      ≡ record { told = replied (Created 70 Mutable) None; entry = Some entry }
  pub no_name : repository_turn app standard [] 0 None (knows app.name) ≡ tells nothing
  pub in_repository : turn_at realm (Repository app) [] 0 None (call beside (Create Mutable))
      ≡ record { told = replied (Created 70 Mutable) None; entry = Some entry }
  pub in_directory : turn_at realm (Directory home) registrations 3 None (knows (name (codes "d1")))
      ≡ tells (known false)
  pub line : lines_after 3 9 registrations (Some entry)
      ≡ registrations ++ record { ticket = 9; caller = 3; entry = entry } ∷ []
  pub no_line : lines_after 3 9 registrations None ≡ registrations
  pub place : place_of (Repository app) 9 (record { told = nothing; entry = Some entry })
      ≡ record { cell = Repository app; ticket = 9; changed = true }
  pub place_unchanged : place_of (Repository app) 9 (tells nothing)
      ≡ record { cell = Repository app; ticket = 9; changed = false }
  pub one : entry_count (Some entry) ≡ 1
  pub none : entry_count None ≡ 0
  pub changed : count_changed (record { cell = Repository app; ticket = 9; changed = true }
      ∷ record { cell = Repository app; ticket = 9; changed = false }
      ∷ record { cell = Directory home; ticket = 0; changed = true } ∷ []) ≡ 2

-- cells are the same where their sites and names are; one cell's lines are no other's
pub record CellsAreApart : Type 0 where
  pub site_same : same_site home home ≡ true
  pub accounts : same_site home neighbour ≡ false
  pub regions : same_site home (record home { region = codes "eu-west-2" }) ≡ false
  pub key_same : same_key app app ≡ true
  pub names : same_key app (key (codes "team")) ≡ false
  pub sites : same_key app (record app { site = neighbour }) ≡ false
  pub directories : same_cell (Directory home) (Directory home) ≡ true
  pub kinds : same_cell (Directory home) (Repository app) ≡ false
  pub kinds_too : same_cell (Repository app) (Directory home) ≡ false
  pub repositories : same_cell (Repository app) (Repository app) ≡ true
  pub nothing_yet : fresh.journals (Directory home) ≡ []
  pub no_parts : fresh.parts app 1 ≡ []
  pub its : with_lines fresh.journals (Repository app) (created 5) (Repository app) ≡ created 5
  pub others : with_lines fresh.journals (Repository app) (created 5) (Directory home) ≡ []
  pub uploading : is_uploading 5
      (record first_state { uploads = record { number = 5; docker = true; begun = 0; sizes = [] } ∷ [] })
      ≡ true
  pub not_uploading : is_uploading 5 first_state ≡ false
  pub left : parts_left (record first_state {
    uploads = record { number = 5; docker = true; begun = 0; sizes = [] }
        ∷ [];
  }) (λ n. codes "x" ∷ []) 5
      ≡ codes "x" ∷ []
  pub dropped : parts_left first_state (λ n. codes "x" ∷ []) 5 ≡ []
  pub kept : parts_after standard (Directory home) [] (λ k n. codes "x" ∷ []) app 5 ≡ codes "x" ∷ []
  pub ended : parts_after standard (Repository app) [] (λ k n. codes "x" ∷ []) app 5 ≡ []
  pub of_other : parts_after standard (Repository app) [] (λ k n. codes "x" ∷ []) (key (codes "a1")) 5 ≡ codes "x" ∷ []
  pub unsealed : sealed_in (λ k n. []) (Repository app) (call beside Describe) ≡ None
  pub ticket : next_ticket world (Directory home) ≡ 4
  pub first_ticket : next_ticket fresh (Directory home) ≡ 0
  pub turned : next_turn realm world (Directory home) (knows (name (codes "d1"))) ≡ tells (known true)
  -- one caller's entries are those of caller 0
  pub entered : (scripts.entered realm fresh (Repository app) (Some entry)).journals (Repository app)
      ≡ record { ticket = 0; caller = 0; entry = entry } ∷ []
  pub not_entered : scripts.entered realm world (Repository app) None ≡ world

-- ---- whole requests

abbrev answer : {A : Type 0} → Script A → A
answer script = (run realm world script).answer

abbrev row : List ℕ → ℕ → Row
row text moment = record { name = name text; created = moment; mutability = Mutable }

abbrev all : List (List ℕ)
all = codes "a1" ∷ codes "b1" ∷ codes "c1" ∷ codes "d1" ∷ []

-- the turns of a call, and the descriptions of several repositories
pub record ScriptsAreRun : Type 0 where
  pub decided : plain (Refused RepositoryNotFound) ≡ record { reply = Refused RepositoryNotFound; sealed = None }
  pub beside_is : beside_of (Some (codes "x")) 70 ≡ record { moment = 70; destinations = []; given = Some (codes "x") }
  pub registering : is_registering (Create Mutable) ≡ true
  pub not_registering : is_registering (Delete true) ≡ false
  pub asks_new : first_ask app.name (Create Mutable) ≡ register app.name
  pub asks_known : first_ask app.name Describe ≡ knows app.name
  pub first : answer (first_turn (key (codes "a1")) (Create Mutable)) ≡ registered Known
  pub told : reply_told (replied (Created 5 Mutable) (Some of_abc))
      ≡ record { reply = Created 5 Mutable; sealed = Some of_abc }
  pub told_nothing : reply_told nothing ≡ plain (Refused RepositoryNotFound)
  pub in_cell : answer (cell_turn (key (codes "a1")) Describe None 70)
      ≡ plain (Described (row (codes "a1") 11 ∷ []) None)
  pub unknown : answer (then_cell (key (codes "a1")) Describe None 70 (known false))
      ≡ plain (Refused RepositoryNotFound)
  pub one_more : answer (then_cell (key (codes "a1")) Describe None 70 (registered (Full 4 4)))
      ≡ plain (Refused (LimitExceeded 4 4))
  pub there : answer (then_cell (key (codes "a1")) Describe None 70 (known true))
      ≡ plain (Described (row (codes "a1") 11 ∷ []) None)
  pub full : answer (call_script app (Create Mutable) None 70) ≡ plain (Refused (LimitExceeded 4 4))
  pub unregistered : answer (call_script app (Delete true) None 70) ≡ plain (Refused RepositoryNotFound)
  pub composed : answer (then_do (call_script (key (codes "b1")) (Create Mutable) None 70)
      (λ d. call_script (key (codes "b1")) (Delete false) None 71))
      ≡ plain (Deleted 70 Mutable)
  pub listing : site_told (listed (site_replies.Names [] true)) ≡ site_replies.Names [] true
  pub no_listing : site_told nothing ≡ site_replies.Names [] false
  pub names : answer (site_script home (site_calls.Names (record { from = 1; max = 2 })))
      ≡ site_replies.Names (map name (codes "b1" ∷ codes "c1" ∷ [])) true
  pub key_is : key_at home app.name ≡ app
  pub rows : rows_in (Described (row (codes "a1") 11 ∷ []) None) ≡ row (codes "a1") 11 ∷ []
  pub no_rows : rows_in (Refused RepositoryNotFound) ≡ []
  pub refused : is_refused (Refused RepositoryNotFound) ≡ true
  pub not_refused : is_refused (Described [] None) ≡ false
  pub one : answer (one_script home 70 (name (codes "c1"))) ≡ plain (Described (row (codes "c1") 13 ∷ []) None)
  pub named : answer (named_script home 70 [] (map name (codes "d1" ∷ codes "a1" ∷ codes "d1" ∷ [])))
      ≡ Described (row (codes "d1") 14 ∷ row (codes "a1") 11 ∷ row (codes "d1") 14 ∷ []) None
  -- the third is absent, and no turn is made for the fourth
  pub stops : answer (named_script home 70 [] (map name (codes "d1" ∷ codes "a1" ∷ codes "b1" ∷ codes "c1" ∷ [])))
      ≡ Refused RepositoryNotFound
  pub stops_there : length (run realm world (named_script home 70 [] (map name (codes "d1" ∷ codes "a1" ∷ codes "b1"
      ∷ codes "c1" ∷ [])))).places
      ≡ 6
  pub left_out : answer (listed_script home 70 (Some 9) [] (map name all))
      ≡ Described (row (codes "a1") 11 ∷ row (codes "c1") 13 ∷ row (codes "d1") 14 ∷ []) (Some 9)
  pub next : next_place (record { from = 2; max = 2 }) (map name (codes "c1" ∷ codes "d1" ∷ [])) true ≡ Some 4
  pub no_next : next_place (record { from = 2; max = 2 }) (map name (codes "c1" ∷ codes "d1" ∷ [])) false ≡ None
  pub page : answer (page_script home 70 (record { from = 0; max = 1 }) (site_replies.Names (name (codes "a1")
      ∷ []) true))
      ≡ Described (row (codes "a1") 11 ∷ []) (Some 1)
  pub no_page : answer (page_script home 70 (record { from = 0; max = 1 }) (site_replies.Refused UnknownOperation))
      ≡ Refused UnknownOperation
  pub described : answer (describe_script home None (record { from = 1; max = 2 }) 70)
      ≡ Described (row (codes "c1") 13 ∷ []) (Some 3)
  pub described_named : answer (describe_script home (Some (name (codes "c1")
      ∷ [])) (record { from = 0; max = 100 }) 70)
      ≡ Described (row (codes "c1") 13 ∷ []) None
  pub elsewhere : answer (describe_script neighbour None (record { from = 0; max = 100 }) 70) ≡ Described [] None
  pub of_names : of_site (site_replies.Names [] false) ≡ Refused UnknownOperation
  pub of_refusal : of_site (site_replies.Refused RepositoryNotFound) ≡ Refused RepositoryNotFound
  pub asked_cell : answer (asked_script (cell (key (codes "a1")) Describe None) 70)
      ≡ plain (Described (row (codes "a1") 11 ∷ []) None)
  pub asked_site : answer (asked_script (site home (site_calls.Names (record { from = 0; max = 1 }))) 70)
      ≡ plain (Refused UnknownOperation)
  pub asked_many : answer (asked_script (many home None (record { from = 3; max = 1 })) 70)
      ≡ plain (Described (row (codes "d1") 14 ∷ []) None)
  pub contents : map named_by (Created 5 Mutable ∷ Described [] None ∷ []) ≡ [] ∷ [] ∷ []

-- a creation and then its deletion, of `b1`
abbrev both : Script Decided
both = then_do (call_script (key (codes "b1")) (Create Mutable) None 70)
    (λ d. call_script (key (codes "b1")) (Delete false) None 71)

-- their places
abbrev places : List Place
places = record { cell = Directory home; ticket = 4; changed = false }
    ∷ record { cell = Repository (key (codes "b1")); ticket = 0; changed = true }
    ∷ record { cell = Directory home; ticket = 4; changed = false }
    ∷ record { cell = Repository (key (codes "b1")); ticket = 1; changed = true } ∷ []

-- the number of `b1`'s lines
abbrev past_lines : World → ℕ
past_lines w = length (w.journals (Repository (key (codes "b1"))))

-- a run counts its entries and says its places; up to one entry it makes the turns up to that one
pub record RunsAreCounted : Type 0 where
  pub entries : (run realm world both).entries ≡ 2
  pub placed : (run realm world both).places ≡ places
  pub put_in_front : in_front {A = ℕ} (record { cell = Directory home; ticket = 4; changed = false }) 1
      (record { world = world; places = []; entries = 3; answer = 5 })
      ≡ record {
        world = world;
        places = record { cell = Directory home; ticket = 4; changed = false }
            ∷ [];
        entries = 4;
        answer = 5;
      }
  pub lines : past_lines (run realm world both).world ≡ 2
  pub up_to_none : past_lines (run_to 0 realm world both) ≡ 0
  pub up_to_one : past_lines (run_to 1 realm world both) ≡ 1
  pub up_to_all : past_lines (run_to 2 realm world both) ≡ 2

-- ---- views

abbrev view : View
view = record { caller = 2; past = 9; seen = line_of 2 at (Create Mutable) ∷ line_of 1 at (Delete false) ∷ [] }

abbrev made : List PlacedTurn
made = unsealed places

-- what a caller's view of a cell has, and what it comes to over journals that are seen
pub record ViewsAreRead : Type 0 where
  pub seen : seen_of (Some view) ≡ view.seen
  pub unseen : seen_of None ≡ []
  pub past_is : past_of (Some view) ≡ 9
  pub no_past : past_of None ≡ 0
  pub caller : caller_of (Some view) ≡ 2
  pub no_caller : caller_of None ≡ 0
  pub own : own_of (Some view) ≡ line_of 2 at (Create Mutable) ∷ []
  pub its : with_view (λ c. None) (Directory home) view (Directory home) ≡ Some view
  pub other : with_view (λ c. None) (Directory home) view (Repository app) ≡ None
  pub lines : journals_of (with_view (λ c. None) (Directory home) view) (Directory home) ≡ view.seen
  pub placed : places_of made ≡ places
  pub none_sealed : unsealed (record { cell = Directory home; ticket = 4; changed = false } ∷ [])
      ≡ record { place = record { cell = Directory home; ticket = 4; changed = false }; sealed = None } ∷ []
  pub result : result_of realm (Directory home) registrations (knows (name (codes "d1")))
      (record { place = record { cell = Directory home; ticket = 3; changed = false }; sealed = None })
      ≡ tells (known false)
  pub line : lines_of 3 9 (Some entry) ≡ record { ticket = 9; caller = 3; entry = entry } ∷ []
  pub no_line : lines_of 3 9 None ≡ []
  pub alone_is : alone_in realm ≡ record { realm = realm; alone = true }
  pub whole_is : whole registrations ≡ record { caller = 0; past = 4; seen = registrations }
  pub whole_views : views_of journals (Directory home) ≡ Some (whole registrations)
  pub answered : answer_at realm (run realm world both).world.journals both made ≡ Some (plain (Deleted 70 Mutable))
  pub enters : length (entered_in realm (run realm world both).world.journals
      (Repository (key (codes "b1"))) 3 both made)
      ≡ 2
  pub enters_none : entered_in realm (run realm world both).world.journals (Directory home) 3 both made ≡ []
