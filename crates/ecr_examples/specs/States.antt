-- Repositories, directories and their journals at examples (Amazon ECR API Reference, the actions; journals are of this
-- registry). Moments are in seconds.
use Rattle.std.specs.Prelude.{◌≡◌, ℕ, true, false, List, [], ◌∷◌, map, None, Some, codes}
use Rattle.std.specs.declared.cmp.Ordering.TheVariants.{Less, Equal, Greater}
use Rattle.ecr_model.specs.declared.names.Name.{Name}
use Rattle.ecr_model.specs.declared.names.RepoKey.{RepoKey}
use Rattle.ecr_model.specs.declared.registry.directory.Directory.{Directory}
use Rattle.ecr_model.specs.declared.registry.directory.Registered.TheVariants.{New, Known, Full}
use Rattle.ecr_model.specs.declared.registry.images.Row.{Row}
use Rattle.ecr_model.specs.declared.registry.journal.Act.TheVariants.{Called, Register}
use Rattle.ecr_model.specs.declared.registry.journal.Line.{Line}
use Rattle.ecr_model.specs.declared.registry.lifecycle.Policy.{Policy}
use Rattle.ecr_model.specs.declared.registry.repository.CopyState.TheVariants.{Pending}
use Rattle.ecr_model.specs.declared.registry.repository.Mutability.TheVariants.{Mutable, Immutable}
use Rattle.ecr_model.specs.declared.registry.repository.Presence.{Presence}
use Rattle.ecr_model.specs.declared.registry.repository.Repository.{Repository}
use Rattle.ecr_model.specs.declared.requests.call.Call.TheVariants.{Create, Delete, Describe, SetMutability}
use Rattle.ecr_model.specs.declared.requests.call.SiteCall.TheVariants as site_calls
use Rattle.ecr_model.specs.declared.requests.refusal.Refusal.TheVariants.{RepositoryAlreadyExists, RepositoryNotFound, RepositoryNotEmpty}
use Rattle.ecr_model.specs.declared.requests.reply.Reply.TheVariants.{Created, Deleted, Described, MutabilitySet, Refused}
use Rattle.ecr_model.specs.declared.requests.reply.SiteReply.TheVariants as site_replies
use Rattle.ecr_model.specs.registry.Directories.{SiteFrame, name_order, first_directory, is_registered, registration, with_name, after_registration, directory_after_act, directory_after_line, names_of, page_reply, site_step, act_entry, registration_line}
use Rattle.ecr_model.specs.registry.Journals.{past_from, past, below, between}
use Rattle.ecr_model.specs.registry.Limits.{standard}
use Rattle.ecr_model.specs.registry.Steps.{Turn, answers, refuses, becomes, first_state, where_present, creates, has_images, version_without, emptied, deletes, describes, same_mutability, sets_mutability, turn_of, entry_of, step, after_act, after_line, replayed_repository, line_of}
use Rattle.ecr_examples.specs.Names.{of_abc}

-- `team/app` at `us-east-1/111122223333`
abbrev pub app : RepoKey
app = record {
  site = record { region = codes "us-east-1"; account = codes "111122223333" };
  name = record { text = codes "team/app" };
}

abbrev image : Row
image = record {
  birth = 7;
  digest = of_abc;
  facts = record { list = false; media = codes "m"; required = of_abc ∷ []; children = []; size = 3 };
  size = 9;
  pushed = 50;
  tags = record { text = codes "v1" } ∷ [];
}

abbrev policy : Policy
policy = record { text = codes "p"; rules = [] }

abbrev there : Presence
there = record { created = 40; mutability = Immutable }

-- a repository that has one of each
abbrev whole : Repository
whole = record {
  present = Some there;
  images = image ∷ [];
  layers = record { digest = of_abc; size = 3; stored = 41 } ∷ [];
  uploads = record { number = 5; docker = true; begun = 42; sizes = 3 ∷ [] } ∷ [];
  policy = Some policy;
  version = 4;
  evaluated = Some 60;
  preview = Some (record { ticket = 2; policy = policy; moment = 61; rows = image ∷ []; results = None });
  copies = record {
    id = record { source = app; ticket = 3; to = app.site };
    birth = 7;
    facts = record { digest = of_abc; tag = None; bundle = [] };
    state = Pending;
  } ∷ [];
  received = record { source = app; ticket = 1; to = app.site } ∷ [];
  next_birth = 8;
  next_upload = 6;
  last_pushed = 50;
}

-- the same after its deletion: the copies, what was received and the counters are kept
abbrev gone : Repository
gone = record {
  present = None;
  images = [];
  layers = [];
  uploads = [];
  policy = None;
  version = 5;
  evaluated = None;
  preview = None;
  copies = whole.copies;
  received = whole.received;
  next_birth = 8;
  next_upload = 6;
  last_pushed = 50;
}

-- nothing was ever there
abbrev never : Repository
never = record {
  present = None;
  images = [];
  layers = [];
  uploads = [];
  policy = None;
  version = 0;
  evaluated = None;
  preview = None;
  copies = [];
  received = [];
  next_birth = 1;
  next_upload = 1;
  last_pushed = 0;
}

-- the turn of ticket 9, at the moment 70
abbrev turn : Turn
turn = record { ticket = 9; moment = 70; destinations = app.site ∷ []; sealed = Some of_abc }

-- the outcomes of calls, on a repository that is there and on one that isn't
pub record CallsAreDecided : Type 0 where
  pub first : first_state ≡ never
  pub answered : answers (MutabilitySet Mutable) ≡ record { after = None; reply = MutabilitySet Mutable }
  pub refused : refuses RepositoryNotFound ≡ record { after = None; reply = Refused RepositoryNotFound }
  pub became : becomes gone (MutabilitySet Mutable) ≡ record { after = Some gone; reply = MutabilitySet Mutable }
  pub absent : where_present never (λ p. answers (Created p.created p.mutability)) ≡ refuses RepositoryNotFound
  pub present : where_present whole (λ p. answers (Created p.created p.mutability)) ≡ answers (Created 40 Immutable)
  pub images : has_images (image ∷ []) ≡ true
  pub no_images : has_images [] ≡ false
  pub dropped : version_without (Some policy) 4 ≡ 5
  pub kept : version_without None 4 ≡ 4
  pub empty : emptied whole ≡ gone
  pub again : creates 70 Mutable whole ≡ refuses RepositoryAlreadyExists
  pub anew : creates 70 Mutable gone
      ≡ becomes (record gone { present = Some (record { created = 70; mutability = Mutable }) }) (Created 70 Mutable)
  pub not_empty : deletes false whole ≡ refuses RepositoryNotEmpty
  pub forced : deletes true whole ≡ becomes gone (Deleted 40 Immutable)
  pub unforced : deletes false (record whole { images = [] }) ≡ becomes gone (Deleted 40 Immutable)
  pub never_there : deletes true never ≡ refuses RepositoryNotFound
  pub shown : describes app whole
      ≡ answers (Described (record { name = app.name; created = 40; mutability = Immutable } ∷ []) None)
  pub not_shown : describes app gone ≡ refuses RepositoryNotFound
  pub alike : same_mutability Mutable Mutable ≡ true
  pub alike_too : same_mutability Immutable Immutable ≡ true
  pub unlike : same_mutability Mutable Immutable ≡ false
  pub unlike_too : same_mutability Immutable Mutable ≡ false
  pub set : sets_mutability Mutable whole
      ≡ becomes (record whole { present = Some (record { created = 40; mutability = Mutable }) })
      (MutabilitySet Mutable)
  pub stands : sets_mutability Immutable whole ≡ answers (MutabilitySet Immutable)
  pub unset : sets_mutability Immutable gone ≡ refuses RepositoryNotFound
  pub create : step app standard never turn (Create Immutable) ≡ creates 70 Immutable never
  pub delete : step app standard whole turn (Delete false) ≡ deletes false whole
  pub describe : step app standard whole turn Describe ≡ describes app whole
  pub setting : step app standard whole turn (SetMutability Mutable) ≡ sets_mutability Mutable whole

-- the line at that ticket of a creation
abbrev created_at : ℕ → Line
created_at ticket = line_of 2 (record turn { ticket = ticket }) (Create Mutable)

-- lines have the caller's number and the turn's values; only those below a ticket count as at it
pub record JournalsAreRead : Type 0 where
  pub turn_is : turn_of 9 (Some of_abc) (record { moment = 70; destinations = app.site ∷ []; given = None }) ≡ turn
  pub entry : entry_of turn (Delete true)
      ≡ record { moment = 70; act = Called (Delete true) (app.site ∷ []) (Some of_abc) }
  pub line : line_of 3 turn (Delete true) ≡ record { ticket = 9; caller = 3; entry = entry_of turn (Delete true) }
  pub changed : after_act app standard whole 9 70 (Called (Delete true) [] None) ≡ Some gone
  pub unchanged : after_act app standard whole 9 70 (Called (Delete false) [] None) ≡ None
  pub not_its : after_act app standard whole 9 70 (Register app.name) ≡ None
  pub moment : (after_line app standard gone (created_at 9))
      ≡ Some (record gone { present = Some (record { created = 70; mutability = Mutable }) })
  pub replayed : (replayed_repository app standard (created_at 0 ∷ line_of 2 turn (Delete false) ∷ [])).present ≡ None
  pub nothing : past [] ≡ 0
  pub last : past (created_at 4 ∷ created_at 9 ∷ []) ≡ 10
  pub low : past_from 3 [] ≡ 3
  pub earlier : below 9 (created_at 4 ∷ created_at 9 ∷ []) ≡ created_at 4 ∷ []
  pub middle : between 4 9 (created_at 3 ∷ created_at 4 ∷ created_at 9 ∷ []) ≡ created_at 4 ∷ []

abbrev name : List ℕ → Name
name text = record { text = text }

-- a directory with a limit of two names
abbrev frame : SiteFrame
frame = record { site = app.site; served = app.site ∷ []; limits = record standard { names = 2 } }

abbrev names : List (List ℕ) → Directory
names texts = record { names = map name texts; configuration = record { rules = [] } }

abbrev letters : List (List ℕ)
letters = codes "a1" ∷ codes "b1" ∷ codes "c1" ∷ []

-- a name is registered once, at its place in the order of bytes, up to the limit; a page has the names from a place on
pub record DirectoriesAreRead : Type 0 where
  pub less : name_order (name (codes "a-b")) (name (codes "a/b")) ≡ Less
  pub shorter : name_order (name (codes "a")) (name (codes "a-")) ≡ Less
  pub same : name_order (name (codes "a1")) (name (codes "a1")) ≡ Equal
  pub more : name_order (name (codes "a_b")) (name (codes "a.b")) ≡ Greater
  pub first : first_directory ≡ names []
  pub known : is_registered (name (codes "b1")) (names letters) ≡ true
  pub unknown : is_registered (name (codes "b")) (names letters) ≡ false
  pub new : registration frame (names (codes "a1" ∷ [])) (name (codes "b1")) ≡ New
  pub again : registration frame (names letters) (name (codes "b1")) ≡ Known
  pub full : registration frame (names (codes "a1" ∷ codes "b1" ∷ [])) (name (codes "c1")) ≡ Full 2 2
  pub in_order : with_name (name (codes "b1")) (names (codes "a1" ∷ codes "c1" ∷ [])) ≡ names letters
  pub after_new : after_registration (name (codes "c1")) (names (codes "a1" ∷ codes "b1" ∷ [])) New
      ≡ Some (names letters)
  pub after_known : after_registration (name (codes "a1")) (names letters) Known ≡ None
  pub after_full : after_registration (name (codes "d1")) (names letters) (Full 3 3) ≡ None
  pub act : directory_after_act frame (names []) (Register (name (codes "a1"))) ≡ Some (names (codes "a1" ∷ []))
  pub no_act : directory_after_act frame (names []) (Called (Create Mutable) [] None) ≡ None
  pub line : directory_after_line frame (names []) (registration_line 4 3 (name (codes "a1")))
      ≡ Some (names (codes "a1" ∷ []))
  pub entry : act_entry (Register app.name) ≡ record { moment = 0; act = Register app.name }
  pub line_is : registration_line 4 3 app.name
      ≡ record { ticket = 4; caller = 3; entry = act_entry (Register app.name) }
  pub page : names_of (record { from = 1; max = 1 }) (names letters) ≡ name (codes "b1") ∷ []
  pub behind : names_of (record { from = 3; max = 5 }) (names letters) ≡ []
  pub goes_on : page_reply (record { from = 0; max = 2 }) (names letters)
      ≡ site_replies.Names (map name (codes "a1" ∷ codes "b1" ∷ [])) true
  pub ends : page_reply (record { from = 0; max = 3 }) (names letters) ≡ site_replies.Names (map name letters) false
  pub asked : site_step frame (names letters) (site_calls.Names (record { from = 2; max = 9 }))
      ≡ record { reply = site_replies.Names (name (codes "c1") ∷ []) false; act = None }
