-- One repository and one directory, step by step.
use Rattle.std.specs.Prelude.{◌≡◌, ℕ, List, [], ◌∷◌, true, false, None, codes}
use Rattle.ecr_model.specs.declared.requests.call.Call.{Call}
use Rattle.ecr_model.specs.declared.requests.call.Call.TheVariants.{Create, Delete, Describe, SetMutability}
use Rattle.ecr_model.specs.declared.requests.call.SiteCall.TheVariants as site_calls
use Rattle.ecr_model.specs.declared.registry.directory.Registered.TheVariants.{New, Known, Full}
use Rattle.ecr_model.specs.declared.registry.journal.Line.{Line}
use Rattle.ecr_model.specs.declared.names.Name.{Name}
use Rattle.ecr_model.specs.declared.names.RepoKey.{RepoKey}
use Rattle.ecr_model.specs.declared.requests.refusal.Refusal.TheVariants.{RepositoryAlreadyExists, RepositoryNotFound}
use Rattle.ecr_model.specs.declared.requests.reply.Reply.{Reply}
use Rattle.ecr_model.specs.declared.requests.reply.Reply.TheVariants as replies
use Rattle.ecr_model.specs.declared.requests.reply.SiteReply.TheVariants as site_replies
use Rattle.ecr_model.specs.declared.registry.repository.Mutability.TheVariants.{Mutable, Immutable}
use Rattle.ecr_model.specs.registry.Directories as directories
use Rattle.ecr_model.specs.registry.Directories.{SiteFrame}
use Rattle.ecr_model.specs.registry.Journals as journals
use Rattle.ecr_model.specs.registry.Journals.{between}
use Rattle.ecr_model.specs.registry.Limits.{standard}
use Rattle.ecr_model.specs.registry.Steps.{Turn, after_line, repository_at, reply_at, line_of}

-- `team/app` at `us-east-1/111122223333`
abbrev pub app : RepoKey
app = record {
  site = record { region = codes "us-east-1"; account = codes "111122223333" };
  name = record { text = codes "team/app" };
}

-- a turn at that ticket, at the moment 1700000000 and so many seconds
abbrev pub turn : ℕ → ℕ → Turn
turn ticket moment = record { ticket = ticket; moment = moment; destinations = []; sealed = None }

-- it was created, set, deleted, and created again
abbrev pub history : List Line
history = line_of 0 (turn 0 1700000000) (Create Mutable)
    ∷ line_of 0 (turn 1 1700000001) (SetMutability Immutable)
    ∷ line_of 3 (turn 5 1700000002) (Delete false)
    ∷ line_of 0 (turn 6 1700000003) (Create Mutable)
    ∷ []

-- the reply to a call at that ticket
abbrev pub reply : ℕ → Call → Reply
reply ticket call = reply_at app standard history (turn ticket 1700000009) call

-- the reply shows `team/app` as created then, in seconds
abbrev pub row : ℕ → Reply → Type 0
row created described = described ≡ replies.Described
    (record { name = app.name; created = created; mutability = Mutable } ∷ []) None

-- the answers at each ticket: the repository isn't there before it is created and after it is deleted, is shown as it
-- was when it is deleted, and has its second moment afterwards
pub record ARepositoryComesAndGoes : Type 0 where
  pub not_yet : reply 0 Describe ≡ replies.Refused RepositoryNotFound
  pub there : row 1700000000 (reply 1 Describe)
  pub twice : reply 2 (Create Mutable) ≡ replies.Refused RepositoryAlreadyExists
  pub set : reply 5 (Delete false) ≡ replies.Deleted 1700000000 Immutable
  pub gone : reply 6 Describe ≡ replies.Refused RepositoryNotFound
  pub gone_twice : reply 6 (Delete true) ≡ replies.Refused RepositoryNotFound
  pub unset : reply 6 (SetMutability Mutable) ≡ replies.Refused RepositoryNotFound
  pub again : row 1700000003 (reply 7 Describe)

-- the lines from ticket 1 on and below 6: it is set and deleted
abbrev pub middle : List Line
middle = line_of 0 (turn 1 1700000001) (SetMutability Immutable) ∷ line_of 3 (turn 5 1700000002) (Delete false) ∷ []

-- the line at the first ticket is among those between, the line at the second isn't; they lead from the state as at the
-- one to that as at the other
pub record LinesStandBetween : Type 0 where
  pub are : between 1 6 history ≡ middle
  pub none : between 2 5 history ≡ []
  pub all : between 0 7 history ≡ history
  pub lead_on : repository_at app standard history 6 ≡ journals.replay (after_line app standard)
      (repository_at app standard history 1) middle

-- the name with that text
abbrev pub name : List ℕ → Name
name text = record { text = text }

-- a directory with a limit of two names
abbrev pub two : SiteFrame
two = record { site = app.site; served = app.site ∷ []; limits = record standard { names = 2 } }

-- `b1`, then `a1`
abbrev pub registrations : List Line
registrations =
    directories.registration_line 0 0 (name (codes "b1")) ∷ directories.registration_line 4 0 (name (codes "a1")) ∷ []

-- the names stand in the order of their bytes, whatever was first; a third one is refused, a known one isn't
pub record NamesAreInOrder : Type 0 where
  pub ordered : (directories.replayed_directory two registrations).names ≡ name (codes "a1") ∷ name (codes "b1") ∷ []
  pub first_page : directories.site_step two (directories.replayed_directory two registrations)
      (site_calls.Names (record { from = 0; max = 1 }))
      ≡ record { reply = site_replies.Names (name (codes "a1") ∷ []) true; act = None }
  pub last_page : directories.site_step two (directories.replayed_directory two registrations)
      (site_calls.Names (record { from = 1; max = 1 }))
      ≡ record { reply = site_replies.Names (name (codes "b1") ∷ []) false; act = None }
  pub full : directories.registration two (directories.replayed_directory two registrations) (name (codes "c1"))
      ≡ Full 2 2
  pub known : directories.registration two (directories.replayed_directory two registrations) (name (codes "b1"))
      ≡ Known
  pub before : directories.registration two (directories.directory_at two registrations 4) (name (codes "a1")) ≡ New
