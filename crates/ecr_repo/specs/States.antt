-- A repository's name with its journal, and what goes with a call on it (Amazon ECR API Reference, the actions).
-- Tickets count from 0, moments are in seconds.
use Rattle.std.specs.Prelude.{◌≡◌, ℕ, Bool, List, [], ◌∷◌, ◌++◌, None, is_some, if◌then◌else◌}
use Rattle.ecr_model.specs.declared.requests.call.Call.{Call}
use Rattle.ecr_model.specs.declared.requests.call.Call.TheVariants.{Describe}
use Rattle.ecr_model.specs.declared.registry.journal.Limits.{Limits}
use Rattle.ecr_model.specs.declared.registry.journal.Line.{Line}
use Rattle.ecr_model.specs.declared.names.RepoKey.{RepoKey}
use Rattle.ecr_model.specs.declared.names.SiteId.{SiteId}
use Rattle.ecr_model.specs.declared.requests.reply.Reply.{Reply}
use Rattle.ecr_model.specs.declared.registry.repository.Repository.{Repository}
use Rattle.ecr_model.specs.registry.Steps.{Outcome, Turn, turn_of, step, replayed_repository, line_of}
use Rattle.ecr_blob_upload.specs.declared.call.Load.{Load}
use Rattle.ecr_blob_upload.specs.Loads.{FitsCall}

-- a name at a site, the limits that hold there, and all that changed it, the first change first
pub record State : Type 0 where
  pub key : RepoKey
  pub limits : Limits
  pub journal : List Line

-- the repository that the journal leads to
abbrev pub repository_now : State → Repository
repository_now state = replayed_repository state.key state.limits state.journal

-- a turn in which no upload is completed, for a call without content
abbrev pub unsealed_turn : ℕ → ℕ → List SiteId → Turn
unsealed_turn ticket moment destinations =
    turn_of ticket None (record { moment = moment; destinations = destinations; given = None })

-- the outcome of a call in a turn
abbrev pub call_outcome : State → Turn → Call → Outcome
call_outcome state turn call = step state.key state.limits (repository_now state) turn call

-- the reply to the call in a turn
abbrev pub reply_to : State → Turn → Call → Reply
reply_to state turn call = (call_outcome state turn call).reply

-- whether the call changes the repository
abbrev pub changes_repository : State → Turn → Call → Bool
changes_repository state turn call = is_some (call_outcome state turn call).after

-- the state with that line behind the others
abbrev pub with_entry : State → Line → State
with_entry state line = record state { journal = state.journal ++ line ∷ [] }

-- the state after a call: with its line, under that caller's number, where the call changes the repository, and as
-- before where it doesn't
abbrev pub after_call : State → ℕ → Turn → Call → State
after_call state caller turn call =
    if changes_repository state turn call then with_entry state (line_of caller turn call) else state

-- the call asks, and changes nothing
abbrev pub AnswersOnly : Call → Type 0
AnswersOnly Describe = Unit {0}
AnswersOnly _ = ⊥

-- the content and the destinations are such as the call has; no call has destinations yet
abbrev pub Fits : Call → Load → List SiteId → Type 0
Fits call load destinations = FitsCall call load × (destinations ≡ [])
