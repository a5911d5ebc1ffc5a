-- What a repository's name has, and what a call makes of it (Amazon ECR API Reference, the actions). Moments are in
-- seconds.
use Rattle.std.specs.Prelude.{◌≡◌, ℕ, false, List, Option, is_some, unwrap_or}
use Rattle.ecr_model.specs.declared.requests.call.Call.{Call}
use Rattle.ecr_model.specs.declared.registry.journal.Limits.{Limits}
use Rattle.ecr_model.specs.declared.registry.journal.Line.{Line}
use Rattle.ecr_model.specs.declared.names.RepoKey.{RepoKey}
use Rattle.ecr_model.specs.declared.names.SiteId.{SiteId}
use Rattle.ecr_model.specs.declared.requests.reply.Described.{Described}
use Rattle.ecr_model.specs.declared.registry.repository.Presence.{Presence}
use Rattle.ecr_model.specs.declared.registry.repository.Repository.{Repository}
use Rattle.ecr_model.specs.registry.Contents.{AreContents}
use Rattle.ecr_model.specs.registry.Steps.{Turn, first_state, step, replayed_repository, IsSoundRepository}
use Rattle.ecr_model.specs.registry.Steps as steps
use Rattle.ecr_blob_upload.specs.declared.call.Outcome.{Outcome}
use Rattle.ecr_repo.specs.States.{unsealed_turn}

-- the repository that is present like this, or is absent, and was given nothing yet
abbrev pub repository_of : Option Presence → Repository
repository_of present = record first_state { present = present }

-- the row that shows a repository that is present
abbrev pub row_of : RepoKey → Presence → Described
row_of key is = record { name = key.name; created = is.created; mutability = is.mutability }

-- the outcome has the call's reply with its content, and says whether the repository changes; afterwards the repository
-- is the call's
pub record IsDone (o : steps.Outcome) (before after : Repository) (out : Outcome) : Type 0 where
  pub reply : out.reply ≡ o.reply
  pub changed : out.changed ≡ is_some o.after
  pub contents : AreContents out.reply out.blobs.items
  pub leaves : after ≡ unwrap_or o.after before

-- the outcome is the call's at that moment, whatever else the turn and the limits are
abbrev pub IsMade : RepoKey → ℕ → Call → Repository → Repository → Outcome → Type 0
IsMade key moment call before after out = (limits : Limits) (ticket : ℕ) (destinations : List SiteId)
    → IsDone (step key limits before (unsealed_turn ticket moment destinations) call) before after out

-- the outcome is the call's, whatever the turn and the limits are, and nothing changes
pub record AnswersUnchanged (key : RepoKey) (call : Call) (repository : Repository) (out : Outcome) : Type 0 where
  pub reply : (limits : Limits) (turn : Turn) → out.reply ≡ (step key limits repository turn call).reply
  pub changed : out.changed ≡ false
  pub contents : AreContents out.reply out.blobs.items

-- the journal is sound, and leads to the repository
pub record IsKept (key : RepoKey) (limits : Limits) (journal : List Line) (repository : Repository) : Type 0 where
  pub sound : IsSoundRepository key limits journal
  pub leads : repository ≡ replayed_repository key limits journal
