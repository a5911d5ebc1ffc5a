-- Facts at values of which they hold, and at values of which they don't. Of this registry. Tickets count from 0.
use Rattle.std.specs.Prelude.{◌≡◌, ℕ, true, false, List, [], ◌∷◌, map, None, Some, codes}
use Rattle.ecr_blob_upload.specs.Loads.{given, FitsCall}
use Rattle.ecr_blob_upload.specs.declared.call.Load.TheVariants.{Nothing}
use Rattle.ecr_model.specs.declared.outcome.End.TheVariants as ends
use Rattle.ecr_model.specs.declared.registry.journal.CellKey.TheVariants.{Repository}
use Rattle.ecr_model.specs.declared.registry.repository.Mutability.TheVariants.{Mutable}
use Rattle.ecr_model.specs.declared.requests.call.Call.TheVariants.{Create, Describe}
use Rattle.ecr_model.specs.http.Stream.{ended}
use Rattle.ecr_model.specs.registry.Contents.{AreContents}
use Rattle.ecr_model.specs.registry.Directories.{SiteFrame, IsSoundDirectory, registration_line}
use Rattle.ecr_model.specs.registry.Journals.{state_at, IsSound}
use Rattle.ecr_model.specs.registry.Limits.{standard}
use Rattle.ecr_model.specs.registry.Scripts.{call}
use Rattle.ecr_model.specs.registry.Soundness.{IsSoundIn}
use Rattle.ecr_model.specs.registry.Steps.{IsSoundRepository, after_line, first_state}
use Rattle.ecr_model.specs.registry.Views.{View, MaySeal, KeepsCaller}
use Rattle.ecr_model.specs.requests.Requests.{beside_of}
use Rattle.ecr_model.specs.sessions.Sessions.{IsUnspent}
use Rattle.ecr_model.specs.declared.requests.reply.Reply.TheVariants.{MutabilitySet}
use Rattle.ecr_outside.specs.Sink.{IsWriteSize, CountsWriteFault}
use Rattle.ecr_outside.specs.Source.{IsReadSize, CountsReadFault}
use Rattle.ecr_outside.specs.declared.sink.Took.TheVariants as took
use Rattle.ecr_outside.specs.declared.source.Got.TheVariants as got
use Rattle.ecr_repo.specs.Cells.{repository_of}
use Rattle.ecr_repo.specs.States.{AnswersOnly, Fits}
use Rattle.ecr_turn.specs.Passes.{Gate, Known, first_pass, known_in, no_frame}
use Rattle.ecr_turn.specs.Register.{replayed, value_of}
use Rattle.ecr_turn.specs.Turns.{ticket_of, named_of, in_turn, has_learned, is_found, found_seen, has_recorded, is_live, joined_past, joined_seen}
use Rattle.ecr_turn.specs.declared.board.Stage.{Stage}
use Rattle.ecr_turn.specs.declared.board.Stage.TheVariants.{Idle, Waits, Found, Holds, Recorded, Named, Joined, Spent}
use Rattle.ecr_examples.specs.Kept.{line}
use Rattle.ecr_examples.specs.Names.{of_abc}
use Rattle.ecr_examples.specs.States.{app}

-- the frame of the site's directory
abbrev frame : SiteFrame
frame = record { site = app.site; served = app.site ∷ []; limits = standard }

-- a journal is sound where its tickets rise and each line changes what those before it left
-- pins: IsSoundFrom
pub record JournalsAreSound : Type 0 where
  pub at : state_at (after_line app standard) first_state (line 0 3 ∷ []) 4
      ≡ repository_of (Some (record { created = 70; mutability = Mutable }))
  pub at_first : state_at (after_line app standard) first_state (line 0 3 ∷ []) 3 ≡ first_state
  pub sound : IsSoundRepository app standard (line 0 3 ∷ [])
  pub named : IsSoundDirectory frame (registration_line 3 0 app.name ∷ [])
  pub from : IsSound (after_line app standard) first_state (line 0 3 ∷ [])
  pub in_cell : IsSoundIn (record { served = app.site ∷ []; limits = standard }) (Repository app) (line 0 3 ∷ [])

abbrev view : ℕ → View
view caller = record { caller = caller; past = 9; seen = [] }

-- facts of views, of contents, and of ends
pub record FactsHold : Type 0 where
  pub no_seal : MaySeal (call (beside_of None 70) Describe) None
  pub some_seal : MaySeal (call (beside_of None 70) Describe) (Some of_abc) → ⊥
  pub new_caller : KeepsCaller None (Some (view 2))
  pub same_caller : KeepsCaller (Some (view 2)) (Some (view 2))
  pub other_caller : KeepsCaller (Some (view 2)) (Some (view 3)) → ⊥
  pub no_caller : KeepsCaller (Some (view 2)) None → ⊥
  pub no_content : AreContents (MutabilitySet Mutable) []
  pub some_content : AreContents (MutabilitySet Mutable) (codes "x" ∷ []) → ⊥
  pub nothing : given Nothing ≡ None
  pub fits : FitsCall Describe Nothing
  pub fits_here : Fits Describe Nothing []
  pub fits_nowhere : Fits Describe Nothing (app.site ∷ []) → ⊥
  pub asks : AnswersOnly Describe
  pub changes : AnswersOnly (Create Mutable) → ⊥
  pub unspent : IsUnspent ends.Whole ended 1099511627775
  pub spent : IsUnspent ends.Whole ended 1099511627776 → ⊥
  pub failed_unspent : IsUnspent ends.ReadFault ended 1099511627776 → ⊥
  pub some_read : IsReadSize (got.Bytes 1) (7 ∷ [])
  pub none_read : IsReadSize (got.Bytes 0) (7 ∷ []) → ⊥
  pub too_many_read : IsReadSize (got.Bytes 2) (7 ∷ []) → ⊥
  pub some_taken : IsWriteSize (took.Bytes 1) (7 ∷ [])
  pub none_taken : IsWriteSize (took.Bytes 0) (7 ∷ []) → ⊥
  pub too_many_taken : IsWriteSize (took.Bytes 2) (7 ∷ []) → ⊥
  pub read_fault : CountsReadFault 3 4 got.Failed
  pub no_read_fault : CountsReadFault 3 3 got.Failed → ⊥
  pub write_fault : CountsWriteFault 3 4 took.Failed
  pub no_write_fault : CountsWriteFault 3 3 took.Failed → ⊥

-- the stages of a pass
abbrev stages : List Stage
stages = Idle ∷ Waits 5 ∷ Found 5 (line 0 3 ∷ []) ∷ Holds 5 ∷ Recorded 5 ∷ Joined 9 (line 0 3 ∷ []) ∷ Named 4 ∷ Spent
    ∷ []

-- what a pass knows at first, at each of its stages, and when it is split
pub record PassesAreRead : Type 0 where
  pub tickets : map ticket_of stages ≡ None ∷ Some 5 ∷ Some 5 ∷ Some 5 ∷ Some 5 ∷ None ∷ None ∷ None ∷ []
  pub numbers : map named_of stages ≡ None ∷ None ∷ None ∷ None ∷ None ∷ None ∷ Some 4 ∷ None ∷ []
  pub turns : map in_turn stages ≡ false ∷ false ∷ true ∷ true ∷ true ∷ false ∷ false ∷ false ∷ []
  pub learned : map has_learned stages ≡ false ∷ false ∷ false ∷ true ∷ true ∷ false ∷ false ∷ false ∷ []
  pub found : map is_found stages ≡ false ∷ false ∷ true ∷ false ∷ false ∷ false ∷ false ∷ false ∷ []
  pub seen : map found_seen stages ≡ [] ∷ [] ∷ (line 0 3 ∷ []) ∷ [] ∷ [] ∷ [] ∷ [] ∷ [] ∷ []
  pub recorded : map has_recorded stages ≡ false ∷ false ∷ false ∷ false ∷ true ∷ false ∷ false ∷ false ∷ []
  pub live : map is_live stages ≡ true ∷ true ∷ true ∷ true ∷ true ∷ true ∷ true ∷ false ∷ []
  pub pasts : map joined_past stages ≡ 0 ∷ 0 ∷ 0 ∷ 0 ∷ 0 ∷ 9 ∷ 0 ∷ 0 ∷ []
  pub joined : map joined_seen stages ≡ [] ∷ [] ∷ [] ∷ [] ∷ [] ∷ (line 0 3 ∷ []) ∷ [] ∷ [] ∷ []
  pub first : (gate : Gate) → first_pass gate ≡ record { gate = gate; caller = 0; callers = 1; past = 0; seen = [] }
  pub known : (p : Known) → known_in (Some p) ≡ p
  pub served : no_frame.served ≡ []
  pub register : value_of (line 0 3 ∷ []) ≡ 70
  pub fresh_register : value_of [] ≡ 0
  pub set : replayed 5 [] ≡ 5
