-- The turns of cells as the program makes them: a question with its content, and its answer (docs/DECISIONS.md,
-- "Scripts").
use Rattle.std.specs.Prelude.{Bool, true, false, Option, None, Some}
use Rattle.ecr_blob_upload.specs.Loads.{FitsCall, given}
use Rattle.ecr_model.specs.declared.registry.directory.Registered.{Registered as Result}
use Rattle.ecr_model.specs.declared.registry.directory.Registered.TheVariants as results
use Rattle.ecr_model.specs.declared.requests.refusal.Refusal.{Refusal}
use Rattle.ecr_model.specs.declared.requests.refusal.Refusal.TheVariants.{RepositoryNotFound, LimitExceeded}
use Rattle.ecr_model.specs.registry.Contents.{AreContents}
use Rattle.ecr_model.specs.requests.Requests.{beside_of}
use Rattle.ecr_model.specs.registry.Scripts.{Ask, knows, register, site_call, call, Told, known, registered, listed, replied, nothing}
use Rattle.ecr_cells.specs.declared.deed.Deed.{Deed}
use Rattle.ecr_cells.specs.declared.deed.Deed.TheVariants.{Knows, Register, OnSite, OnRepository}
use Rattle.ecr_cells.specs.declared.deed.Done.{Done}
use Rattle.ecr_cells.specs.declared.deed.Done.TheVariants.{Known, Registered, Listed, Replied, Nothing}

-- the question of a turn
abbrev pub ask_of : Deed → Ask
ask_of (Knows name) = knows name
ask_of (Register name) = register name
ask_of (OnSite c) = site_call c
ask_of (OnRepository c load moment) = call (beside_of (given load) moment) c

-- the content is such as the call has
abbrev pub FitsDeed : Deed → Type 0
FitsDeed (Knows name) = Unit {0}
FitsDeed (Register name) = Unit {0}
FitsDeed (OnSite c) = Unit {0}
FitsDeed (OnRepository c load moment) = FitsCall c load

-- the answer of a turn, in which no upload is completed yet
abbrev pub told_of : Done → Told
told_of (Known is) = known is
told_of (Registered r) = registered r
told_of (Listed reply) = listed reply
told_of (Replied out) = replied out.reply None
told_of Nothing = nothing

-- the content is that which the reply names
abbrev pub HasContents : Done → Type 0
HasContents (Known is) = Unit {0}
HasContents (Registered r) = Unit {0}
HasContents (Listed reply) = Unit {0}
HasContents (Replied out) = AreContents out.reply out.blobs.items
HasContents Nothing = Unit {0}

-- whether a registration with that result added an entry
abbrev pub is_new : Result → Bool
is_new results.New = true
is_new results.Known = false
is_new (results.Full limit count) = false

-- whether a turn with that answer added an entry
abbrev pub changes : Done → Bool
changes (Known is) = false
changes (Registered r) = is_new r
changes (Listed reply) = false
changes (Replied out) = out.changed
changes Nothing = false

-- the refusal of a call on a name that isn't registered
abbrev pub unless_known : Bool → Option Refusal
unless_known true = None
unless_known false = Some RepositoryNotFound

-- the refusal of a name too many
abbrev pub beyond : Result → Option Refusal
beyond results.New = None
beyond results.Known = None
beyond (results.Full limit count) = Some (LimitExceeded limit count)

-- the refusal of a call after its first turn; none where the turn in the repository follows
abbrev pub refusal_of : Done → Option Refusal
refusal_of (Known is) = unless_known is
refusal_of (Registered r) = beyond r
refusal_of (Listed reply) = Some RepositoryNotFound
refusal_of (Replied out) = Some RepositoryNotFound
refusal_of Nothing = Some RepositoryNotFound
