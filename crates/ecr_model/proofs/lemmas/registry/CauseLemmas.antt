-- Why a call is answered that there is no such repository.
use Rattle.std.proofs.Common.{◌≡◌, ◌⊎◌, inl, inr, ℕ, Bool, true, false, Option, None, Some, is_some, List, if◌then◌else◌, refl, arith}
use Rattle.ecr_model.specs.declared.requests.call.Call.{Call}
use Rattle.ecr_model.specs.declared.requests.call.Call.TheVariants.{Create}
use Rattle.ecr_model.specs.declared.registry.directory.Directory as kept
use Rattle.ecr_model.specs.declared.registry.directory.Registered.{Registered}
use Rattle.ecr_model.specs.declared.registry.directory.Registered.TheVariants.{New, Known, Full}
use Rattle.ecr_model.specs.declared.registry.journal.CellKey.TheVariants.{Directory, Repository}
use Rattle.ecr_model.specs.declared.registry.journal.Limits.{Limits}
use Rattle.ecr_model.specs.declared.names.RepoKey.{RepoKey}
use Rattle.ecr_model.specs.declared.requests.refusal.Refusal.TheVariants.{RepositoryNotFound, RepositoryAlreadyExists, LimitExceeded}
use Rattle.ecr_model.specs.declared.requests.reply.Reply.TheVariants.{Created, Refused}
use Rattle.ecr_model.specs.declared.registry.repository.Mutability.{Mutability}
use Rattle.ecr_model.specs.declared.registry.repository.Repository.{Repository as State}
use Rattle.ecr_model.specs.registry.Directories as directories
use Rattle.ecr_model.specs.requests.Requests.{plain, beside_of, call_script, first_turn, then_cell, cell_turn}
use Rattle.ecr_model.specs.registry.Scripts.{ends, Realm, World, frame_of, next_ticket, run, then_do, turn_at, entered, known, registers}
use Rattle.ecr_model.specs.laws.ScriptLaws.{NotFoundHasItsCause}
use Rattle.ecr_model.specs.registry.Steps as steps

-- a creation is answered otherwise
creates_other : (present : Bool) (after : State) (moment : ℕ) (mutability : Mutability)
    → (if present then steps.refuses RepositoryAlreadyExists else steps.becomes after
    (Created moment mutability)).reply ≡ Refused RepositoryNotFound → ⊥
creates_other true after moment mutability is = absurd (cc)
creates_other false after moment mutability is = absurd (cc)

-- in the repository: the call is answered so only where the repository is absent
absent : (key : RepoKey) (s : State) (turn : steps.Turn) (limits : Limits) (call : Call)
    → (steps.step key limits s turn call).reply ≡ Refused RepositoryNotFound → s.present ≡ None
unfolding steps.step
absent key s turn limits call is = grind arith

-- the repository as at the next ticket
abbrev now : Realm → World → RepoKey → State
now realm world key = steps.repository_at key realm.limits (world.journals (Repository key))
    (next_ticket world (Repository key))

in_cell : (realm : Realm) (world : World) (key : RepoKey) (call : Call) (given : Option (List ℕ)) (moment : ℕ)
    → (run realm world (cell_turn key call given moment)).answer.reply ≡ Refused RepositoryNotFound
    → (now realm world key).present ≡ None
unfolding run turn_at
in_cell realm world key call given moment is =
    absent key (now realm world key)
    (steps.turn_of (next_ticket world (Repository key)) None (beside_of given moment)) realm.limits call is

-- after the directory said whether it is registered
after_known : (realm : Realm) (world : World) (key : RepoKey) (call : Call) (given : Option (List ℕ)) (moment : ℕ)
    (b : Bool)
    → (run realm world (then_cell key call given moment (known b))).answer.reply ≡ Refused RepositoryNotFound
    → (b ≡ false) ⊎ ((now realm world key).present ≡ None)
unfolding then_cell
after_known realm world key call given moment true is = inr (in_cell realm world key call given moment is)
after_known realm world key call given moment false is = inl refl

-- after the directory registered it, a creation isn't answered so
ends_other : (realm : Realm) (world : World) (limit count : ℕ)
    → (run realm world (ends (plain (Refused (LimitExceeded limit count))))).answer.reply ≡ Refused RepositoryNotFound
    → ⊥
unfolding run
ends_other realm world limit count is = absurd (cc)

in_creation : (realm : Realm) (world : World) (key : RepoKey) (mutability : Mutability) (given : Option (List ℕ))
    (moment : ℕ)
    → (run realm world (cell_turn key (Create mutability) given moment)).answer.reply ≡ Refused RepositoryNotFound → ⊥
unfolding run turn_at steps.step
in_creation realm world key mutability given moment is =
    let s : State = now realm world key in
    creates_other (is_some s.present)
    (record s { present = Some (record { created = moment; mutability = mutability }) }) moment mutability is

after_registered : (realm : Realm) (world : World) (key : RepoKey) (mutability : Mutability) (given : Option (List ℕ))
    (moment : ℕ) (r : Registered)
    → (run realm world (then_cell key (Create mutability) given moment (registers key.name r).told)).answer.reply
    ≡ Refused RepositoryNotFound → ⊥
unfolding then_cell
after_registered realm world key mutability given moment New is =
    in_creation realm world key mutability given moment is
after_registered realm world key mutability given moment Known is =
    in_creation realm world key mutability given moment is
after_registered realm world key mutability given moment (Full limit count) is = ends_other realm world limit count is

-- the directory as at its next ticket
abbrev names_now : Realm → World → RepoKey → kept.Directory
names_now realm world key =
    directories.directory_at (frame_of realm key.site) (world.journals (Directory key.site))
    (next_ticket world (Directory key.site))

-- that there is no such repository is answered only for one of its two causes
pub not_found_has_its_cause : NotFoundHasItsCause
unfolding call_script first_turn then_do run turn_at entered
not_found_has_its_cause realm world key (Create mutability) given moment is =
    let r = directories.registration (frame_of realm key.site) (names_now realm world key) key.name in
    absurd (after_registered realm
    (entered realm world (Directory key.site) (registers key.name r).entry) key mutability given moment r is)
not_found_has_its_cause realm world key call given moment is =
    after_known realm world key call given moment (directories.is_registered key.name (names_now realm world key)) is
