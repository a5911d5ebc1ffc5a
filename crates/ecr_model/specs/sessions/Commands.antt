-- The words of a command, what is said of other words, and the status that a command ends with.
use Rattle.std.specs.Prelude.{◌≡◌, ◌≢◌, ℕ, Bool, true, false, ◌≤◌, ◌<◌, List, [], ◌∷◌, ◌++◌, Option, Some, None, IfSome, All, AllPairs, length, map, codes, decimal}
use Rattle.std.specs.Io.KnownBytes.{Appends, Keeps}
use Rattle.ecr_model.specs.declared.names.TheConstants.{MAX_MOMENT}
use Rattle.ecr_model.specs.declared.names.SiteId.{SiteId}
use Rattle.ecr_model.specs.declared.registry.journal.Place.{Place}
use Rattle.ecr_model.specs.declared.outcome.Cut.{Cut}
use Rattle.ecr_model.specs.declared.outcome.End.{End}
use Rattle.ecr_model.specs.declared.outcome.End.TheVariants as ends
use Rattle.ecr_model.specs.names.Sites.{site_word, IsSite}
use Rattle.ecr_model.specs.registry.Limits.{standard}
use Rattle.ecr_model.specs.registry.Scripts.{World, fresh}
use Rattle.ecr_model.specs.sessions.Sessions.{Outside, Setting, Serves}

-- the words of a clock that stands still, where it does
abbrev pub clock_words : Option ℕ → List (List ℕ)
clock_words None = []
clock_words (Some moment) = codes "--clock" ∷ decimal moment ∷ []

-- the words are those of a session at these sites, whose moment is fixed where one is given, in seconds
pub record IsSession (words : List (List ℕ)) (fixed : Option ℕ) (sites : List SiteId) : Type 0 where
  pub words_are : words ≡ codes "session" ∷ clock_words fixed ++ map site_word sites
  pub in_range : IfSome fixed (λ moment. moment ≤ MAX_MOMENT)
  pub are_sites : All IsSite sites
  pub some : 1 ≤ length sites
  pub at_most : length sites ≤ 64
  pub differ : AllPairs ◌≢◌ sites

-- the words are no command
abbrev pub IsNoCommand : List (List ℕ) → Type 0
IsNoCommand words = (fixed : Option ℕ) (sites : List SiteId) → IsSession words fixed sites → ⊥

-- the lines that are written where the words are no command
unfoldable pub usage_lines : List ℕ
usage_lines =
    codes "usage: ecrd session [--control] [--clock S] SITE..." ++ 10 ∷ []
    ++ codes "       ecrd bulk SEED COUNT" ++ 10 ∷ []
    ++ codes "       ecrd serve [--workers N] [--copiers N] ADDRESS SITE..." ++ 10 ∷ []

-- nothing was read of the source, and the clock wasn't asked
pub record IsIdle (before after : Outside) : Type 0 where
  pub left : after.left ≡ before.left
  pub told : after.told ≡ before.told
  pub read_faults : after.read_faults ≡ before.read_faults

-- the bytes that a sink holds, where it tells them, and how often it failed
pub record Written : Type 0 where
  pub held : Option (List ℕ)
  pub faults : ℕ

-- a front of the bytes was written, but not all, before a write failed
pub record WritesInPart (before after : Written) (bytes : List ℕ) : Type 0 where
  pub taken : List ℕ
  pub lost : List ℕ
  pub parts : bytes ≡ taken ++ lost
  pub some_lost : 1 ≤ length lost
  pub appended : Appends before.held after.held taken
  pub fault : before.faults < after.faults

-- a command that its words aren't: the lines were written, or a write failed after a part of them, or there was no
-- memory to read the words
abbrev pub SaysUsage : Written → Written → End → Type 0
SaysUsage before after ends.Usage = Appends before.held after.held usage_lines
SaysUsage before after ends.WriteFault = WritesInPart before after usage_lines
SaysUsage before after ends.Mem = Keeps before.held after.held
SaysUsage before after _ = ⊥

-- the sink of a session's outside
abbrev pub sink_of : Outside → Written
sink_of outside = record { held = outside.held; faults = outside.write_faults }

-- a command that isn't run: nothing was read, and its usage was said
pub record IsNotRun (before after : Outside) (end : End) : Type 0 where
  pub idle : IsIdle before after
  pub said : SaysUsage (sink_of before) (sink_of after) end

-- the program's session at these sites: nothing is there at first
abbrev pub fresh_session : List SiteId → Option ℕ → Setting
fresh_session sites fixed =
    record { realm = record { served = sites; limits = standard }; first = fresh; fixed = fixed }

-- a command that serves a session reads, answers and writes as this session does, and ends so; the cuts are those of
-- its account
pub record RunsSession (sites : List SiteId) (fixed : Option ℕ) (before after : Outside) (cuts : List Cut)
    (end : End) : Type 0 where
  pub moments : List ℕ
  pub places : List (List Place)
  pub last : World
  pub serves : Serves (fresh_session sites fixed) before after
      (record { moments = moments; places = places; cuts = cuts }) last end

-- ---- a server

-- the line that is written once the address was opened
unfoldable pub ready_line : List ℕ
ready_line = codes "ready" ++ 10 ∷ []

-- the outside of a server: whether its address is open, whether its acceptor closed, how often that failed, and its
-- sink
pub record Front : Type 0 where
  pub is_open : Bool
  pub is_closed : Bool
  pub accept_faults : ℕ
  pub sink : Written

-- the line was written where the address is open, or a write failed after a part of it; without an open address nothing
-- was written
abbrev pub SaysReady : Bool → Written → Written → End → Type 0
SaysReady false before after end = Keeps before.held after.held
SaysReady true before after ends.WriteFault = WritesInPart before after ready_line
SaysReady true before after _ = Appends before.held after.held ready_line

-- a server's end, by its cause: the acceptor closed, or failed, or the sink did; want of memory is free
abbrev pub IsCaused : Front → Front → End → Type 0
IsCaused before after ends.Whole = after.is_closed ≡ true
IsCaused before after ends.WriteFault = (after.is_open ≡ true) × (before.sink.faults < after.sink.faults)
IsCaused before after ends.AcceptFault = before.accept_faults < after.accept_faults
IsCaused before after ends.Mem = Unit {0}
IsCaused before after _ = ⊥

-- a server from its beginning to its end
pub record RunsServer (before after : Front) (end : End) : Type 0 where
  pub ready : SaysReady after.is_open before.sink after.sink end
  pub cause : IsCaused before after end

-- the exit status of a command
abbrev pub exit_status : End → ℕ
exit_status ends.Whole = 0
exit_status ends.Usage = 2
exit_status ends.ReadFault = 3
exit_status ends.WriteFault = 4
exit_status ends.Mem = 5
exit_status ends.AcceptFault = 6
exit_status (ends.Truncated at) = 7
exit_status (ends.Bad at) = 8
exit_status (ends.TooLong at limit) = 8
exit_status ends.Spent = 9
