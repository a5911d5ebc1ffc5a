-- What contracts see of a turnstile, of a pass and of a turn.
use Rattle.std.specs.Prelude.{◌≡◌, ◌≤◌, ◌+◌, ℕ, List, [], Option, Some, None}
use Rattle.atomic_table.specs.Seated.{TableId}
use Rattle.ecr_model.specs.declared.registry.journal.Line.{Line}
use Rattle.ecr_model.specs.declared.registry.journal.Frame.{Frame}
use Rattle.ecr_model.specs.declared.registry.journal.CellKey.TheVariants.{Directory}

-- which turnstile it is, and what is fixed throughout its journal
pub record Gate : Type 0 where
  pub table : TableId
  pub frame : Frame

-- the knowledge of a pass: its turnstile, the number of its caller, how many callers' numbers are given out, one more
-- than the last ticket that it knows to be passed on, and the journal that it has seen
pub record Known : Type 0 where
  pub gate : Gate
  pub caller : ℕ
  pub callers : ℕ
  pub past : ℕ
  pub seen : List Line

-- a turn: its pass, its ticket, and the state
pub record TurnOf (S : Type 0) : Type 0 where
  pub pass : Known
  pub ticket : ℕ
  pub state : S

-- the first pass of a turnstile: it has seen nothing
abbrev pub first_pass : Gate → Known
first_pass gate = record { gate = gate; caller = 0; callers = 1; past = 0; seen = [] }

-- a pass of the same turnstile and caller, which forgets no number that was given out
abbrev pub IsSamePass : Known → Known → Type 0
IsSamePass p q = (q.gate ≡ p.gate) × (q.caller ≡ p.caller) × (p.callers ≤ q.callers)

-- a pass of the same turnstile, which has seen the same
abbrev pub IsAsWise : Known → Known → Type 0
IsAsWise p q = (q.gate ≡ p.gate) × (q.past ≡ p.past) × (q.seen ≡ p.seen)

-- a pass is split: the number of the new one is none that the pass knew to be given out, and afterwards both know that
-- it is
abbrev pub IsNewCaller : Known → Known → Known → Type 0
IsNewCaller before after new = (before.callers ≤ new.caller) × (new.callers ≡ new.caller + 1)
    × (after.callers ≡ new.caller + 1)

-- a frame of nothing
abbrev pub no_frame : Frame
no_frame = record {
  cell = Directory (record { region = []; account = [] });
  served = [];
  limits = record { names = 0; images = 0; tags = 0; parts = 0; bytes = 0 };
}

-- the knowledge that is looked up where there is no pass
abbrev pub unknown : Known
unknown = first_pass record {
  table = record {
    words = 0;
    slots = 0;
    views_name = 0;
    atom = 0;
    block = 0;
    offset = 0;
    slot_names = [];
  };
  frame = no_frame;
}

-- the knowledge of the pass in this place
abbrev pub known_in : Option Known → Known
known_in (Some known) = known
known_in None = unknown
