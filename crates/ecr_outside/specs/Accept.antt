-- How an acceptor of links goes on, by what it answers.
use Rattle.std.specs.Prelude.{◌≡◌, ◌≤◌, ◌<◌, ◌||◌, ℕ, Bool, true, false, List, if◌then◌else◌}
use Rattle.ecr_outside.specs.Plan.{is_failing}
use Rattle.ecr_outside.specs.declared.accept.Opened.{Opened}
use Rattle.ecr_outside.specs.declared.accept.Opened.TheVariants as answers
use Rattle.ecr_outside.specs.declared.accept.Next.{Next}
use Rattle.ecr_outside.specs.declared.accept.Next.TheVariants as nexts

-- an acceptor: how often it failed, whether its address was opened, and whether it said that no link comes any more
pub record Entrance : Type 0 where
  pub faults : ℕ
  pub is_open : Bool
  pub is_closed : Bool

-- its address was opened
abbrev pub is_ready : Opened → Bool
is_ready answers.Ready = true
is_ready answers.Failed = false

-- it opened its address, and is open from then on, or failed
pub record Opens (old new : Entrance) (answer : Opened) : Type 0 where
  pub opened : new.is_open ≡ (old.is_open || is_ready answer)
  pub closed : new.is_closed ≡ old.is_closed
  pub later : old.faults ≤ new.faults
  pub cause : answer ≡ answers.Failed → old.faults < new.faults

module _ {I : Type 0} {O : Type 0} where
  -- no link comes any more
  abbrev pub ends_links : Next I O → Bool
  ends_links nexts.Closed = true
  ends_links _ = false

  -- it gave a link, or closed, and is closed from then on, or failed
  pub record GoesOn (old new : Entrance) (answer : Next I O) : Type 0 where
    pub opened : new.is_open ≡ old.is_open
    pub closed : new.is_closed ≡ (old.is_closed || ends_links answer)
    pub later : old.faults ≤ new.faults
    pub cause : answer ≡ nexts.Failed → old.faults < new.faults

-- an acceptor in memory: the acceptor, how many links are left, the numbers of the calls that fail, and the number of
-- the next call
pub record Hall : Type 0 where
  pub entrance : Entrance
  pub left : ℕ
  pub fails : List ℕ
  pub calls : ℕ

-- the answer of `open` by the number of the call
abbrev pub answer_to_open : Hall → Opened
answer_to_open hall = if is_failing hall.fails hall.calls then answers.Failed else answers.Ready
