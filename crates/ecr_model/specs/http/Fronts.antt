-- What may stand at the front of bytes in place of what is looked for.
use Rattle.std.specs.Prelude.{ℕ, Bool, true, false, List}
use Rattle.ecr_model.specs.declared.http.Section.{Section}

-- why it isn't there
pub data Lack : Type 0 where
  -- it can't stand there, however the bytes go on
  bad : Lack
  -- the section has more bytes than that limit allows
  too_long : Section → ℕ → Lack
  -- there are fewer bytes than it has
  open_ : Lack

-- the bytes behind a head
pub data BodyFront : Type 0 where
  -- a body, and how many bytes it takes
  complete : List ℕ → ℕ → BodyFront
  lacks : Lack → BodyFront

-- it is said what stands there, whatever follows
abbrev pub is_settled_lack : Lack → Bool
is_settled_lack bad = true
is_settled_lack (too_long section limit) = true
is_settled_lack open_ = false

-- the same of a body
abbrev pub is_settled_body : BodyFront → Bool
is_settled_body (complete body size) = true
is_settled_body (lacks lack) = is_settled_lack lack
