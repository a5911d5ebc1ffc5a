-- The clock in memory. Moments are in seconds, and its calls have numbers from 0.
use Rattle.std.specs.Prelude.{ℕ, ◌-◌, min, List, length, slice_index_or}
use Rattle.ecr_model.specs.declared.names.TheConstants.{MAX_MOMENT}

-- a clock in memory: the moments that it gave, those that it is to give, and the number of the next call
pub record Dial : Type 0 where
  pub told : List ℕ
  pub moments : List ℕ
  pub calls : ℕ

-- the moment that the call of this number gives: its moment in the list, past the end the last one,
-- without a list 0; at most the greatest
abbrev pub moment_at : List ℕ → ℕ → ℕ
moment_at moments call = min (slice_index_or moments (min call (length moments - 1)) 0) MAX_MOMENT
