-- Conditions in their order.
use Rattle.std.specs.Prelude.{List, [], ◌∷◌, Option, Some, None}

-- the first fault that is there
abbrev pub first_of : {A : Type 0} → List (Option A) → Option A
first_of [] = None
first_of (Some fault ∷ rest) = Some fault
first_of (None ∷ rest) = first_of rest
