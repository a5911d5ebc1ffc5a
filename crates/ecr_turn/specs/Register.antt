-- A register, the example of this crate: a number that is set, with a journal of its settings.
use Rattle.std.specs.Prelude.{ℕ, List, [], ◌∷◌}
use Rattle.ecr_model.specs.declared.registry.journal.Line.{Line}

-- the value of a register that was at n, after these lines: each sets it
abbrev pub replayed : ℕ → List Line → ℕ
replayed n [] = n
replayed n (l ∷ ls) = replayed l.entry.moment ls

-- the number that the journal replays to, which begins as 0
abbrev pub value_of : List Line → ℕ
value_of = replayed 0
