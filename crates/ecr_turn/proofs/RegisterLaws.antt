-- What a register comes to.
use Rattle.std.proofs.Common.{◌≡◌, ℕ, List, [], ◌∷◌, ◌++◌, refl}
use Rattle.ecr_model.specs.declared.registry.journal.Line.{Line}
use Rattle.ecr_turn.specs.Register.{replayed}

-- the last line sets the number
pub replayed-snoc : (n : ℕ) (ls : List Line) (l : Line) → replayed n (ls ++ l ∷ []) ≡ l.entry.moment
replayed-snoc n [] l = refl
replayed-snoc n (x ∷ ls) l = replayed-snoc x.entry.moment ls l
