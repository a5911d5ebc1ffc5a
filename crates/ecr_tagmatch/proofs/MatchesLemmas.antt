-- Prefixes.
use Rattle.std.proofs.Common.{◌≡◌, ◌&&◌, ◌==◌, ℕ, List, [], ◌∷◌, refl, ap}
use Rattle.std.specs.List.{starts_with}
use Rattle.ecr_tagmatch.specs.Matches.{starts}

-- std's test of a prefix is the definition
pub starts_with-starts : (p t : List ℕ) → starts_with (λ x y. x == y) t p ≡ starts p t
starts_with-starts [] t = refl
starts_with-starts (p ∷ ps) [] = refl
starts_with-starts (p ∷ ps) (t ∷ ts) = ap (λ b. p == t && b) (starts_with-starts ps ts)
