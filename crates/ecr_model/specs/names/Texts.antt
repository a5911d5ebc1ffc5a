-- Bytes that texts are made of.
use Rattle.std.specs.Prelude.{ℕ, List, [], ◌∷◌}

-- a carriage return and a line feed
abbrev pub crlf : List ℕ
crlf = 13 ∷ 10 ∷ []
