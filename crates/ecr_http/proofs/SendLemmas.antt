-- Pieces that are sent one after another.
use Rattle.std.proofs.Common.{ℕ, ◌+◌, ◌<◌, List, ◌++◌, length, take, drop, sym, ap, ◌∙◌, subst, append_assoc, length-append, length-drop, arith, Option}
use Rattle.std.proofs.lemmas.List.{take-append-drop}
use Rattle.std.proofs.Math.Seq.{take-add}
use Rattle.std.proofs.KnownBytes.{Appends-trans, Appends-kept}
use Rattle.std.specs.Io.KnownBytes.{Appends, Keeps}
use Rattle.ecr_http.specs.declared.write.Sent.{Sent}
use Rattle.ecr_http.specs.declared.write.Sent.TheVariants.{Done, WriteFault}
use Rattle.ecr_http.specs.Sends.{Sends}

-- one more part of a piece
pub Appends-take : (before mid after : Option (List ℕ)) (piece : List ℕ) (at n : ℕ)
    → Appends before mid (take at piece) → Appends mid after (take n (drop at piece))
    → Appends before after (take (at + n) piece)
Appends-take before mid after piece at n first second =
    subst (Appends before after) (sym (take-add at n piece))
    (Appends-trans before mid after (take at piece) (take n (drop at piece)) first second)

-- a write that fails leaves what was written before
pub Sends-failed : (before mid after : Option (List ℕ)) (piece : List ℕ) (at : ℕ) → at < length piece
    → Appends before mid (take at piece) → Keeps mid after
    → Sends before after piece WriteFault
Sends-failed before mid after piece at inside first kept = (
  take at piece,
  drop at piece,
  sym (take-append-drop at piece),
  Appends-kept before mid after (take at piece) first kept,
  omega (arith, length-drop at piece),
)

-- a piece behind one that was sent
pub Sends-then : (before mid after : Option (List ℕ)) (head tail : List ℕ) (sent : Sent) → Appends before mid head
    → Sends mid after tail sent → Sends before after (head ++ tail) sent
Sends-then before mid after head tail Done first second = Appends-trans before mid after head tail first second
Sends-then before mid after head tail WriteFault first second = (
  head ++ second.0,
  second.1,
  ap (λ l. head ++ l) second.2 ∙ sym (append_assoc head second.0 second.1),
  Appends-trans before mid after head second.0 first second.3,
  second.4,
)

-- a piece that was cut short ends what would follow it
pub Sends-cut : (before after : Option (List ℕ)) (head tail : List ℕ) → Sends before after head WriteFault
    → Sends before after (head ++ tail) WriteFault
Sends-cut before after head tail cut = (
  cut.0,
  cut.1 ++ tail,
  ap (λ l. l ++ tail) cut.2
      ∙ append_assoc cut.0 cut.1 tail,
  cut.3,
  omega (arith, cut.4, length-append cut.1 tail),
)
