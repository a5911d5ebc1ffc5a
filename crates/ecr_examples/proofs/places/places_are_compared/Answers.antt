use Rattle.std.proofs.Common.{◌<◌, ◌≤◌, List, [], ◌∷◌, refl, arith}
use Rattle.std.proofs.lemmas.List.Elements.{All-from_recursion, recursion_from_All}
use Rattle.ecr_model.specs.declared.registry.journal.Line.{Line}
use Rattle.ecr_model.specs.declared.registry.journal.Place.{Place}
use Rattle.ecr_model.specs.registry.Soundness.{IsAbove, DoesNotFall, AreFresh}
use Rattle.ecr_model.specs.sessions.Callers.{IsBetween, IsFollowed, AreBetween}
use Rattle.ecr_examples.specs.Kept.{line}
use Rattle.ecr_examples.specs.Places.{journals, listed, stored, views}
use Rattle.ecr_examples.proofs.places.places_are_compared.Goals as goal

-- the line at 3 is above by one
above_three : IsAbove (line 0 3 ∷ []) 4
above_three =
    let less : 3 < 4 = omega arith in
    All-from_recursion (λ (l : Line). l.ticket < 4) (line 0 3 ∷ []) (less, tt)

above_seven : IsAbove (line 0 3 ∷ line 1 7 ∷ []) 8
above_seven =
    let first : 3 < 8 = omega arith in
    let second : 7 < 8 = omega arith in
    All-from_recursion (λ (l : Line). l.ticket < 8) (line 0 3 ∷ line 1 7 ∷ []) (first, (second, tt))

above_nothing : IsAbove [] 0
above_nothing = All-from_recursion (λ (l : Line). l.ticket < 0) [] tt

-- at 7 the second line isn't below, at 8 the first one of 9
not_above_seven : IsAbove (line 0 3 ∷ line 1 7 ∷ []) 7 → ⊥
not_above_seven h =
    let lines = recursion_from_All (λ (l : Line). l.ticket < 7) (line 0 3 ∷ line 1 7 ∷ []) h in
    let no : 7 < 7 = lines.1.0 in
    omega (arith, no)

not_above_nine : IsAbove (line 0 9 ∷ line 1 7 ∷ []) 8 → ⊥
not_above_nine h =
    let lines = recursion_from_All (λ (l : Line). l.ticket < 8) (line 0 9 ∷ line 1 7 ∷ []) h in
    let no : 9 < 8 = lines.0 in
    omega (arith, no)

not_above_three : IsAbove (line 0 3 ∷ []) 3 → ⊥
not_above_three h =
    let lines = recursion_from_All (λ (l : Line). l.ticket < 3) (line 0 3 ∷ []) h in
    let no : 3 < 3 = lines.0 in
    omega (arith, no)

does_not_fall : DoesNotFall (listed 4) (listed 4)
does_not_fall h =
    let same : 4 ≤ 4 = omega arith in
    same

elsewhere : DoesNotFall (listed 4) (stored 0)
elsewhere h = cc h

back : DoesNotFall (stored 0) (listed 4)
back h = cc h

falls : DoesNotFall (listed 4) (listed 3) → ⊥
falls h =
    let no : 4 ≤ 3 = h refl in
    omega (arith, no)

are_fresh : AreFresh (journals (line 0 3 ∷ [])) (listed 4 ∷ stored 0 ∷ listed 4 ∷ [])
are_fresh = (
  above_three,
  All-from_recursion (DoesNotFall (listed 4)) (stored 0 ∷ listed 4 ∷ []) (elsewhere, (does_not_fall, tt)),
  (
    above_nothing,
    All-from_recursion (DoesNotFall (stored 0)) (listed 4 ∷ []) (back, tt),
    (above_three, All-from_recursion (DoesNotFall (listed 4)) [] tt, tt),
  ),
)

falls_later : AreFresh (journals []) (listed 4 ∷ stored 0 ∷ listed 3 ∷ []) → ⊥
falls_later h =
    let places = recursion_from_All (DoesNotFall (listed 4)) (stored 0 ∷ listed 3 ∷ []) h.1 in
    falls places.1.0

-- ---- between views

from_three : IsBetween (views 3 0) (views 5 1) (listed 3)
from_three =
    let from : 3 ≤ 3 = omega arith in
    let below : 3 < 5 = omega arith in
    record { from = from; below = below }

from_four : IsBetween (views 3 0) (views 5 1) (listed 4)
from_four =
    let from : 3 ≤ 4 = omega arith in
    let below : 4 < 5 = omega arith in
    record { from = from; below = below }

from_nought : IsBetween (views 3 0) (views 5 1) (stored 0)
from_nought =
    let from : 0 ≤ 0 = omega arith in
    let below : 0 < 1 = omega arith in
    record { from = from; below = below }

rises : IsFollowed (listed 3) (listed 4)
rises h =
    let more : 3 < 4 = omega arith in
    more

rises_elsewhere : IsFollowed (listed 3) (stored 0)
rises_elsewhere h = cc h

rises_back : IsFollowed (stored 0) (listed 4)
rises_back h = cc h

stays_not : IsFollowed (listed 3) (listed 3) → ⊥
stays_not h =
    let no : 3 < 3 = h refl in
    omega (arith, no)

are_between : AreBetween (views 3 0) (views 5 1) (listed 3 ∷ stored 0 ∷ listed 4 ∷ [])
are_between = (
  from_three,
  All-from_recursion (IsFollowed (listed 3)) (stored 0 ∷ listed 4 ∷ []) (rises_elsewhere, (rises, tt)),
  (
    from_nought,
    All-from_recursion (IsFollowed (stored 0)) (listed 4 ∷ []) (rises_back, tt),
    (from_four, All-from_recursion (IsFollowed (listed 4)) [] tt, tt),
  ),
)

stays_later : AreBetween (views 3 0) (views 5 1) (listed 3 ∷ stored 0 ∷ listed 3 ∷ []) → ⊥
stays_later h =
    let places = recursion_from_All (IsFollowed (listed 3)) (stored 0 ∷ listed 3 ∷ []) h.1 in
    stays_not places.1.0

pub returns : goal.returns
returns c = record {
  compared = record {
    above = above_seven;
    above_none = above_nothing;
    at_last = not_above_seven;
    below_first = not_above_nine;
    stays = λ h. (let same : 3 ≤ 3 = omega arith in same);
    falls = falls;
    falls_elsewhere = λ h. cc h;
    fresh = are_fresh;
    not_fresh = λ h. not_above_three h.2.0;
    fresh_falls = falls_later;
    first = (let from : 3 ≤ 3 = omega arith in let below : 3 < 5 = omega arith in record { from = from; below = below });
    last = (let from : 3 ≤ 4 = omega arith in let below : 4 < 5 = omega arith in record { from = from; below = below });
    low = λ h. (let no : 3 ≤ 2 = h.from in omega (arith, no));
    high = λ h. (let no : 5 < 5 = h.below in omega (arith, no));
    elsewhere = λ h. (let no : 0 < 0 = h.below in omega (arith, no));
    rises = rises;
    stays_not = stays_not;
    rises_elsewhere = λ h. cc h;
    between = are_between;
    twice = stays_later;
    later_high = λ h. (let no : 1 < 1 = h.2.0.below in omega (arith, no));
  };
}
