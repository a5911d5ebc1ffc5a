-- The laws of journals.
use Rattle.std.proofs.Common.{◌≡◌, ◌<◌, ◌≤◌, ℕ, suc, List, [], ◌∷◌, ◌++◌, All, Option, Some, unwrap_or, nat_lt, append-nil, refl, sym, ap, ◌∙◌, subst, ⊎_elim, arith}
use Rattle.std.proofs.lemmas.Bool.{cases_lt}
use Rattle.std.proofs.lemmas.List.Elements.{filter-append, All-head, All-tail}
use Rattle.ecr_model.specs.declared.registry.journal.Line.{Line}
use Rattle.ecr_model.specs.registry.Journals.{past_from, past, below, between, replay, IsSoundFrom}
use Rattle.ecr_model.specs.laws.JournalLaws.{ReplayGoesOn, AFirstPartIsSound, ASoundJournalGrows, WhatWasStays, TheLastIsNow, TheLinesBetweenLeadOn}

module _ {S : Type 0} (after : S → Line → Option S) where
  -- a journal and further lines lead to what those make of its state
  pub replay-append : (s : S) (lines news : List Line)
      → replay after s (lines ++ news) ≡ replay after (replay after s lines) news
  unfolding replay
  replay-append s [] news = refl
  replay-append s (l ∷ ls) news = replay-append (unwrap_or (after s l) s) ls news

  -- with one line more
  pub replay-push : (s : S) (lines : List Line) (line : Line)
      → replay after s (lines ++ line ∷ []) ≡ unwrap_or (after (replay after s lines) line) (replay after s lines)
  unfolding replay
  replay-push s [] line = refl
  replay-push s (l ∷ ls) line = replay-push (unwrap_or (after s l) s) ls line

  pub IsSoundFrom-first_part : (low : ℕ) (s : S) (lines news : List Line) → IsSoundFrom after low s (lines ++ news)
      → IsSoundFrom after low s lines
  unfolding IsSoundFrom
  IsSoundFrom-first_part low s [] news sound = tt
  IsSoundFrom-first_part low s (l ∷ ls) news sound =
      (sound.0, (sound.1.0, sound.1.1, IsSoundFrom-first_part (suc l.ticket) sound.1.0 ls news sound.1.2))

  -- a sound journal stays sound with a later line that changes its state
  pub IsSoundFrom-push : (low : ℕ) (s : S) (lines : List Line) (line : Line) (next : S)
      → IsSoundFrom after low s lines → past_from low lines ≤ line.ticket
      → after (replay after s lines) line ≡ Some next
      → IsSoundFrom after low s (lines ++ line ∷ [])
  unfolding IsSoundFrom replay
  IsSoundFrom-push low s [] line next sound later changes = (later, (next, changes, tt))
  IsSoundFrom-push low s (l ∷ ls) line next sound later changes =
      let same : unwrap_or (after s l) s ≡ sound.1.0 = ap (λ o. unwrap_or o s) sound.1.1 in (
        sound.0,
        (
          sound.1.0,
          sound.1.1,
          IsSoundFrom-push (suc l.ticket) sound.1.0 ls line next sound.1.2 later
              (subst (λ t. after (replay after t ls) line ≡ Some next) same changes),
        ),
      )

  -- the tickets of a sound journal are below its past
  pub past_from-ge : (low : ℕ) (s : S) (lines : List Line) → IsSoundFrom after low s lines → low ≤ past_from low lines
  unfolding IsSoundFrom
  past_from-ge low s [] sound = omega arith
  past_from-ge low s (l ∷ ls) sound =
      let later : suc l.ticket ≤ past_from (suc l.ticket) ls = past_from-ge (suc l.ticket) sound.1.0 ls sound.1.2 in
      omega (arith, later, sound.0)

  pub below-all : (low : ℕ) (s : S) (lines : List Line) (ticket : ℕ)
      → IsSoundFrom after low s lines → past_from low lines ≤ ticket → below ticket lines ≡ lines
  unfolding IsSoundFrom
  below-all low s [] ticket sound past = refl
  below-all low s (l ∷ ls) ticket sound past =
      let later : suc l.ticket ≤ past_from (suc l.ticket) ls = past_from-ge (suc l.ticket) sound.1.0 ls sound.1.2 in
      let rest : below ticket ls ≡ ls = below-all (suc l.ticket) sound.1.0 ls ticket sound.1.2 past in
      grind (arith, later, past, rest)

  -- of a sound journal that begins at a ticket or later no line is below it
  pub below-late : (low : ℕ) (s : S) (lines : List Line) (ticket : ℕ) → IsSoundFrom after low s lines → ticket ≤ low
      → below ticket lines ≡ []
  unfolding IsSoundFrom
  below-late low s [] ticket sound late = refl
  below-late low s (l ∷ ls) ticket sound late =
      let first : low ≤ l.ticket = sound.0 in
      let onward : ticket ≤ suc l.ticket = omega arith in
      let rest : below ticket ls ≡ [] = below-late (suc l.ticket) sound.1.0 ls ticket sound.1.2 onward in
      grind (arith, late, first, rest)

  -- and those below a later ticket are those between the two
  pub between-late : (low : ℕ) (s : S) (lines : List Line) (ticket later : ℕ)
      → IsSoundFrom after low s lines → ticket ≤ low → between ticket later lines ≡ below later lines
  unfolding IsSoundFrom
  between-late low s [] ticket later sound late = refl
  between-late low s (l ∷ ls) ticket later sound late =
      let first : low ≤ l.ticket = sound.0 in
      let onward : ticket ≤ suc l.ticket = omega arith in
      let rest : between ticket later ls ≡ below later ls =
      between-late (suc l.ticket) sound.1.0 ls ticket later sound.1.2 onward in
      grind (arith, late, first, rest)

  -- the lines below a later ticket are those below an earlier one, and then those between the two
  pub below-between : (low : ℕ) (s : S) (lines : List Line) (ticket later : ℕ)
      → IsSoundFrom after low s lines → ticket ≤ later
      → below later lines ≡ below ticket lines ++ between ticket later lines
  unfolding IsSoundFrom
  below-between low s [] ticket later sound order = refl
  below-between low s (l ∷ ls) ticket later sound order =
      let rest : below later ls ≡ below ticket ls ++ between ticket later ls =
      below-between (suc l.ticket) sound.1.0 ls ticket later sound.1.2 order in
      ⊎_elim (λ (before : l.ticket < ticket). grind (arith, before, order, rest)) late (cases_lt l.ticket ticket)
    where
      late : ticket ≤ l.ticket → below later (l ∷ ls) ≡ below ticket (l ∷ ls) ++ between ticket later (l ∷ ls)
      late past =
          let here : IsSoundFrom after l.ticket s (l ∷ ls) = (omega arith, sound.1) in
          let none : below ticket (l ∷ ls) ≡ [] = below-late l.ticket s (l ∷ ls) ticket here past in
          let all : between ticket later (l ∷ ls) ≡ below later (l ∷ ls) =
          between-late l.ticket s (l ∷ ls) ticket later here past in
          sym all ∙ ap (λ ms. ms ++ between ticket later (l ∷ ls)) (sym none)

-- no line at that ticket or later is below it
pub below-none : (lines : List Line) (ticket : ℕ) → All (λ l. ticket ≤ l.ticket) lines → below ticket lines ≡ []
below-none [] ticket late = refl
below-none (l ∷ ls) ticket late =
    let rest : below ticket ls ≡ [] = below-none ls ticket (All-tail (λ m. ticket ≤ m.ticket) l ls late) in
    let first : ticket ≤ l.ticket = All-head (λ m. ticket ≤ m.ticket) l ls late in
    grind (arith, rest, first)

-- lines with later tickets add nothing to those below a ticket
pub below-append : (lines news : List Line) (ticket : ℕ) → All (λ l. ticket ≤ l.ticket) news
    → below ticket (lines ++ news) ≡ below ticket lines
below-append lines news ticket late =
    let none : below ticket news ≡ [] = below-none news ticket late in
    filter-append (λ l. nat_lt l.ticket ticket) lines news
    ∙ (ap (λ ls. below ticket lines ++ ls) none ∙ append-nil (below ticket lines))

module _ {S : Type 0} (after : S → Line → Option S) (first : S) where
  -- one line more leads to what it makes of the state
  pub replay_goes_on : ReplayGoesOn after first
  replay_goes_on lines line = replay-push after first lines line

  -- the first lines of a sound journal are a sound journal
  pub a_first_part_is_sound : AFirstPartIsSound after first
  a_first_part_is_sound lines news sound = IsSoundFrom-first_part after 0 first lines news sound

  -- a sound journal stays sound with a later line that changes its state
  pub a_sound_journal_grows : ASoundJournalGrows after first
  a_sound_journal_grows lines line next sound later changes =
      IsSoundFrom-push after 0 first lines line next sound later changes

  -- the state at a ticket stays, whatever is entered at that ticket or later
  pub what_was_stays : WhatWasStays after first
  what_was_stays lines news ticket late = ap (replay after first) (below-append lines news ticket late)

  -- past the last ticket stands what the whole journal leads to
  pub the_last_is_now : TheLastIsNow after first
  the_last_is_now lines ticket sound past = ap (replay after first) (below-all after 0 first lines ticket sound past)

  -- the lines between two tickets lead from the state at the one to that at the other
  pub the_lines_between_lead_on : TheLinesBetweenLeadOn after first
  the_lines_between_lead_on lines ticket later sound order =
      ap (replay after first) (below-between after 0 first lines ticket later sound order)
      ∙ replay-append after first (below ticket lines) (between ticket later lines)
