-- Laws of what stands in journals below a ticket, and of a caller's own lines.
use Rattle.std.proofs.Common.{◌≡◌, ◌≢◌, ℕ, ◌<◌, ◌≤◌, Bool, cond, List, [], ◌∷◌, ◌++◌, refl, ap, ◌∙◌, ⊎_elim, inl, inr, arith, eq-eqb, ne_eqb, nat_lt, ◌==◌, append-nil, le-ltb, lt-ltb}
use Rattle.std.proofs.lemmas.List.Elements.{filter-append}
use Rattle.ecr_model.specs.declared.registry.journal.Line.{Line}
use Rattle.ecr_model.specs.registry.Journals.{below}
use Rattle.ecr_model.specs.registry.Growth.{Each, Rises}
use Rattle.ecr_turn.specs.Journals.{of_caller}
use Rattle.ecr_turn.specs.Laws.{WhatStoodStays, OthersAddNoneOfMine, ATurnAddsItsOwn}
use Rattle.ecr_model.proofs.lemmas.registry.GrowthLemmas.{Rises-each}

below-none : (ticket past : ℕ) (ls : List Line) → ticket ≤ past → Each (λ l. past ≤ l.ticket) ls → below ticket ls ≡ []
below-none ticket past [] le all = refl
below-none ticket past (x ∷ ls) le all =
    ap (λ (b : Bool). cond b (x ∷ below ticket ls) (below ticket ls))
    (le-ltb x.ticket ticket (let h = all.0 in omega arith)) ∙ below-none ticket past ls le all.1

below-all : (ticket : ℕ) (ls : List Line) → Each (λ l. l.ticket < ticket) ls → below ticket ls ≡ ls
below-all ticket [] all = refl
below-all ticket (x ∷ ls) all =
    ap (λ (b : Bool). cond b (x ∷ below ticket ls) (below ticket ls)) (lt-ltb x.ticket ticket all.0)
    ∙ ap (λ (z : List Line). x ∷ z) (below-all ticket ls all.1)

-- all of a journal stands below a ticket that is above its own
pub Rises-below : (ticket : ℕ) (ls : List Line) → Rises 0 ls ticket → below ticket ls ≡ ls
Rises-below ticket ls r = below-all ticket ls (Rises-each 0 ls ticket r)

of_caller-none : (caller : ℕ) (ls : List Line) → Each (λ l. l.caller ≢ caller) ls → of_caller caller ls ≡ []
of_caller-none caller [] all = refl
of_caller-none caller (x ∷ ls) all =
    ap (λ (b : Bool). cond b (x ∷ of_caller caller ls) (of_caller caller ls)) (ne_eqb x.caller caller all.0)
    ∙ of_caller-none caller ls all.1

-- the law of what stood below a ticket
pub what_stood_stays : WhatStoodStays
what_stood_stays past ticket before after f le =
    ap (below ticket) f.longer ∙
    (filter-append (λ (l : Line). nat_lt l.ticket ticket) before f.news
    ∙ (ap (λ (z : List Line). below ticket before ++ z) (below-none ticket past f.news le f.later)
    ∙ append-nil (below ticket before)))

-- the law of a caller's own lines where others add
pub others_add_none_of_mine : OthersAddNoneOfMine
others_add_none_of_mine caller past before after g =
    ap (of_caller caller) g.longer ∙
    (filter-append (λ (l : Line). l.caller == caller) before g.news
    ∙ (ap (λ (z : List Line). of_caller caller before ++ z) (of_caller-none caller g.news g.others)
    ∙ append-nil (of_caller caller before)))

abbrev Longer : ℕ → ℕ → List Line → List Line → Type 0
Longer ticket caller before after = (l : Line) × (after ≡ before ++ l ∷ []) × (l.ticket ≡ ticket) × (l.caller ≡ caller)

-- the law of a caller's own lines in its turn
pub a_turn_adds_its_own : ATurnAddsItsOwn
a_turn_adds_its_own ticket caller before after may = ⊎_elim (λ (e : after ≡ before). inl (ap (of_caller caller) e))
    (λ (l : Longer ticket caller before after). inr (
      l.0,
      l.1,
      l.2,
      ap (of_caller caller) l.1 ∙
          (filter-append (λ (x : Line). x.caller == caller) before (l.0 ∷ [])
          ∙ ap (λ (b : Bool). of_caller caller before ++ cond b (l.0 ∷ []) []) (eq-eqb l.0.caller caller l.3)),
    )) may
