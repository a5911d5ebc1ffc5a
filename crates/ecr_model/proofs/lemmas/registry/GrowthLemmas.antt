-- Laws of journals that others make longer, and of tickets that rise.
use Rattle.std.proofs.Common.{◌≡◌, ◌≢◌, ℕ, suc, ◌+◌, ◌<◌, ◌≤◌, List, [], ◌∷◌, ◌++◌, length, refl, sym, ap, ◌∙◌, subst, arith, append_assoc, append-nil}
use Rattle.ecr_model.specs.declared.registry.journal.Line.{Line}
use Rattle.ecr_model.specs.registry.Growth.{Each, Rises, Grows, Follows}

-- where each line has a property and one more has it, all of them have it
pub Each-snoc : (P : Line → Type 0) (ls : List Line) (l : Line) → Each P ls → P l → Each P (ls ++ l ∷ [])
Each-snoc P [] l all p = (p, tt)
Each-snoc P (x ∷ ls) l all p = (all.0, Each-snoc P ls l all.1 p)

-- where the lines of both lists have a property, those of the two joined have it
pub Each-append : (P : Line → Type 0) (xs ys : List Line) → Each P xs → Each P ys → Each P (xs ++ ys)
Each-append P [] ys one other = other
Each-append P (x ∷ xs) ys one other = (one.0, Each-append P xs ys one.1 other)

-- each line has a property that follows from one that each has
pub Each-weaker : (P Q : Line → Type 0) → ((l : Line) → P l → Q l) → (ls : List Line) → Each P ls → Each Q ls
Each-weaker P Q f [] all = tt
Each-weaker P Q f (x ∷ ls) all = (f x all.0, Each-weaker P Q f ls all.1)

-- the lines at the back have the property that all have
pub Each-right : (P : Line → Type 0) (xs ys : List Line) → Each P (xs ++ ys) → Each P ys
Each-right P [] ys all = all
Each-right P (x ∷ xs) ys all = Each-right P xs ys all.1

-- the lines at the front have the property that all have
pub Each-left : (P : Line → Type 0) (us vs : List Line) → Each P (us ++ vs) → Each P us
Each-left P [] vs all = tt
Each-left P (u ∷ us) vs all = (all.0, Each-left P us vs all.1)

-- where each line has two properties, each has both
pub Each-both : (P Q : Line → Type 0) (ls : List Line) → Each P ls → Each Q ls → Each (λ l. P l × Q l) ls
Each-both P Q [] a b = tt
Each-both P Q (x ∷ ls) a b = ((a.0, b.0), Each-both P Q ls a.1 b.1)

-- tickets below a number are below a greater one
pub Rises-higher : (low : ℕ) (ls : List Line) (high more : ℕ) → high ≤ more → Rises low ls high → Rises low ls more
Rises-higher low [] high more le r = omega arith
Rises-higher low (x ∷ ls) high more le r = (r.0, Rises-higher (suc x.ticket) ls high more le r.1)

-- tickets that rise below one more ticket rise with it
pub Rises-snoc : (low : ℕ) (ls : List Line) (l : Line) (high : ℕ) → l.ticket ≡ high → Rises low ls high
    → Rises low (ls ++ l ∷ []) (suc high)
Rises-snoc low [] l high e r = (omega arith, omega arith)
Rises-snoc low (x ∷ ls) l high e r = (r.0, Rises-snoc (suc x.ticket) ls l high e r.1)

-- between the two numbers there is room for each of the lines
pub Rises-length : (low : ℕ) (ls : List Line) (high : ℕ) → Rises low ls high → low + length ls ≤ high
Rises-length low [] high r = omega arith
Rises-length low (x ∷ ls) high r = let h = Rises-length (suc x.ticket) ls high r.1 in let h' = r.0 in omega arith

-- tickets that rise below a number are all below it
pub Rises-each : (low : ℕ) (ls : List Line) (high : ℕ) → Rises low ls high → Each (λ l. l.ticket < high) ls
Rises-each low [] high r = tt
Rises-each low (x ∷ ls) high r =
    (let h = Rises-length (suc x.ticket) ls high r.1 in omega arith, Rises-each (suc x.ticket) ls high r.1)

-- a journal that didn't change has grown by nothing
pub Grows-none : (caller past : ℕ) (log : List Line) → Grows caller past log log
Grows-none caller past log = record { news = []; longer = sym (append-nil log); others = tt; later = tt }

-- a journal that has grown has grown by another caller's next line too
pub Grows-snoc : (caller past : ℕ) (before after : List Line) (l : Line) → Grows caller past before after
    → l.caller ≢ caller → past ≤ l.ticket → Grows caller past before (after ++ l ∷ [])
Grows-snoc caller past before after l g other late = record {
  news = g.news ++ l ∷ [];
  longer = ap (λ (ys : List Line). ys ++ l ∷ []) g.longer ∙ append_assoc before g.news (l ∷ []);
  others = Each-snoc (λ l. l.caller ≢ caller) g.news l g.others other;
  later = Each-snoc (λ l. past ≤ l.ticket) g.news l g.later late;
}

-- a caller of whom no entry stands in the journal
pub Grows-unnamed : (caller past n : ℕ) (before after : List Line) → Grows caller past before after
    → Each (λ l. l.caller ≢ n) after → Grows n past before after
Grows-unnamed caller past n before after g all =
    record {
      news = g.news;
      longer = g.longer;
      others = Each-right (λ l. l.caller ≢ n) before g.news (subst (Each (λ l. l.caller ≢ n)) g.longer all);
      later = g.later;
    }

-- a journal that has grown follows the one before
pub Grows-follows : (caller past : ℕ) (before after : List Line) → Grows caller past before after
    → Follows past before after
Grows-follows caller past before after g = record { news = g.news; longer = g.longer; later = g.later }

at_least_none : (ls : List Line) → Each (λ l. 0 ≤ l.ticket) ls
at_least_none [] = tt
at_least_none (x ∷ ls) = (omega arith, at_least_none ls)

-- every journal follows the empty one
pub Follows-first : (log : List Line) → Follows 0 [] log
Follows-first log = record { news = log; longer = refl; later = at_least_none log }

-- a journal that follows another follows it with one more later line too
pub Follows-snoc : (past : ℕ) (before after : List Line) (l : Line) → Follows past before after → past ≤ l.ticket
    → Follows past before (after ++ l ∷ [])
Follows-snoc past before after l g late = record {
  news = g.news ++ l ∷ [];
  longer = ap (λ (ys : List Line). ys ++ l ∷ []) g.longer ∙ append_assoc before g.news (l ∷ []);
  later = Each-snoc (λ l. past ≤ l.ticket) g.news l g.later late;
}
