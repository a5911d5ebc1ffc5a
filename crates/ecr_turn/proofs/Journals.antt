-- Laws of journals: a journal that may follow, and the longer of two.
use Rattle.std.proofs.Common.{◌≡◌, ◌≢◌, ℕ, ◌+◌, ◌≤◌, true, false, ◌⊎◌, eqb, eq-eqb, ne_eqb, ⊎_elim, inl, inr, List, [], ◌∷◌, ◌++◌, length, refl, sym, ap, ◌∙◌, subst, arith, append-nil, length-append, max}
use Rattle.ecr_model.specs.declared.registry.journal.Line.{Line}
use mathlib.Core.Bool.{not}
use Rattle.ecr_model.specs.registry.Growth.{Each, Grows, Follows}
use Rattle.ecr_turn.specs.Journals.{IsBeginning, MayFollow, longer_of}
use Rattle.ecr_model.proofs.lemmas.registry.GrowthLemmas.{Each-weaker, Each-right, Each-left, Each-both}
use Rattle.ecr_turn.proofs.Views.{off}

-- two numbers are at most c, and so is the greater
pub max_least : (a b c : ℕ) → a ≤ c → b ≤ c → max a b ≤ c
max_least a b c p q = omega arith

-- a number is at most the greater of two
pub max_left : (a b : ℕ) → a ≤ max a b
max_left a b = omega arith

abbrev Longer : ℕ → ℕ → List Line → List Line → Type 0
Longer ticket caller before after = (l : Line) × (after ≡ before ++ l ∷ []) × (l.ticket ≡ ticket) × (l.caller ≡ caller)

-- of a journal that may follow, the number of its entries tells whether it is longer
pub MayFollow-same : (ticket caller entries count : ℕ) (before after : List Line)
    → MayFollow ticket caller before after → entries ≡ length after → count ≡ length before
    → not (eqb entries count) ≡ false → after ≡ before
MayFollow-same ticket caller entries count before after may is was same = ⊎_elim (λ (e : after ≡ before). e)
    (λ (l : Longer ticket caller before after). absurd
    (off (sym same ∙ ap not
    (ne_eqb entries count (differ (is ∙ (ap length l.1 ∙ length-append before (l.0 ∷ []))) was))))) may
  where
    differ : entries ≡ length before + 1 → count ≡ length before → entries ≢ count
    differ a b e = omega arith

-- a journal with another number of entries has the one of its turn
pub MayFollow-longer : (ticket caller entries count : ℕ) (before after : List Line)
    → MayFollow ticket caller before after → entries ≡ length after → count ≡ length before
    → not (eqb entries count) ≡ true → Longer ticket caller before after
MayFollow-longer ticket caller entries count before after may is was grown =
    ⊎_elim (λ (e : after ≡ before). absurd
    (off (sym (ap not (eq-eqb entries count (is ∙ (ap length e ∙ sym was)))) ∙ grown)))
    (λ (l : Longer ticket caller before after). l) may

-- no journal is longer than the empty one is
pub longer_of-nil : (xs : List Line) → longer_of xs [] ≡ xs
longer_of-nil [] = refl
longer_of-nil (x ∷ xs) = refl

-- of a journal and a beginning of it the former is longer
pub longer_of-grows : (xs news : List Line) → longer_of xs (xs ++ news) ≡ xs ++ news
longer_of-grows [] news = refl
longer_of-grows (x ∷ xs) news = ap (λ (z : List Line). x ∷ z) (longer_of-grows xs news)

longer_of-longer : (ys news : List Line) → longer_of (ys ++ news) ys ≡ ys ++ news
longer_of-longer [] news = longer_of-nil news
longer_of-longer (y ∷ ys) news = ap (λ (z : List Line). y ∷ z) (longer_of-longer ys news)

-- a beginning of a journal adds nothing to it
pub longer_of-keeps : (xs ys news : List Line) → xs ≡ ys ++ news → longer_of xs ys ≡ xs
longer_of-keeps xs ys news e = ap (λ (z : List Line). longer_of z ys) e ∙ (longer_of-longer ys news ∙ sym e)

-- of two beginnings of one journal one is a beginning of the other
pub ordered : (xs as_ ys bs : List Line) → xs ++ as_ ≡ ys ++ bs → IsBeginning xs ys ⊎ IsBeginning ys xs
ordered [] as_ ys bs e = inl (ys, refl)
ordered (x ∷ xs) as_ [] bs e = inr (x ∷ xs, refl)
ordered (x ∷ xs) as_ (y ∷ ys) bs e =
    ⊎_elim (λ (h : IsBeginning xs ys). inl (h.0, λ i. heads y x (ys ++ bs) (xs ++ as_) (sym e) i ∷ h.1 i))
    (λ (h : IsBeginning ys xs). inr (h.0, λ i. heads x y (xs ++ as_) (ys ++ bs) e i ∷ h.1 i))
    (ordered xs as_ ys bs (tails x y (xs ++ as_) (ys ++ bs) e))
  where
    tails : (a b : Line) (us vs : List Line) → (a ∷ us) ≡ (b ∷ vs) → us ≡ vs
    tails a b us vs e = cc

    heads : (a b : Line) (us vs : List Line) → (a ∷ us) ≡ (b ∷ vs) → a ≡ b
    heads a b us vs e = cc

-- two beginnings of one journal: the longer one is a beginning too
pub longer_of-splits : (P Q : Line → Type 0) (xs as_ ys bs : List Line) → xs ++ as_ ≡ ys ++ bs → Each P as_ → Each Q bs
    → (news : List Line) × (xs ++ as_ ≡ longer_of xs ys ++ news) × Each P news × Each Q news
longer_of-splits P Q [] as_ ys bs e p q = (bs, e, Each-right P ys bs (subst (Each P) e p), q)
longer_of-splits P Q (x ∷ xs) as_ [] bs e p q = (as_, refl, p, Each-right Q (x ∷ xs) as_ (subst (Each Q) (sym e) q))
longer_of-splits P Q (x ∷ xs) as_ (y ∷ ys) bs e p q =
    let r = longer_of-splits P Q xs as_ ys bs (tails x y (xs ++ as_) (ys ++ bs) e) p q in
    (r.0, ap (λ (z : List Line). x ∷ z) r.1, r.2, r.3)
  where
    tails : (a b : Line) (us vs : List Line) → (a ∷ us) ≡ (b ∷ vs) → us ≡ vs
    tails a b us vs e = cc

-- what the longer of two has beyond each
pub longer_of-left : (xs as_ ys bs : List Line) → xs ++ as_ ≡ ys ++ bs → (P : Line → Type 0) → Each P as_
    → (news : List Line) × (longer_of xs ys ≡ xs ++ news) × Each P news
longer_of-left [] as_ ys bs e P p = (ys, refl, Each-left P ys bs (subst (Each P) e p))
longer_of-left (x ∷ xs) as_ [] bs e P p = ([], ap (λ (z : List Line). x ∷ z) (sym (append-nil xs)), tt)
longer_of-left (x ∷ xs) as_ (y ∷ ys) bs e P p =
    let r = longer_of-left xs as_ ys bs (tails x y (xs ++ as_) (ys ++ bs) e) P p in
    (r.0, ap (λ (z : List Line). x ∷ z) r.1, r.2)
  where
    tails : (a b : Line) (us vs : List Line) → (a ∷ us) ≡ (b ∷ vs) → us ≡ vs
    tails a b us vs e = cc

longer_of-right : (xs as_ ys bs : List Line) → xs ++ as_ ≡ ys ++ bs → (Q : Line → Type 0) → Each Q bs
    → (news : List Line) × (longer_of xs ys ≡ ys ++ news) × Each Q news
longer_of-right [] as_ ys bs e Q q = ([], sym (append-nil ys), tt)
longer_of-right (x ∷ xs) as_ [] bs e Q q = (x ∷ xs, refl, Each-left Q (x ∷ xs) as_ (subst (Each Q) (sym e) q))
longer_of-right (x ∷ xs) as_ (y ∷ ys) bs e Q q =
    let r = longer_of-right xs as_ ys bs (tails x y (xs ++ as_) (ys ++ bs) e) Q q in
    (r.0, (λ i. heads x y (xs ++ as_) (ys ++ bs) e i ∷ r.1 i), r.2)
  where
    tails : (a b : Line) (us vs : List Line) → (a ∷ us) ≡ (b ∷ vs) → us ≡ vs
    tails a b us vs e = cc

    heads : (a b : Line) (us vs : List Line) → (a ∷ us) ≡ (b ∷ vs) → a ≡ b
    heads a b us vs e = cc

-- what is said of the longer of two beginnings, beside the journal
module _ (caller past other : ℕ) (seen ls log : List Line) (g : Grows caller past seen log)
    (f : Follows other ls log) where
  together : seen ++ g.news ≡ ls ++ f.news
  together = sym g.longer ∙ f.longer

  abbrev Mine : Line → Type 0
  Mine l = (l.caller ≢ caller) × (past ≤ l.ticket)

  mine : Each Mine g.news
  mine = Each-both (λ l. l.caller ≢ caller) (λ l. past ≤ l.ticket) g.news g.others g.later

  -- what a joined pass had seen has no entry of the caller that is new to it
  pub Grows-longer_of : Grows caller past seen (longer_of seen ls)
  Grows-longer_of = let r = longer_of-left seen g.news ls f.news together Mine mine in record {
    news = r.0;
    longer = r.1;
    others = Each-weaker Mine (λ l. l.caller ≢ caller) (λ l p. p.0) r.0 r.2;
    later = Each-weaker Mine (λ l. past ≤ l.ticket) (λ l p. p.1) r.0 r.2;
  }

  -- the longer journal follows what the joined pass had seen
  pub Follows-longer_of : Follows other ls (longer_of seen ls)
  Follows-longer_of = let r =
      longer_of-right seen g.news ls f.news together
      (λ l. other ≤ l.ticket) f.later in record { news = r.0; longer = r.1; later = r.2 }

  -- the journal grows from what both passes had seen
  pub Grows-merged : Grows caller (max past other) (longer_of seen ls) log
  Grows-merged = let r = longer_of-splits Mine
      (λ l. other ≤ l.ticket) seen g.news ls f.news together mine f.later in record {
        news = r.0;
        longer = g.longer ∙ r.1;
        others = Each-weaker Mine (λ l. l.caller ≢ caller) (λ l p. p.0) r.0 r.2;
        later = Each-weaker (λ l. Mine l × (other ≤ l.ticket)) (λ l. max past other ≤ l.ticket)
            (λ l p. max_least past other l.ticket p.0.1 p.1) r.0 (Each-both Mine (λ l. other ≤ l.ticket) r.0 r.2 r.3);
      }
