-- `is_name` decides `IsName`.
use Rattle.std.proofs.Common.{◌≡◌, ◌∙◌, ◌↔◌, ◌⊎◌, ◌||◌, ◌&&◌, ◌==◌, ◌++◌, ◌∷◌, ℕ, zero, suc, Bool, true, false, cond, List, [], length, replicate, IsTrue, nat_le, refl, sym, ap, subst, inl, inr, arith, append_assoc, append-nil, length-append}
use Rattle.std.specs.List.{list_all}
use Rattle.std.proofs.lemmas.Bool.{and_parts, and_from, or_cases, cond-true, cond-false, ne_eqb, both_ways, eqb-true, false≢true, leb-true, le-leb}
use Rattle.std.proofs.lemmas.List.Folds.{list_all-append}
use Rattle.ecr_model.specs.names.Names.{is_alphanumeric, IsWord, IsJoint, dot, underscore, underscores, dashes, slash, IsJoined, alone, joined, IsName, at_word, after_word, after_underscore, after_dash, is_name}

-- ---- a name passes

after_word-append : (word rest : List ℕ) → IsTrue (list_all is_alphanumeric word)
    → after_word (word ++ rest) ≡ after_word rest
after_word-append [] rest h = refl
after_word-append (c ∷ word) rest h =
    let p = and_parts (is_alphanumeric c) (list_all is_alphanumeric word) h in
    cond-true (is_alphanumeric c) (after_word (word ++ rest)) _ p.0 ∙ after_word-append word rest p.1

at_word-append : (word rest : List ℕ) → IsWord word → at_word (word ++ rest) ≡ after_word rest
at_word-append [] rest h = absurd (omega (arith, h.some))
at_word-append (c ∷ word) rest h =
    let p = and_parts (is_alphanumeric c) (list_all is_alphanumeric word) h.plain in
    ap (λ b. b && after_word (word ++ rest)) p.0 ∙ after_word-append word rest p.1

not_plain : (c d : ℕ) → is_alphanumeric d ≡ false → is_alphanumeric c ≡ true → c ≡ d → ⊥
not_plain c d k h e = both_ways (is_alphanumeric d) k (subst (λ b. is_alphanumeric b ≡ true) e h)

-- a word may begin after a `_`, and after a `-`
after_underscore-at_word : (text : List ℕ) → IsTrue (at_word text) → IsTrue (after_underscore text)
after_underscore-at_word [] h = h
after_underscore-at_word (c ∷ text) h =
    let p = and_parts (is_alphanumeric c) (after_word text) h in
    cond-false (c == 95) (at_word text) _ (ne_eqb c 95 (not_plain c 95 refl p.0)) ∙ h

after_dash-at_word : (text : List ℕ) → IsTrue (at_word text) → IsTrue (after_dash text)
after_dash-at_word [] h = h
after_dash-at_word (c ∷ text) h =
    let p = and_parts (is_alphanumeric c) (after_word text) h in
    cond-false (c == 45) (after_dash text) _ (ne_eqb c 45 (not_plain c 45 refl p.0)) ∙ h

after_dash-dashes : (n : ℕ) (text : List ℕ) → IsTrue (at_word text) → IsTrue (after_dash (replicate n 45 ++ text))
after_dash-dashes zero text h = after_dash-at_word text h
after_dash-dashes (suc n) text h = after_dash-dashes n text h

after_word-joint : {joint : List ℕ} (text : List ℕ) → IsJoint joint → IsTrue (at_word text)
    → IsTrue (after_word (joint ++ text))
after_word-joint text dot h = h
after_word-joint text underscore h = after_underscore-at_word text h
after_word-joint text underscores h = h
after_word-joint text (dashes n) h = after_dash-dashes n text h
after_word-joint text slash h = h

at_word-joined : {text : List ℕ} → IsJoined text → IsTrue (at_word text)
at_word-joined (alone {word} h) = ap at_word (sym (append-nil word)) ∙ at_word-append word [] h
at_word-joined (joined {word} {joint} {rest} h j r) =
    at_word-append word (joint ++ rest) h ∙ after_word-joint rest j (at_word-joined r)

-- ---- what passes is a name

branches : (b x y : Bool) → cond b x y ≡ true → ((b ≡ true) × (x ≡ true)) ⊎ ((b ≡ false) × (y ≡ true))
branches true x y h = inl (refl, h)
branches false x y h = inr (refl, h)

IsWord-one : (c : ℕ) → is_alphanumeric c ≡ true → IsWord (c ∷ [])
IsWord-one c h = record { some = omega arith; plain = and_from (is_alphanumeric c) true h refl }

IsWord-push : (word : List ℕ) (c : ℕ) → IsWord word → is_alphanumeric c ≡ true → IsWord (word ++ c ∷ [])
IsWord-push word c h k = record {
  some = omega (arith, h.some, length-append word (c ∷ []));
  plain = list_all-append is_alphanumeric word (c ∷ [])
      ∙ and_from _ _ h.plain (and_from (is_alphanumeric c) true k refl);
}

IsJoint-one : (c : ℕ) → (c == 46 || c == 47) ≡ true → IsJoint (c ∷ [])
IsJoint-one c h = elim (or_cases (c == 46) (c == 47) h) [
  | inl e ↦ subst (λ b. IsJoint (b ∷ [])) (sym (eqb-true c 46 e)) dot
  | inr e ↦ subst (λ b. IsJoint (b ∷ [])) (sym (eqb-true c 47 e)) slash
]

dash_moves : (n : ℕ) (text : List ℕ) → replicate n 45 ++ (45 ∷ text) ≡ 45 ∷ (replicate n 45 ++ text)
dash_moves zero text = refl
dash_moves (suc n) text = ap (λ l. 45 ∷ l) (dash_moves n text)

mutual
  IsJoined-at_word : (text : List ℕ) → IsTrue (at_word text) → IsJoined text
  IsJoined-at_word [] h = absurd (false≢true h)
  IsJoined-at_word (c ∷ text) h =
      let p = and_parts (is_alphanumeric c) (after_word text) h in
      IsJoined-after_word text (c ∷ []) (IsWord-one c p.0) p.1

  IsJoined-after_word : (text word : List ℕ) → IsWord word → IsTrue (after_word text) → IsJoined (word ++ text)
  IsJoined-after_word [] word w h = subst IsJoined (sym (append-nil word)) (alone w)
  IsJoined-after_word (c ∷ text) word w h = elim (branches (is_alphanumeric c) (after_word text) _ h) [
    | inl e ↦ subst IsJoined (append_assoc word (c ∷ []) text)
        (IsJoined-after_word text (word ++ c ∷ []) (IsWord-push word c w e.0) e.1)
    | inr k ↦ elim (branches (c == 46 || c == 47) (at_word text) _ k.1) [
      | inl e ↦ joined w (IsJoint-one c e.0) (IsJoined-at_word text e.1)
      | inr l ↦ elim (branches (c == 95) (after_underscore text) _ l.1) [
        | inl e ↦ subst (λ b. IsJoined (word ++ b ∷ text)) (sym (eqb-true c 95 e.0))
            (IsJoined-after_underscore text word w e.1)
        | inr m ↦ elim (branches (c == 45) (after_dash text) false m.1) [
          | inl e ↦ subst (λ b. IsJoined (word ++ b ∷ text)) (sym (eqb-true c 45 e.0))
              (IsJoined-after_dash text 0 word w e.1)
          | inr n ↦ absurd (false≢true n.1)
        ]
      ]
    ]
  ]

  IsJoined-after_underscore : (text word : List ℕ) → IsWord word → IsTrue (after_underscore text)
      → IsJoined (word ++ 95 ∷ text)
  IsJoined-after_underscore [] word w h = absurd (false≢true h)
  IsJoined-after_underscore (c ∷ text) word w h = elim (branches (c == 95) (at_word text) _ h) [
    | inl e ↦ subst (λ b. IsJoined (word ++ 95 ∷ b ∷ text)) (sym (eqb-true c 95 e.0))
        (joined w underscores (IsJoined-at_word text e.1))
    | inr k ↦ let p = and_parts (is_alphanumeric c) (after_word text) k.1 in
        joined w underscore (IsJoined-after_word text (c ∷ []) (IsWord-one c p.0) p.1)
  ]

  IsJoined-after_dash : (text : List ℕ) (n : ℕ) (word : List ℕ) → IsWord word → IsTrue (after_dash text)
      → IsJoined (word ++ (replicate (suc n) 45 ++ text))
  IsJoined-after_dash [] n word w h = absurd (false≢true h)
  IsJoined-after_dash (c ∷ text) n word w h = elim (branches (c == 45) (after_dash text) _ h) [
    | inl e ↦ subst (λ b. IsJoined (word ++ (replicate (suc n) 45 ++ b ∷ text))) (sym (eqb-true c 45 e.0))
        (subst (λ l. IsJoined (word ++ l)) (sym (dash_moves (suc n) text))
        (IsJoined-after_dash text (suc n) word w e.1))
    | inr k ↦ let p = and_parts (is_alphanumeric c) (after_word text) k.1 in
        joined w (dashes n) (IsJoined-after_word text (c ∷ []) (IsWord-one c p.0) p.1)
  ]

-- ---- the law

-- the test is true exactly at the names
pub is_name-IsName : (text : List ℕ) → IsTrue (is_name text) ↔ IsName text
unfolding is_name
is_name-IsName text = (there, back)
  where
    there : IsTrue (is_name text) → IsName text
    there h =
        let p = and_parts (nat_le 2 (length text) && nat_le (length text) 256) (at_word text) h in
        let q = and_parts (nat_le 2 (length text)) (nat_le (length text) 256) p.0 in
        record {
          form = IsJoined-at_word text p.1;
          at_least = leb-true 2 (length text) q.0;
          at_most = leb-true (length text) 256 q.1;
        }

    back : IsName text → IsTrue (is_name text)
    back h = and_from _ _ (and_from _ _ (le-leb 2 (length text) h.at_least) (le-leb (length text) 256 h.at_most))
        (at_word-joined h.form)
