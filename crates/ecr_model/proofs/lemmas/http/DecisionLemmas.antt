-- Whether bytes begin with a request's head, or with a chunk's line, is decided.
use Rattle.std.proofs.Common.{◌≡◌, ℕ, zero, suc, ◌<◌, ◌≤◌, Bool, true, false, List, [], ◌∷◌, ◌++◌, length, Option, Some, None, ◌⊎◌, inl, inr, ⊎_elim, refl, sym, ap, ◌∙◌, subst, arith, append_assoc, length-append}
use Rattle.std.specs.Prelude.{IsUtf8}
use Rattle.std.specs.Char.{is_ascii_hexdigit}
use Rattle.std.specs.Str.{is_utf8}
use Rattle.std.proofs.lemmas.Bool.{both_ways, cases_eq, cases_lt}
use Rattle.std.proofs.lemmas.List.Elements.{All-cons, All-nil, All-head, All-tail}
use Rattle.std.proofs.lemmas.Str.{IsUtf8-from_is_utf8, is_utf8-from_IsUtf8}
use Rattle.httparse.specs.Grammar.{is_token_byte, is_uri_byte, is_value_byte, is_ows, is_extension_byte, AllPass, LineEnd, crlf, lf, print_end, print_blank, print_version, Field, print_field, IsField}
use Rattle.httparse.specs.Pieces.{Piece, Begins, Then, Stops, is_newline, Newline, Blank, Word, Method, Target, Version, Text, FieldLine, Section, RequestStart, Run, HexDigits, Extension, Chunk}
use Rattle.httparse.proofs.RunLemmas.{run_unique}
use Rattle.httparse.proofs.PieceLemmas.{IsDeterministic, print_end_unique, newline_not_stopped, space_ends_token, colon_ends_token, Blank_deterministic, Word_deterministic, Method_deterministic, Target_deterministic, Version_deterministic, Name_deterministic, RequestStart_deterministic, FieldLine_parts, FieldLines_push, print_field-append, Section_skip, Section_line}
use Rattle.httparse.proofs.ReadLemmas.{FieldLine_done}
use Rattle.httparse.proofs.ChunkLemmas.{Run_deterministic, HexDigits_deterministic}

-- each text begins with the piece, or it doesn't
pub record IsDecided {A : Type 0} (G : Piece A) : Type 0 where
  pub decide : (text : List ℕ) → Begins G text ⊎ ¬ (Begins G text)

-- what holds of a text where it holds of all shorter ones holds of each
pub by_length : (P : List ℕ → Type 0)
    → ((text : List ℕ) → ((rest : List ℕ) → length rest < length text → P rest) → P text)
    → (n : ℕ) (text : List ℕ) → length text ≤ n → P text
by_length P step zero text few = step text (λ rest less. absurd (omega arith))
by_length P step (suc n) text few = step text (λ rest less. by_length P step n rest (omega arith))

-- one piece and then another
pub Then_decided : {A B : Type 0} {G : Piece A} {H : Piece B} → IsDeterministic G → IsDecided G → IsDecided H
    → IsDecided (Then G H)
Then_decided {A} {B} {G} {H} det first next = record { decide = λ text. front text (first.decide text) }
  where
    behind : (text : List ℕ) (x : Begins G text) → Begins H x.1 ⊎ ¬ (Begins H x.1)
        → Begins (Then G H) text ⊎ ¬ (Begins (Then G H) text)
    behind text x (inl y) = inl ((x.0, y.0), y.1, (x.1, x.2, y.2))
    behind text x (inr none) = inr λ z.
        none (
          z.0.1,
          z.1,
          subst (λ (m : List ℕ). H z.0.1 m z.1)
              (det.unique z.0.0 x.0 text z.2.0 x.1 z.2.1 x.2).1 z.2.2,
        )

    front : (text : List ℕ) → Begins G text ⊎ ¬ (Begins G text) → Begins (Then G H) text ⊎ ¬ (Begins (Then G H) text)
    front text (inl x) = behind text x (next.decide x.1)
    front text (inr none) = inr (λ z. none (z.0.0, z.2.0, z.2.1))

-- ---- fixed bytes, line ends and versions

-- the text begins with these bytes
abbrev pub Starts : List ℕ → List ℕ → Type 0
Starts bytes text = (rest : List ℕ) × (text ≡ bytes ++ rest)

starts : (bytes text : List ℕ) → Starts bytes text ⊎ ¬ (Starts bytes text)
starts [] text = inl (text, refl)
starts (b ∷ bytes) [] = inr (λ z. cc (z.1))
starts (b ∷ bytes) (c ∷ text) = by (cases_eq c b) (starts bytes text)
  where
    by : (c ≡ b) ⊎ (c ≡ b → ⊥) → Starts bytes text ⊎ ¬ (Starts bytes text)
        → Starts (b ∷ bytes) (c ∷ text) ⊎ ¬ (Starts (b ∷ bytes) (c ∷ text))
    by (inl same) (inl x) = inl (x.0, cc (x.1))
    by (inl same) (inr none) = inr (λ z. none (z.0, cc (z.1)))
    by (inr other) y = inr (λ z. other (cc (z.1)))

newline : (text : List ℕ) → Begins Newline text ⊎ ¬ (Begins Newline text)
newline text = by (starts (print_end crlf) text) (starts (print_end lf) text)
  where
    neither : ¬ (Starts (print_end crlf) text) → ¬ (Starts (print_end lf) text) → (e : LineEnd) (rest : List ℕ)
        → Newline e text rest → ⊥
    neither a b crlf rest is = a (rest, is)
    neither a b lf rest is = b (rest, is)

    by : Starts (print_end crlf) text ⊎ ¬ (Starts (print_end crlf) text)
        → Starts (print_end lf) text ⊎ ¬ (Starts (print_end lf) text) → Begins Newline text ⊎ ¬ (Begins Newline text)
    by (inl x) y = inl (crlf, x.0, x.1)
    by (inr a) (inl y) = inl (lf, y.0, y.1)
    by (inr a) (inr b) = inr (λ z. neither a b z.0 z.1 z.2)

-- whether a text begins with a line's end is decided
pub Newline_decided : IsDecided Newline
Newline_decided = record { decide = newline }

version : (text : List ℕ) → Begins Version text ⊎ ¬ (Begins Version text)
version text = by (starts (print_version 0) text) (starts (print_version 1) text)
  where
    neither : ¬ (Starts (print_version 0) text) → ¬ (Starts (print_version 1) text) → (minor : ℕ) (rest : List ℕ)
        → minor ≤ 1 → text ≡ print_version minor ++ rest → ⊥
    neither a b zero rest few is = a (rest, is)
    neither a b (suc zero) rest few is = b (rest, is)
    neither a b (suc (suc k)) rest few is = omega arith

    by : Starts (print_version 0) text ⊎ ¬ (Starts (print_version 0) text)
        → Starts (print_version 1) text ⊎ ¬ (Starts (print_version 1) text) → Begins Version text
        ⊎ ¬ (Begins Version text)
    by (inl x) y = inl (0, x.0, (omega arith, x.1))
    by (inr a) (inl y) = inl (1, y.0, (omega arith, y.1))
    by (inr a) (inr b) = inr (λ z. neither a b z.0 z.1 z.2.0 z.2.1)

-- whether a text begins with a version is decided
pub Version_decided : IsDecided Version
Version_decided = record { decide = version }

-- ---- empty lines

-- behind a line's end fewer bytes are left
pub newline_shortens : (e : LineEnd) (text rest : List ℕ) → text ≡ print_end e ++ rest → length rest < length text
newline_shortens crlf text rest is = omega (arith, ap length is)
newline_shortens lf text rest is = omega (arith, ap length is)

-- a first byte that fails the test stands there, or doesn't
stops_or : (test : ℕ → Bool) (text : List ℕ) → Stops test text ⊎ ¬ (Stops test text)
stops_or test [] = inr (λ z. z)
stops_or test (b ∷ text) = by (test b) refl
  where
    by : (t : Bool) → test b ≡ t → (test b ≡ false) ⊎ ¬ (test b ≡ false)
    by true passes = inr (λ fails. both_ways (test b) fails passes)
    by false fails = inl fails

blank_step : (text : List ℕ) →
    ((rest : List ℕ) → length rest < length text → Begins Blank rest ⊎ ¬ (Begins Blank rest))
    → Begins Blank text ⊎ ¬ (Begins Blank text)
blank_step text shorter = by (newline text)
  where
    other_rest : (e : LineEnd) (rest : List ℕ) → text ≡ print_end e ++ rest → ¬ (Begins Blank rest)
        → (hs : List LineEnd) (end : List ℕ) → text ≡ print_blank hs ++ end → Stops is_newline end → ⊥
    other_rest e rest is none [] end whole stops = newline_not_stopped e rest end (sym is ∙ whole) stops
    other_rest e rest is none (x ∷ hs) end whole stops =
        let same = print_end_unique x e (print_blank hs ++ end) rest
        (sym (append_assoc (print_end x) (print_blank hs) end) ∙ sym whole ∙ is) in
        none (hs, end, (sym same.1, stops))

    behind : (e : LineEnd) (rest : List ℕ) → text ≡ print_end e ++ rest → Begins Blank rest ⊎ ¬ (Begins Blank rest)
        → Begins Blank text ⊎ ¬ (Begins Blank text)
    behind e rest is (inl x) = inl (
      e ∷ x.0,
      x.1,
      (
        is ∙ ap (λ (t : List ℕ). print_end e ++ t) x.2.0
            ∙ sym (append_assoc (print_end e) (print_blank x.0) x.1),
        x.2.1,
      ),
    )
    behind e rest is (inr none) = inr (λ z. other_rest e rest is none z.0 z.1 z.2.0 z.2.1)

    no_line : ¬ (Begins Newline text) → (hs : List LineEnd) (end : List ℕ) → text ≡ print_blank hs ++ end
        → Stops is_newline end → Stops is_newline text
    no_line none [] end whole stops = subst (Stops is_newline) (sym whole) stops
    no_line none (x ∷ hs) end whole stops =
        absurd (none (x, print_blank hs ++ end, whole ∙ append_assoc (print_end x) (print_blank hs) end))

    by : Begins Newline text ⊎ ¬ (Begins Newline text) → Begins Blank text ⊎ ¬ (Begins Blank text)
    by (inl x) = behind x.0 x.1 x.2 (shorter x.1 (newline_shortens x.0 text x.1 x.2))
    by (inr none) = ⊎_elim
        (λ (stops : Stops is_newline text). inl ([], text, (refl, stops)))
        (λ (goes : ¬ (Stops is_newline text)). inr (λ z. goes (no_line none z.0 z.1 z.2.0 z.2.1)))
        (stops_or is_newline text)

-- whether a text begins with blank lines is decided
pub Blank_decided : IsDecided Blank
Blank_decided = record {
  decide = λ text. by_length (λ t. Begins Blank t ⊎ ¬ (Begins Blank t)) blank_step (length text) text (omega arith);
}

-- ---- words and texts

-- bytes that pass the test, if any, and the byte stop
abbrev Loose : (ℕ → Bool) → ℕ → Piece (List ℕ)
Loose test stop word text rest = AllPass test word × (text ≡ word ++ stop ∷ rest)

loose : (test : ℕ → Bool) (stop : ℕ) → test stop ≡ false → (text : List ℕ)
    → Begins (Loose test stop) text ⊎ ¬ (Begins (Loose test stop) text)
loose test stop fails [] = inr (λ z. nothing z.0 z.1 z.2.1)
  where
    nothing : (w rest : List ℕ) → [] ≡ w ++ stop ∷ rest → ⊥
    nothing [] rest is = cc
    nothing (x ∷ w) rest is = cc
loose test stop fails (b ∷ text) = by (test b) refl (cases_eq b stop) (loose test stop fails text)
  where
    tail : test b ≡ true → ¬ (Begins (Loose test stop) text) → (w rest : List ℕ) → AllPass test w
        → b ∷ text ≡ w ++ stop ∷ rest → ⊥
    tail passes none [] rest all is = let same : b ≡ stop = cc in both_ways (test b) (ap test same ∙ fails) passes
    tail passes none (x ∷ w) rest all is = none (w, rest, (All-tail (λ v. test v ≡ true) x w all, cc))

    head : test b ≡ false → ¬ (b ≡ stop) → (w rest : List ℕ) → AllPass test w → b ∷ text ≡ w ++ stop ∷ rest → ⊥
    head fails_here other [] rest all is = other (cc)
    head fails_here other (x ∷ w) rest all is =
        let same : b ≡ x = cc in
        both_ways (test b) fails_here (ap test same ∙ All-head (λ v. test v ≡ true) x w all)

    by : (t : Bool) → test b ≡ t → (b ≡ stop) ⊎ (b ≡ stop → ⊥)
        → Begins (Loose test stop) text ⊎ ¬ (Begins (Loose test stop) text)
        → Begins (Loose test stop) (b ∷ text) ⊎ ¬ (Begins (Loose test stop) (b ∷ text))
    by true passes same (inl x) = inl (
      b ∷ x.0,
      x.1,
      (All-cons (λ v. test v ≡ true) b x.0 passes x.2.0, ap (λ (t : List ℕ). b ∷ t) x.2.1),
    )
    by true passes same (inr none) = inr (λ z. tail passes none z.0 z.1 z.2.0 z.2.1)
    by false stops (inl same) y = inl ([], text, (All-nil (λ v. test v ≡ true), ap (λ (c : ℕ). c ∷ text) same))
    by false stops (inr other) y = inr (λ z. head stops other z.0 z.1 z.2.0 z.2.1)

word : (test : ℕ → Bool) (stop : ℕ) → test stop ≡ false → (text : List ℕ)
    → Begins (Word test stop) text ⊎ ¬ (Begins (Word test stop) text)
word test stop fails text = by (loose test stop fails text)
  where
    some : (w rest : List ℕ) → AllPass test w → text ≡ w ++ stop ∷ rest
        → Begins (Word test stop) text ⊎ ¬ (Begins (Word test stop) text)
    some [] rest all is = inr λ z.
        let same = run_unique test z.0 [] (stop ∷ z.1) (stop ∷ rest) z.2.1 all fails fails (sym z.2.2 ∙ is) in
        omega (arith, z.2.0, ap length same.0)
    some (c ∷ w) rest all is = inl (c ∷ w, rest, (omega arith, all, is))

    by : Begins (Loose test stop) text ⊎ ¬ (Begins (Loose test stop) text)
        → Begins (Word test stop) text ⊎ ¬ (Begins (Word test stop) text)
    by (inl x) = some x.0 x.1 x.2.0 x.2.1
    by (inr none) = inr (λ z. none (z.0, z.1, (z.2.1, z.2.2)))

-- whether a text begins with a word and the byte that stops it is decided
pub Word_decided : (test : ℕ → Bool) (stop : ℕ) → test stop ≡ false → IsDecided (Word test stop)
Word_decided test stop fails = record { decide = word test stop fails }

-- whether a text begins with a method is decided
pub Method_decided : IsDecided Method
Method_decided = record { decide = word is_token_byte 32 space_ends_token }

target : (text : List ℕ) → Begins Target text ⊎ ¬ (Begins Target text)
target text = by (word is_uri_byte 32 refl text)
  where
    read : (x : Begins (Word is_uri_byte 32) text) (t : Bool) → is_utf8 x.0 ≡ t → Begins Target text
        ⊎ ¬ (Begins Target text)
    read x true is = inl (x.0, x.1, (x.2, IsUtf8-from_is_utf8 x.0 is))
    read x false not_text = inr λ z.
        let same = (Word_deterministic is_uri_byte 32 refl).unique z.0 x.0 text z.1 x.1 z.2.0 x.2 in
        both_ways (is_utf8 x.0) not_text (is_utf8-from_IsUtf8 x.0 (subst IsUtf8 same.0 z.2.1))

    by : Begins (Word is_uri_byte 32) text ⊎ ¬ (Begins (Word is_uri_byte 32) text) → Begins Target text
        ⊎ ¬ (Begins Target text)
    by (inl x) = read x (is_utf8 x.0) refl
    by (inr none) = inr (λ z. none (z.0, z.1, z.2.0))

-- whether a text begins with a target is decided
pub Target_decided : IsDecided Target
Target_decided = record { decide = target }

value_text : (text : List ℕ) → Begins Text text ⊎ ¬ (Begins Text text)
value_text [] = inr (λ z. nothing z.0.0 z.0.1 z.1 z.2.1)
  where
    nothing : (w : List ℕ) (e : LineEnd) (rest : List ℕ) → [] ≡ w ++ (print_end e ++ rest) → ⊥
    nothing [] crlf rest is = cc
    nothing [] lf rest is = cc
    nothing (x ∷ w) e rest is = cc
value_text (b ∷ text) = by (newline (b ∷ text)) (is_value_byte b) refl (value_text text)
  where
    none_at : ¬ (Begins Newline (b ∷ text)) → (is_value_byte b ≡ true → ¬ (Begins Text text))
        → (w : List ℕ) (e : LineEnd) (rest : List ℕ) → AllPass is_value_byte w → b ∷ text ≡ w ++ (print_end e ++ rest)
        → ⊥
    none_at no_end later [] e rest all is = no_end (e, rest, is)
    none_at no_end later (x ∷ w) e rest all is =
        let same : b ≡ x = cc in
        let passes : is_value_byte b ≡ true = ap is_value_byte same ∙ All-head (λ v. is_value_byte v ≡ true) x w all in
        later passes ((w, e), rest, (All-tail (λ v. is_value_byte v ≡ true) x w all, cc))

    by : Begins Newline (b ∷ text) ⊎ ¬ (Begins Newline (b ∷ text)) → (t : Bool) → is_value_byte b ≡ t
        → Begins Text text ⊎ ¬ (Begins Text text) → Begins Text (b ∷ text) ⊎ ¬ (Begins Text (b ∷ text))
    by (inl x) t is y = inl (([], x.0), x.1, (All-nil (λ v. is_value_byte v ≡ true), x.2))
    by (inr no_end) true passes (inl y) = inl (
      (b ∷ y.0.0, y.0.1),
      y.1,
      (All-cons (λ v. is_value_byte v ≡ true) b y.0.0 passes y.2.0, ap (λ (t : List ℕ). b ∷ t) y.2.1),
    )
    by (inr no_end) true passes (inr none) = inr (λ z. none_at no_end (λ _. none) z.0.0 z.0.1 z.1 z.2.0 z.2.1)
    by (inr no_end) false fails y = inr λ z.
        none_at no_end (λ passes. absurd (both_ways (is_value_byte b) fails passes)) z.0.0 z.0.1 z.1 z.2.0 z.2.1

-- whether a text begins with a field's value is decided
pub Text_decided : IsDecided Text
Text_decided = record { decide = value_text }

-- ---- field lines and sections

field_line : (text : List ℕ) → Begins FieldLine text ⊎ ¬ (Begins FieldLine text)
field_line text =
    by ((Then_decided Name_deterministic (Word_decided is_token_byte 58 colon_ends_token) Text_decided).decide text)
  where
    by : Begins (Then (Word is_token_byte 58) Text) text ⊎ ¬ (Begins (Then (Word is_token_byte 58) Text) text)
        → Begins FieldLine text ⊎ ¬ (Begins FieldLine text)
    by (inl x) = inl (
      record { name = x.0.0; raw = x.0.1.0; end = x.0.1.1 },
      x.1,
      FieldLine_done x.0.0 x.0.1.0 x.0.1.1 text x.2.0 x.1 x.2.1 x.2.2,
    )
    by (inr none) = inr (λ z. none ((z.0.name, (z.0.raw, z.0.end)), z.1, FieldLine_parts z.0 text z.1 z.2))

field_shortens : (f : Field) (text rest : List ℕ) → text ≡ print_field f ++ rest → length rest < length text
field_shortens f text rest is =
    let behind : List ℕ = f.raw ++ (print_end f.end ++ rest) in
    omega (
      arith,
      ap length (is ∙ print_field-append f rest),
      length-append f.name (58 ∷ behind),
      length-append f.raw (print_end f.end ++ rest),
      length-append (print_end f.end) rest,
    )

regrouped : (p f l r : List ℕ) → p ++ ((f ++ l) ++ r) ≡ ((p ++ f) ++ l) ++ r
regrouped p f l r = simp append_assoc

section_step : (text : List ℕ)
    → ((rest : List ℕ) → length rest < length text → Begins Section rest ⊎ ¬ (Begins Section rest))
    → Begins Section text ⊎ ¬ (Begins Section text)
section_step text shorter = by (newline text) (field_line text)
  where
    line : (f : Field) (middle : List ℕ) → FieldLine f text middle → Begins Section middle ⊎ ¬ (Begins Section middle)
        → Begins Section text ⊎ ¬ (Begins Section text)
    line f middle is (inl x) = inl (
      (f ∷ x.0.0, x.0.1),
      x.1,
      (
        All-cons IsField f x.0.0 is.0 x.2.0,
        is.1 ∙ ap (λ (t : List ℕ). print_field f ++ t) x.2.1 ∙ regrouped (print_field f) _ (print_end x.0.1) x.1,
      ),
    )
    line f middle is (inr none) = inr λ z.
        let skipped = Section_skip (f ∷ []) z.0.0 z.0.1 text middle z.1
        (FieldLines_push [] f text text middle (All-nil IsField, refl) is) z.2 in
        none ((skipped.0, z.0.1), z.1, skipped.2)

    by : Begins Newline text ⊎ ¬ (Begins Newline text) → Begins FieldLine text ⊎ ¬ (Begins FieldLine text)
        → Begins Section text ⊎ ¬ (Begins Section text)
    by (inl x) y = inl (([], x.0), x.1, (All-nil IsField, x.2))
    by (inr no_end) (inl y) = line y.0 y.1 y.2 (shorter y.1 (field_shortens y.0 text y.1 y.2.1))
    by (inr no_end) (inr no_field) = inr (λ z. ⊎_elim no_end no_field (Section_line z.0 text z.1 z.2))

-- whether a text begins with a section of fields is decided
pub Section_decided : IsDecided Section
Section_decided = record {
  decide = λ text. by_length (λ t. Begins Section t ⊎ ¬ (Begins Section t)) section_step (length text) text
      (omega arith);
}

-- ---- a request's head

-- bytes begin with a request's head, or they don't
pub RequestHead_decided : IsDecided (Then RequestStart Section)
RequestHead_decided =
    Then_decided RequestStart_deterministic
    (Then_decided Blank_deterministic Blank_decided
    (Then_decided Method_deterministic Method_decided
    (Then_decided Target_deterministic Target_decided
    (Then_decided Version_deterministic Version_decided Newline_decided))))
    Section_decided

-- ---- a chunk's line

run : (test : ℕ → Bool) (text : List ℕ) → Begins (Run test) text ⊎ ¬ (Begins (Run test) text)
run test [] = inr (λ z. nothing z.0 z.1 z.2.1 z.2.2)
  where
    nothing : (w rest : List ℕ) → [] ≡ w ++ rest → Stops test rest → ⊥
    nothing [] rest is stops = subst (Stops test) (sym is) stops
    nothing (x ∷ w) rest is stops = cc
run test (b ∷ text) = by (test b) refl (run test text)
  where
    tail : test b ≡ true → ¬ (Begins (Run test) text) → (w rest : List ℕ) → AllPass test w → b ∷ text ≡ w ++ rest
        → Stops test rest → ⊥
    tail passes none [] rest all is stops =
        let fails : test b ≡ false = subst (Stops test) (sym is) stops in both_ways (test b) fails passes
    tail passes none (x ∷ w) rest all is stops = none (w, rest, (All-tail (λ v. test v ≡ true) x w all, cc, stops))

    by : (t : Bool) → test b ≡ t → Begins (Run test) text ⊎ ¬ (Begins (Run test) text)
        → Begins (Run test) (b ∷ text) ⊎ ¬ (Begins (Run test) (b ∷ text))
    by true passes (inl x) = inl (
      b ∷ x.0,
      x.1,
      (All-cons (λ v. test v ≡ true) b x.0 passes x.2.0, ap (λ (t : List ℕ). b ∷ t) x.2.1, x.2.2),
    )
    by true passes (inr none) = inr (λ z. tail passes none z.0 z.1 z.2.0 z.2.1 z.2.2)
    by false fails y = inl ([], b ∷ text, (All-nil (λ v. test v ≡ true), refl, fails))

digits : (text : List ℕ) → Begins HexDigits text ⊎ ¬ (Begins HexDigits text)
digits text = by (run is_ascii_hexdigit text)
  where
    few : (x : Begins (Run is_ascii_hexdigit) text) → (0 < length x.0) ⊎ (length x.0 ≤ 0)
        → (16 < length x.0) ⊎ (length x.0 ≤ 16) → Begins HexDigits text ⊎ ¬ (Begins HexDigits text)
    few x (inl some) (inr most) = inl (x.0, x.1, (x.2, some, most))
    few x (inl some) (inl many) = inr λ z.
        let same = (Run_deterministic is_ascii_hexdigit).unique z.0 x.0 text z.1 x.1 z.2.0 x.2 in
        omega (arith, z.2.2, ap length same.0)
    few x (inr empty) y = inr λ z.
        let same = (Run_deterministic is_ascii_hexdigit).unique z.0 x.0 text z.1 x.1 z.2.0 x.2 in
        omega (arith, z.2.1, ap length same.0)

    by : Begins (Run is_ascii_hexdigit) text ⊎ ¬ (Begins (Run is_ascii_hexdigit) text)
        → Begins HexDigits text ⊎ ¬ (Begins HexDigits text)
    by (inl x) = few x (cases_lt 0 (length x.0)) (cases_lt 16 (length x.0))
    by (inr none) = inr (λ z. none (z.0, z.1, z.2.0))

extension : (text : List ℕ) → Begins Extension text ⊎ ¬ (Begins Extension text)
extension text = by (starts (print_end crlf) text) (starts (59 ∷ []) text)
  where
    -- behind the semicolon
    neither : ¬ (Starts (print_end crlf) text)
        → ((x : List ℕ) (rest : List ℕ) → AllPass is_extension_byte x → text ≡ 59 ∷ (x ++ (13 ∷ 10 ∷ rest)) → ⊥)
        → (e : Option (List ℕ)) (rest : List ℕ) → Extension e text rest → ⊥
    neither no_end none None rest is = no_end (rest, is.1)
    neither no_end none (Some x) rest is = none x rest is.0 is.1

    ended : ¬ (Starts (print_end crlf) text) → (t : List ℕ) → text ≡ 59 ∷ t → (w r : List ℕ)
        → AllPass is_extension_byte w
        → t ≡ w ++ 13 ∷ r → Starts (10 ∷ []) r ⊎ ¬ (Starts (10 ∷ []) r) → Begins Extension text
        ⊎ ¬ (Begins Extension text)
    ended no_end t first w r all is (inl x) = inl (
      Some w,
      x.0,
      (all, first ∙ ap (λ (u : List ℕ). 59 ∷ u) is ∙ ap (λ (u : List ℕ). 59 ∷ (w ++ 13 ∷ u)) x.1),
    )
    ended no_end t first w r all is (inr none) = inr λ z. neither no_end
        (λ x rest passes whole.
        let same = run_unique is_extension_byte w x (13 ∷ r) (13 ∷ 10 ∷ rest) all passes refl refl (cc) in
        none (rest, cc (same.1)))
        z.0 z.1 z.2

    behind : ¬ (Starts (print_end crlf) text) → (t : List ℕ) → text ≡ 59 ∷ t
        → Begins (Loose is_extension_byte 13) t ⊎ ¬ (Begins (Loose is_extension_byte 13) t)
        → Begins Extension text ⊎ ¬ (Begins Extension text)
    behind no_end t first (inl x) = ended no_end t first x.0 x.1 x.2.0 x.2.1 (starts (10 ∷ []) x.1)
    behind no_end t first (inr none) = inr λ z. neither no_end
        (λ x rest passes whole. none (x, 10 ∷ rest, (passes, cc))) z.0 z.1 z.2

    by : Starts (print_end crlf) text ⊎ ¬ (Starts (print_end crlf) text)
        → Starts (59 ∷ []) text ⊎ ¬ (Starts (59 ∷ []) text) → Begins Extension text ⊎ ¬ (Begins Extension text)
    by (inl x) y = inl (None, x.0, (tt, x.1))
    by (inr no_end) (inl y) = behind no_end y.0 y.1 (loose is_extension_byte 13 refl y.0)
    by (inr no_end) (inr none) = inr λ z. neither no_end
        (λ x rest passes whole. none (x ++ (13 ∷ 10 ∷ rest), whole)) z.0 z.1 z.2

-- bytes begin with a chunk's line, or they don't
pub Chunk_decided : IsDecided Chunk
Chunk_decided =
    Then_decided HexDigits_deterministic (record { decide = digits })
    (Then_decided (Run_deterministic is_ows) (record { decide = run is_ows }) (record { decide = extension }))
