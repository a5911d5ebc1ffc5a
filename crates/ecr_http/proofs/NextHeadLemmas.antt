-- How a head is read: blank bytes are passed, and more bytes come.
use Rattle.std.proofs.Common.{◌≡◌, ℕ, zero, suc, ◌+◌, ◌<◌, ◌≤◌, true, false, cond, List, [], ◌∷◌, ◌++◌, length, drop, get_or, Option, Result, Ok, Err, refl, sym, ap, ◌∙◌, subst, arith, length-append, length-drop, append-nil, append_assoc}
use Rattle.std.proofs.lemmas.List.{at_drop_more, drop-append-le}
use Rattle.std.proofs.Math.Seq.{drop-nil}
use Rattle.std.proofs.KnownBytes.{Consumes-nil, Consumes-trans, Consumes-kept}
use Rattle.std.specs.Prelude.{⊤}
use Rattle.std.specs.Io.KnownBytes.{Consumes, Keeps}
use Rattle.ecr_model.specs.http.Framing.{max_head, ends_empty, HasNoEnd}
use Rattle.ecr_model.specs.sessions.Sessions.{max_read}
use Rattle.ecr_model.specs.http.Stream.{is_blank, blank_length, short, IsFront}
use Rattle.ecr_model.proofs.lemmas.http.FramingLemmas.{HasNoEnd-append}
use Rattle.ecr_model.proofs.lemmas.http.FrontLemmas.{IsFront-no_head}
use Rattle.ecr_model.proofs.lemmas.http.StreamLemmas.{blank_length-le, blank_length-drop}
use Rattle.ecr_http.specs.NextHeads.{IsReady, IsRead, LacksRequest, LooksOn, past_front}
use Rattle.ecr_http.specs.Faults.{IsFault, IsOpen}
use Rattle.ecr_http.specs.Takings.{lengthened, Gains, ReadsOnce}
use Rattle.ecr_http.specs.declared.intake.Intake.{Intake}
use Rattle.ecr_http.specs.declared.fault.Fault.{Fault}
use Rattle.ecr_http.proofs.FaultLemmas.{IsFault-open}

-- ---- blank bytes

-- a blank byte behind blank ones is one more
pub blank_length-more : (bytes : List ℕ) (n : ℕ) → n < length bytes → n ≤ blank_length bytes
    → is_blank (get_or bytes n 0) ≡ true → n + 1 ≤ blank_length bytes
blank_length-more bytes n h at_most e =
    let step = at_drop_more blank_length bytes n 0 h in
    let here = ap (λ v. cond v (1 + blank_length (drop (n + 1) bytes)) 0) e in
    omega (arith, blank_length-drop bytes n at_most, step, here)

-- another byte ends them
pub blank_length-stop : (bytes : List ℕ) (n : ℕ) → n < length bytes → n ≤ blank_length bytes
    → is_blank (get_or bytes n 0) ≡ false → n ≡ blank_length bytes
blank_length-stop bytes n h at_most e =
    let step = at_drop_more blank_length bytes n 0 h in
    let here = ap (λ v. cond v (1 + blank_length (drop (n + 1) bytes)) 0) e in
    omega (arith, blank_length-drop bytes n at_most, step, here)

-- more bytes don't end the blank ones earlier
pub blank_length-grows : (bytes others : List ℕ) → blank_length bytes ≤ blank_length (bytes ++ others)
blank_length-grows [] others = omega arith
blank_length-grows (b ∷ bytes) others =
    elim (is_blank b) as (λ v. cond v (1 + blank_length bytes) 0 ≤ cond v
    (1 + blank_length (bytes ++ others)) 0) [
      | true ↦ omega
          (arith, blank_length-grows bytes others)
      | false ↦ omega arith
    ]

-- ---- what is always so

-- no head ends before there is a byte
pub HasNoEnd-zero : (bytes : List ℕ) → HasNoEnd bytes 0
unfolding ends_empty
HasNoEnd-zero bytes k h =
    let none : k ≡ 0 = omega arith in
    subst (λ n. ends_empty bytes n ≡ false) (sym none) refl

-- nothing was read yet
pub IsReady-fresh : (intake : Intake) → intake.buffer ≡ [] → intake.at ≡ 0 → intake.total ≡ 0 → intake.scanned ≡ 0
    → IsReady intake
IsReady-fresh intake buffer at total scanned = record {
  placed = omega (arith, ap length buffer);
  spent = omega arith;
  within = omega arith;
  known = subst (HasNoEnd intake.buffer) (sym scanned) (HasNoEnd-zero intake.buffer);
}

-- some bytes were dropped
pub IsReady-past : (intake : Intake) (count : ℕ) → count ≤ length intake.buffer → IsReady intake
    → IsReady (past_front count intake)
IsReady-past intake count h ready = record {
  placed = let placed = ready.placed in omega (arith, length-drop count intake.buffer);
  spent = ready.spent;
  within = omega arith;
  known = HasNoEnd-zero (drop count intake.buffer);
}

-- no head ends in the first so many bytes
abbrev pub looked : ℕ → Intake → Intake
looked n intake = record intake { scanned = n }

IsReady-looked : (intake : Intake) (n : ℕ) → IsReady intake → n ≤ length intake.buffer → HasNoEnd intake.buffer n
    → IsReady (looked n intake)
IsReady-looked intake n ready within none_ends = record {
  placed = ready.placed;
  spent = ready.spent;
  within = within;
  known = none_ends;
}

IsReady-lengthened : (intake : Intake) (piece : List ℕ) → IsReady intake → intake.total + length piece ≤ max_read
    → IsReady (lengthened intake piece)
IsReady-lengthened intake piece ready fits =
    let size = length-append intake.buffer piece in
    let placed = ready.placed in
    let within = ready.within in
    record {
      placed = omega arith;
      spent = fits;
      within = omega arith;
      known = HasNoEnd-append intake.buffer piece intake.scanned ready.within ready.known;
    }

-- ---- how far the reading has come

-- the reading begins
pub IsRead-start : (before : Option (List ℕ)) (now : Intake) → IsReady now → IsRead before now before now
IsRead-start before now ready = record {
  got = [];
  skipped = 0;
  consumed = Consumes-nil before;
  blank = omega arith;
  buffered = sym (append-nil now.buffer);
  placed = omega arith;
  ready = ready;
}

-- what is dropped one after the other is dropped at once
pub drop-drop : (i j : ℕ) (l : List ℕ) → drop j (drop i l) ≡ drop (i + j) l
drop-drop zero j l = ap (λ k. drop k l) (omega arith)
drop-drop (suc i) j [] = drop-nil j ∙ sym (drop-nil (suc i + j))
drop-drop (suc i) j (x ∷ l) =
    let e : suc (i + j) ≡ suc i + j = omega arith in
    drop-drop i j l ∙ ap (λ k. drop k (x ∷ l)) e

-- the blank bytes are dropped
pub IsRead-past_blank : (before : Option (List ℕ)) (old : Intake) (after : Option (List ℕ)) (now : Intake)
    → IsRead before old after now
    → IsRead before old after (past_front (blank_length now.buffer) now)
IsRead-past_blank before old after now r =
    let all = blank_length-drop (old.buffer ++ r.got) r.skipped r.blank in
    let same = ap blank_length r.buffered in
    record {
      got = r.got;
      skipped = r.skipped + blank_length now.buffer;
      consumed = r.consumed;
      blank = omega arith;
      buffered = ap (drop (blank_length now.buffer)) r.buffered
          ∙ drop-drop r.skipped (blank_length now.buffer) (old.buffer ++ r.got);
      placed = let placed = r.placed in omega arith;
      ready = IsReady-past now (blank_length now.buffer) (blank_length-le now.buffer) r.ready;
    }

-- no head ends in the first n bytes
pub IsRead-looked : (before : Option (List ℕ)) (old : Intake) (after : Option (List ℕ)) (now : Intake) (n : ℕ)
    → IsRead before old after now
    → n ≤ length now.buffer → HasNoEnd now.buffer n → IsRead before old after (looked n now)
IsRead-looked before old after now n r within none_ends = record {
  got = r.got;
  skipped = r.skipped;
  consumed = r.consumed;
  blank = r.blank;
  buffered = r.buffered;
  placed = r.placed;
  ready = IsReady-looked now n r.ready within none_ends;
}

IsRead-lengthened : (before : Option (List ℕ)) (old : Intake) (mid after : Option (List ℕ)) (now : Intake)
    (piece : List ℕ) → IsRead before old mid now
    → Consumes mid after piece → now.total + length piece ≤ max_read → IsRead before old after (lengthened now piece)
IsRead-lengthened before old mid after now piece r consumed fits =
    let same = append_assoc old.buffer r.got piece in
    let blank = r.blank in
    let grows = blank_length-grows (old.buffer ++ r.got) piece in
    record {
      got = r.got ++ piece;
      skipped = r.skipped;
      consumed = Consumes-trans before mid after r.got piece r.consumed consumed;
      blank = subst (λ l. r.skipped ≤ blank_length l) same (omega arith);
      buffered = ap (λ l. l ++ piece) r.buffered
          ∙ sym (drop-append-le r.skipped (old.buffer ++ r.got) piece
          (omega (arith, blank_length-le (old.buffer ++ r.got))))
          ∙ ap (drop r.skipped) same;
      placed = r.placed;
      ready = IsReady-lengthened now piece r.ready fits;
    }

-- bytes came
pub IsRead-gains : (before : Option (List ℕ)) (old : Intake) (mid after : Option (List ℕ)) (now last : Intake)
    → IsRead before old mid now
    → Gains mid now after last → IsRead before old after last
IsRead-gains before old mid after now last r gains =
    subst (IsRead before old after) (sym gains.now_is)
    (IsRead-lengthened before old mid after now gains.piece r gains.consumed gains.within)

-- none came
pub IsRead-kept : (before : Option (List ℕ)) (old : Intake) (mid after : Option (List ℕ)) (now last : Intake)
    → IsRead before old mid now
    → last ≡ now → Keeps mid after → IsRead before old after last
IsRead-kept before old mid after now last r same kept = subst (IsRead before old after) (sym same) (record {
  got = r.got;
  skipped = r.skipped;
  consumed = Consumes-kept before mid after r.got r.consumed kept;
  blank = r.blank;
  buffered = r.buffered;
  placed = r.placed;
  ready = r.ready;
})

-- less than a head is there, and no more bytes come
pub LacksRequest-short : (now : Intake) (left : Option (List ℕ)) (fault : Fault)
    → HasNoEnd now.buffer (length now.buffer)
    → length now.buffer < max_head → IsFault IsOpen left now.total fault
    → LacksRequest now.at now.buffer false left now.total fault
LacksRequest-short now left fault none_ends small is =
    IsFault-open (λ lack. IsFront now.at now.buffer (short false lack)) left now.total fault
    (IsFront-no_head now.at now.buffer none_ends small) is

-- one read, where less than a head is there
pub LooksOn-reads : (before : Option (List ℕ)) (old : Intake) (mid after : Option (List ℕ)) (now last : Intake)
    (result : Result ⊤ Fault)
    → IsRead before old mid now → blank_length now.buffer ≡ 0 → HasNoEnd now.buffer (length now.buffer)
    → length now.buffer < max_head → ReadsOnce mid now after last result → LooksOn before old after last result
LooksOn-reads before old mid after now last (Ok done) r blank none_ends small reads =
    IsRead-gains before old mid after now last r reads
LooksOn-reads before old mid after now last (Err fault) r blank none_ends small reads = record {
  read = IsRead-kept before old mid after now last r reads.0 reads.1;
  none = ap (λ (x : Intake). blank_length x.buffer) reads.0 ∙ blank;
  stands = subst (λ (x : Intake). LacksRequest x.at x.buffer false after x.total fault) (sym reads.0)
      (LacksRequest-short now after fault none_ends small reads.2);
}
