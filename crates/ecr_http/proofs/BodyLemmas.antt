-- How a body is read: bytes go from the buffer to it, and more bytes come.
use Rattle.std.proofs.Common.{Vec, Global, ◌≡◌, ℕ, ◌+◌, ◌<◌, ◌≤◌, List, [], ◌++◌, length, take, drop, Option, refl, sym, ap, ◌∙◌, subst, arith, length-append, append-nil, append_assoc}
use Rattle.std.proofs.lemmas.List.{take-append-drop}
use Rattle.std.proofs.Math.Seq.{take-append_seam, drop-append_seam}
use Rattle.std.proofs.KnownBytes.{Consumes-nil, Consumes-trans, Consumes-kept}
use Rattle.std.specs.Io.KnownBytes.{Consumes, Keeps}
use Rattle.ecr_model.specs.declared.http.Framing.TheVariants.{Sized}
use Rattle.ecr_model.specs.sessions.Sessions.{max_read}
use Rattle.ecr_model.specs.http.Stream.{IsBody, complete, lacks}
use Rattle.ecr_model.proofs.lemmas.http.FrontLemmas.{IsBody-sized, IsBody-sized_open}
use Rattle.ecr_http.specs.Bodies.{IsGot, Gathers, HasBody, LacksBody}
use Rattle.ecr_http.specs.Takings.{lengthened, Gains}
use Rattle.ecr_http.specs.Faults.{IsFault, IsOpen}
use Rattle.ecr_http.specs.declared.intake.Intake.{Intake}
use Rattle.ecr_http.specs.declared.fault.Fault.{Fault}
use Rattle.ecr_http.proofs.FaultLemmas.{IsFault-open}

-- with another buffer
abbrev pub rest_of : List ℕ → Intake → Intake
rest_of buffer intake = record intake { buffer = buffer }

-- ---- what came

-- nothing came yet
abbrev pub IsGot-start : (before : Option (List ℕ)) (now : Intake) → now.total ≤ max_read → IsGot before now before now
IsGot-start before now spent = record {
  got = [];
  consumed = Consumes-nil before;
  counted = omega arith;
  spent = spent;
  kept = refl;
}

-- the buffer isn't looked at
abbrev pub IsGot-rest : (before : Option (List ℕ)) (old : Intake) (after : Option (List ℕ)) (now : Intake)
    (buffer : List ℕ)
    → IsGot before old after now → IsGot before old after (rest_of buffer now)
IsGot-rest before old after now buffer come = record {
  got = come.got;
  consumed = come.consumed;
  counted = come.counted;
  spent = come.spent;
  kept = ap (rest_of buffer) come.kept;
}

-- a piece more came
abbrev pub IsGot-lengthened : (before : Option (List ℕ)) (old : Intake) (mid after : Option (List ℕ)) (now : Intake)
    (piece : List ℕ)
    → IsGot before old mid now → Consumes mid after piece → now.total + length piece ≤ max_read
    → IsGot before old after (lengthened now piece)
IsGot-lengthened before old mid after now piece come consumed fits = record {
  got = come.got ++ piece;
  consumed = Consumes-trans before mid after come.got piece come.consumed consumed;
  counted = omega (arith, length-append come.got piece, come.counted);
  spent = fits;
  kept = ap (λ x. lengthened x piece) come.kept;
}

-- the source is as before
abbrev pub IsGot-kept : (before : Option (List ℕ)) (old : Intake) (mid after : Option (List ℕ)) (now : Intake)
    → IsGot before old mid now → Keeps mid after → IsGot before old after now
IsGot-kept before old mid after now come kept = record {
  got = come.got;
  consumed = Consumes-kept before mid after come.got come.consumed kept;
  counted = come.counted;
  spent = come.spent;
  kept = come.kept;
}

-- ---- a body of a stated size

-- no byte of the body came yet
pub Gathers-start : (size : ℕ) (before : Option (List ℕ)) (now : Intake) → now.total ≤ max_read
    → Gathers size before now before now []
Gathers-start size before now spent = record {
  come = IsGot-start before now spent;
  joined = sym (append-nil now.buffer);
  at_most = omega arith;
}

-- bytes went from the buffer to the body
pub Gathers-moved : (size : ℕ) (before : Option (List ℕ)) (old : Intake) (after : Option (List ℕ)) (now : Intake)
    (body : List ℕ) (count : ℕ)
    → Gathers size before old after now body → length (body ++ take count now.buffer) ≤ size
    → Gathers size before old after (rest_of (drop count now.buffer) now) (body ++ take count now.buffer)
Gathers-moved size before old after now body count g few = record {
  come = IsGot-rest before old after now (drop count now.buffer) g.come;
  joined = append_assoc body (take count now.buffer) (drop count now.buffer)
      ∙ ap (λ (l : List ℕ). body ++ l) (take-append-drop count now.buffer) ∙ g.joined;
  at_most = few;
}

-- bytes came
pub Gathers-gains : (size : ℕ) (before : Option (List ℕ)) (old : Intake) (mid after : Option (List ℕ))
    (now last : Intake) (body : List ℕ)
    → Gathers size before old mid now body → Gains mid now after last → Gathers size before old after last body
Gathers-gains size before old mid after now last body g gains =
    subst (λ (x : Intake). Gathers size before old after x body) (sym gains.now_is) (record {
      come = IsGot-lengthened before old mid after now gains.piece g.come gains.consumed gains.within;
      joined = sym (append_assoc body now.buffer gains.piece) ∙ ap (λ (l : List ℕ). l ++ gains.piece) g.joined
          ∙ append_assoc old.buffer g.come.got gains.piece;
      at_most = g.at_most;
    })

-- none came
pub Gathers-kept : (size : ℕ) (before : Option (List ℕ)) (old : Intake) (mid after : Option (List ℕ))
    (now last : Intake) (body : List ℕ)
    → Gathers size before old mid now body → last ≡ now → Keeps mid after → Gathers size before old after last body
Gathers-kept size before old mid after now last body g same kept =
    subst (λ (x : Intake). Gathers size before old after x body) (sym same) (record {
      come = IsGot-kept before old mid after now g.come kept;
      joined = g.joined;
      at_most = g.at_most;
    })

-- all of the body came
pub HasBody-whole : (limit size : ℕ) (before : Option (List ℕ)) (old : Intake) (after : Option (List ℕ)) (now : Intake)
    (body : Vec ℕ Global)
    → size ≤ limit → Gathers size before old after now body.items → length body.items ≡ size
    → HasBody limit (Sized size) before old after now (record { body = body; size = size })
HasBody-whole limit size before old after now body fits g whole_size =
    let bytes = old.buffer ++ g.come.got in
    let there : size ≤ length bytes = omega (arith, ap length g.joined, length-append body.items now.buffer) in
    let front : take size bytes ≡ body.items =
    ap (take size) (sym g.joined) ∙ ap (λ (n : ℕ). take n (body.items ++ now.buffer)) (sym whole_size)
    ∙ take-append_seam body.items now.buffer in
    let behind : drop size bytes ≡ now.buffer =
    ap (drop size) (sym g.joined) ∙ ap (λ (n : ℕ). drop n (body.items ++ now.buffer)) (sym whole_size)
    ∙ drop-append_seam body.items now.buffer in
    record {
      come = g.come;
      stands = subst (λ (l : List ℕ). IsBody limit bytes (Sized size) (complete l size)) front
          (IsBody-sized limit size bytes fits there);
      rest = sym behind;
    }

-- more bytes are needed than came, and none comes
pub LacksBody-gathers : (limit size : ℕ) (before : Option (List ℕ)) (old : Intake) (after : Option (List ℕ))
    (now : Intake) (body : List ℕ) (fault : Fault)
    → size ≤ limit → Gathers size before old after now body → length body + length now.buffer < size
    → IsFault IsOpen after now.total fault → LacksBody limit (Sized size) before old after now fault
LacksBody-gathers limit size before old after now body fault fits g few is =
    let bytes = old.buffer ++ g.come.got in
    let count : length body + length now.buffer ≡ length bytes =
    sym (length-append body now.buffer) ∙ ap length g.joined in
    record {
      come = g.come;
      cause = IsFault-open (λ lack. IsBody limit bytes (Sized size) (lacks lack)) after now.total fault
          (IsBody-sized_open limit size bytes fits (subst (λ (n : ℕ). n < size) count few)) is;
    }

-- one read, where more bytes are needed than came
pub LacksBody-reads : (limit size : ℕ) (before : Option (List ℕ)) (old : Intake) (mid after : Option (List ℕ))
    (now last : Intake) (body : List ℕ) (fault : Fault)
    → size ≤ limit → Gathers size before old mid now body → length body + length now.buffer < size
    → (last ≡ now) × Keeps mid after × IsFault IsOpen after now.total fault
    → LacksBody limit (Sized size) before old after last fault
LacksBody-reads limit size before old mid after now last body fault fits g few reads =
    subst (λ (x : Intake). LacksBody limit (Sized size) before old after x fault) (sym reads.0)
    (LacksBody-gathers limit size before old after now body fault fits
    (Gathers-kept size before old mid after now now body g refl reads.1) few reads.2)
