-- How the decoding of a chunked body goes on, over plain values.
use Rattle.std.proofs.Common.{◌≡◌, ℕ, suc, ◌+◌, ◌-◌, ◌<◌, ◌≤◌, List, [], ◌++◌, length, take, drop, Option, Some, None, Result, Ok, Err, refl, sym, ap, ap₂, ◌∙◌, subst, arith, length-append, length-drop, append-nil, append_assoc}
use Rattle.std.specs.Io.KnownBytes.{Keeps}
use Rattle.std.proofs.lemmas.List.{drop-append-le}
use Rattle.httparse.specs.Grammar.{ChunkLine, ReadsChunkLine, print_chunk_line}
use Rattle.httparse.specs.Spans.{IsChunkLineAt}
use Rattle.httparse.proofs.ChunkLemmas.{chunk_line_unique}
use Rattle.ecr_model.specs.declared.http.Framing.TheVariants.{Chunked}
use Rattle.ecr_model.specs.http.Fronts.{Lack, lacks, complete}
use Rattle.ecr_model.specs.http.Stream.{IsBody}
use Rattle.ecr_model.specs.http.Chunks.{Says, lacking, Progress, begun, with_more, Comes, Chunks, IsChunked}
use Rattle.ecr_model.specs.sessions.Sessions.{max_read}
use Rattle.ecr_model.proofs.lemmas.http.FramingLemmas.{HasNoEnd-append}
use Rattle.ecr_model.proofs.lemmas.http.ChunkLemmas.{line_end-is, line_end-append, Says-append}
use Rattle.ecr_model.proofs.lemmas.http.ChunkedLemmas.{Chunks-append}
use Rattle.ecr_model.proofs.lemmas.http.PartLemmas.{IsChunked-lacks}
use Rattle.ecr_http.specs.Takings.{Gains, left_to_read}
use Rattle.ecr_http.specs.Faults.{IsFault, IsOpen}
use Rattle.ecr_http.specs.Bodies.{HasBody, LacksBody}
use Rattle.ecr_http.specs.Decoding.{HasLine, StandsAt, Decodes, Awaits, Decoded, IsNearer, rank, left_to_do}
use Rattle.ecr_http.specs.declared.intake.Intake.{Intake}
use Rattle.ecr_http.specs.declared.fault.Fault.{Fault}
use Rattle.ecr_http.specs.declared.body.Taken.{Taken}
use Rattle.ecr_http.specs.declared.chunks.Stage.{Stage}
use Rattle.ecr_http.specs.declared.chunks.Stage.TheVariants as stages
use Rattle.ecr_http.proofs.FaultLemmas.{IsFault-open}
use Rattle.ecr_http.proofs.BodyLemmas.{rest_of, IsGot-start, IsGot-lengthened, IsGot-kept}

-- ---- a line

-- a line that was read to its end is all that was read
pub line-whole : (line : List ℕ) (len size : ℕ) (l k : ChunkLine) → IsChunkLineAt line len size l
    → ReadsChunkLine line k []
    → len ≡ length line
line-whole line len size l k found reads =
    let same : l ≡ k = (chunk_line_unique line l k (drop len line) [] found.reads reads).0 in
    found.len_is ∙ ap (λ (x : ChunkLine). length (print_chunk_line x)) same
    ∙ ap length (sym (append-nil (print_chunk_line k)) ∙ sym reads.1)

-- a line that was taken of the buffer
pub Says-taken : (buffer taken : List ℕ) (place : ℕ) (size : Option ℕ) → taken ≡ buffer
    → Says (take (place + 1) taken) size
    → Says (take (suc place) buffer) size
Says-taken buffer taken place size same says =
    let next : place + 1 ≡ suc place = omega arith in
    subst (λ (l : List ℕ). Says l size) (ap₂ take next same) says

-- ---- more bytes come

HasLine-more : (p : Progress) (others : List ℕ) (place size : ℕ) → HasLine p place size
    → HasLine (with_more p others) place size
HasLine-more p others place size line = record {
  ends = line_end-append p.ahead others place line.ends;
  says = Says-append p.ahead others place (Some size)
      (omega (arith, (line_end-is p.ahead place line.ends).1)) line.says;
}

StandsAt-more : (limit : ℕ) (p : Progress) (body buffer others : List ℕ) (stage : Stage)
    → StandsAt limit p body buffer stage
    → StandsAt limit (with_more p others) body (buffer ++ others) stage
StandsAt-more limit p body buffer others stages.Line stands = (stands.0, ap (λ (l : List ℕ). l ++ others) stands.1)
StandsAt-more limit p body buffer others (stages.Data left) d = record {
  place = d.place;
  size = d.size;
  came = d.came;
  line = HasLine-more p others d.place d.size d.line;
  some = d.some;
  within = d.within;
  body_is = d.body_is;
  behind = drop-append-le (suc d.place) p.ahead others (omega (arith, (line_end-is p.ahead d.place d.line.ends).1))
      ∙ ap (λ (l : List ℕ). l ++ others) d.behind ∙ append_assoc d.came buffer others;
  due = d.due;
}
StandsAt-more limit p body buffer others (stages.Trailers scanned) t = record {
  place = t.place;
  line = HasLine-more p others t.place 0 t.line;
  body_is = t.body_is;
  buffered = ap (λ (l : List ℕ). l ++ others) t.buffered
      ∙ sym (drop-append-le t.place p.ahead others (omega (arith, (line_end-is p.ahead t.place t.line.ends).1)));
  within = omega (arith, t.within, length-append buffer others);
  known = HasNoEnd-append buffer others scanned t.within t.known;
}

-- more bytes came, at the same stage
pub Decodes-gains : (limit : ℕ) (before : Option (List ℕ)) (old : Intake) (mid after : Option (List ℕ))
    (now last : Intake)
    (body : List ℕ) (stage : Stage) → Decodes limit before old mid now body stage → Gains mid now after last
    → Decodes limit before old after last body stage
Decodes-gains limit before old mid after now last body stage d gains =
    subst (λ (x : Intake). Decodes limit before old after x body stage) (sym gains.now_is) (record {
      come = IsGot-lengthened before old mid after now gains.piece d.come gains.consumed gains.within;
      chunks = d.chunks;
      progress = with_more d.progress gains.piece;
      begins = subst (λ (b : List ℕ). Chunks limit (begun b) d.chunks (with_more d.progress gains.piece))
          (append_assoc old.buffer d.come.got gains.piece)
          (Chunks-append limit (begun (old.buffer ++ d.come.got)) gains.piece d.chunks d.progress d.begins);
      stands = StandsAt-more limit d.progress body now.buffer gains.piece stage d.stands;
    })

-- ---- none come

-- more bytes are needed, and none comes
pub Awaits-stops : (limit : ℕ) (before : Option (List ℕ)) (old : Intake) (mid after : Option (List ℕ))
    (now last : Intake)
    (body : List ℕ) (stage : Stage) (fault : Fault) → Awaits limit before old mid now body stage → last ≡ now
    → Keeps mid after → IsFault IsOpen after now.total fault
    → LacksBody limit Chunked before old after last fault
Awaits-stops limit before old mid after now last body stage fault awaits same kept is =
    let bytes = old.buffer ++ awaits.decodes.come.got in
    subst (λ (x : Intake). LacksBody limit Chunked before old after x fault) (sym same) (record {
      come = IsGot-kept before old mid after now awaits.decodes.come kept;
      cause = IsFault-open (λ lack. IsBody limit bytes Chunked (lacks lack)) after now.total fault awaits.less is;
    })

-- ---- what is found

-- nothing stands there, for a cause
pub found_lack : (limit : ℕ) (before : Option (List ℕ)) (old : Intake) (after : Option (List ℕ)) (now : Intake)
    (body : List ℕ)
    (stage : Stage) (lack : Lack) (d : Decodes limit before old after now body stage)
    → Comes limit d.progress (lacking lack)
    → IsChunked limit (old.buffer ++ d.come.got) (lacks lack)
found_lack limit before old after now body stage lack d comes =
    IsChunked-lacks limit (old.buffer ++ d.come.got) d.chunks d.progress lack d.begins comes

-- ---- how much is left to do

-- where bytes came, less is left to do
pub nearer_by_gains : (before after : Option (List ℕ)) (old now : Intake) (stage : Stage) → Gains before old after now
    → left_to_do stage now < left_to_do stage old
unfolding left_to_do left_to_read
nearer_by_gains before after old now stage gains =
    subst (λ (x : Intake). left_to_do stage x < left_to_do stage old) (sym gains.now_is)
    (omega (arith, gains.some, gains.within, length-append old.buffer gains.piece))

-- where bytes were used, less is left to do
pub nearer_by_use : (now : Intake) (count : ℕ) (stage other : Stage) → count ≤ length now.buffer
    → rank other < count + rank stage → left_to_do other (rest_of (drop count now.buffer) now) < left_to_do stage now
unfolding left_to_do left_to_read
nearer_by_use now count stage other there less = omega (arith, length-drop count now.buffer)

-- where bytes of a chunk's data were used, no more is left to do
pub no_farther_by_use : (now : Intake) (count left due : ℕ) → count ≤ length now.buffer
    → left_to_do (stages.Data due) (rest_of (drop count now.buffer) now) ≤ left_to_do (stages.Data left) now
unfolding left_to_do left_to_read
no_farther_by_use now count left due there = omega (arith, length-drop count now.buffer)

-- what is less than the one is less than a greater one
pub IsNearer-before : (result : Result (Option Stage) Fault) (now : Intake) (mid before : ℕ) → mid ≤ before
    → IsNearer result now mid → IsNearer result now before
IsNearer-before (Ok (Some stage)) now mid before less nearer = omega arith
IsNearer-before (Ok None) now mid before less nearer = tt
IsNearer-before (Err fault) now mid before less nearer = tt

-- ---- the whole decoding

-- the decoding begins at the first line
pub Decodes-start : (limit : ℕ) (before : Option (List ℕ)) (now : Intake) (body : List ℕ) → body ≡ []
    → now.total ≤ max_read
    → Decodes limit before now before now body stages.Line
Decodes-start limit before now body none spent = record {
  come = IsGot-start before now spent;
  chunks = [];
  progress = begun (now.buffer ++ []);
  begins = refl;
  stands = (none, sym (append-nil now.buffer));
}

-- how many bytes a whole body took, by how many came
took : (limit : ℕ) (before : Option (List ℕ)) (old : Intake) (after : Option (List ℕ)) (now : Intake) (body : List ℕ)
    (held size : ℕ)
    (d : Decoded limit before old after now body) → held ≡ length old.buffer
    → size ≡ held + (now.total - old.total) - length now.buffer → d.size ≡ size
took limit before old after now body held size d all is =
    omega (arith, d.counted, d.come.counted, length-append old.buffer d.come.got)

-- the body that was decoded stands at the front, and took as many bytes as went from the buffer
pub HasBody-decoded : (limit : ℕ) (before : Option (List ℕ)) (old : Intake) (after : Option (List ℕ)) (now : Intake)
    (held : ℕ) (taken : Taken) (d : Decoded limit before old after now taken.body.items) → held ≡ length old.buffer
    → taken.size ≡ held + (now.total - old.total) - length now.buffer
    → HasBody limit Chunked before old after now taken
HasBody-decoded limit before old after now held taken d all is =
    let count : d.size ≡ taken.size = took limit before old after now taken.body.items held taken.size d all is in
    record {
      come = d.come;
      stands = subst (λ (n : ℕ). IsChunked limit (old.buffer ++ d.come.got) (complete taken.body.items n))
          count d.whole;
      rest = subst (λ (n : ℕ). now.buffer ≡ drop n (old.buffer ++ d.come.got)) count d.rest;
    }

-- no more bytes are left than there were and came
pub Decoded-rest : (limit : ℕ) (before : Option (List ℕ)) (old : Intake) (after : Option (List ℕ)) (now : Intake)
    (body : List ℕ)
    (held : ℕ) (d : Decoded limit before old after now body) → held ≡ length old.buffer
    → length now.buffer ≤ held + (now.total - old.total)
Decoded-rest limit before old after now body held d all =
    omega (arith, d.counted, d.come.counted, length-append old.buffer d.come.got)
