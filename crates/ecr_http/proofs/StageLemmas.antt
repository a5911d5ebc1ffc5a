-- What each stage of the decoding of a chunked body makes of the bytes in the buffer.
use Rattle.std.proofs.Common.{◌≡◌, ℕ, zero, suc, ◌+◌, ◌-◌, ◌<◌, ◌≤◌, min, true, false, List, [], ◌∷◌, ◌++◌, length, take, drop, Option, Some, None, Ok, Err, refl, sym, ap, ap₂, ◌∙◌, subst, arith, length-append, length-drop, append-nil, append_assoc}
use Rattle.std.proofs.lemmas.List.{drop-drop, take-append-drop, length-take}
use Rattle.std.proofs.Math.Seq.{drop-append_seam}
use Rattle.ecr_model.specs.declared.http.Framing.TheVariants.{Chunked}
use Rattle.ecr_model.specs.http.Framing.{ends_empty, IsEnd, HasNoEnd, EndsAt}
use Rattle.ecr_model.specs.declared.http.Section.TheVariants as sections
use Rattle.ecr_model.specs.http.Fronts.{bad, too_long, open_, complete}
use Rattle.ecr_model.specs.http.Chunks.{max_chunk_line, max_trailers, line_end, Says, Part, chunk, lacking, if_crlf, Progress, begun, past_chunk, Comes, IsPart, IsChunked}
use Rattle.ecr_model.proofs.lemmas.http.ChunkLemmas.{line_end-is}
use Rattle.ecr_model.proofs.lemmas.http.ChunkedLemmas.{Chunks-more, Chunks-length}
use Rattle.ecr_model.proofs.lemmas.http.PartLemmas.{IsPart-open_line, IsPart-long_line, IsPart-no_size, IsPart-over, IsPart-data, IsPart-open_data, IsPart-last, IsPart-open_trailers, IsPart-long_trailers, Chunks-ahead, IsChunked-whole}
use Rattle.ecr_http.specs.Bodies.{LacksBody}
use Rattle.ecr_http.specs.Decoding.{IsClosed, HasLine, IsInData, IsInTrailers, StandsAt, Decodes, Awaits, Decoded}
use Rattle.ecr_http.specs.declared.intake.Intake.{Intake}
use Rattle.ecr_http.specs.declared.fault.Fault.TheVariants as faults
use Rattle.ecr_http.specs.declared.chunks.Stage.TheVariants as stages
use Rattle.ecr_http.proofs.BodyLemmas.{rest_of, IsGot-rest}
use Rattle.ecr_http.proofs.DecodingLemmas.{found_lack}

-- ---- at a line

-- the part at the front of the buffer is the one that comes
line_part : (limit : ℕ) (p : Progress) (body buffer : List ℕ) (part : Part) → StandsAt limit p body buffer stages.Line
    → ((so_far : ℕ) → so_far ≡ length body → IsPart limit so_far buffer part) → Comes limit p part
line_part limit p body buffer part stands is =
    subst (λ (b : List ℕ). IsPart limit (length p.body) b part) stands.1
    (is (length p.body) (ap length (sym stands.0)))

-- no LF is there yet, and a line may still be longer
pub Line-awaits : (limit : ℕ) (before : Option (List ℕ)) (old : Intake) (after : Option (List ℕ)) (now : Intake)
    (body : List ℕ)
    → line_end now.buffer ≡ None → length now.buffer < max_chunk_line
    → Decodes limit before old after now body stages.Line
    → Awaits limit before old after now body stages.Line
Line-awaits limit before old after now body ends few d = record {
  decodes = d;
  less = found_lack limit before old after now body stages.Line open_ d
      (line_part limit d.progress body now.buffer (lacking open_) d.stands
      (λ so_far same. IsPart-open_line limit so_far now.buffer ends few));
}

-- no LF is there, and a line may be no longer
pub Line-long : (limit : ℕ) (before : Option (List ℕ)) (old : Intake) (after : Option (List ℕ)) (now : Intake)
    (body : List ℕ)
    → line_end now.buffer ≡ None → max_chunk_line ≤ length now.buffer
    → Decodes limit before old after now body stages.Line
    → LacksBody limit Chunked before old after now faults.Bad
Line-long limit before old after now body ends long d = record {
  come = d.come;
  cause = found_lack limit before old after now body stages.Line bad d
      (line_part limit d.progress body now.buffer (lacking bad) d.stands
      (λ so_far same. IsPart-long_line limit so_far now.buffer ends long));
}

-- the line says no chunk-size
pub Line-no_size : (limit : ℕ) (before : Option (List ℕ)) (old : Intake) (after : Option (List ℕ)) (now : Intake)
    (body : List ℕ)
    (place : ℕ) → line_end now.buffer ≡ Some place → Says (take (suc place) now.buffer) None
    → Decodes limit before old after now body stages.Line → LacksBody limit Chunked before old after now faults.Bad
Line-no_size limit before old after now body place ends says d = record {
  come = d.come;
  cause = found_lack limit before old after now body stages.Line bad d
      (line_part limit d.progress body now.buffer (lacking bad) d.stands
      (λ so_far same. IsPart-no_size limit so_far now.buffer place ends says));
}

-- the chunk is longer than the limit leaves room for
pub Line-over : (limit : ℕ) (before : Option (List ℕ)) (old : Intake) (after : Option (List ℕ)) (now : Intake)
    (body : List ℕ)
    (place size : ℕ) → line_end now.buffer ≡ Some place → Says (take (suc place) now.buffer) (Some size) → 0 < size
    → limit < length body + size → Decodes limit before old after now body stages.Line
    → LacksBody limit Chunked before old after now (faults.TooLong sections.Body limit)
Line-over limit before old after now body place size ends says some over d = record {
  come = d.come;
  cause = found_lack limit before old after now body stages.Line (too_long sections.Body limit) d
      (line_part limit d.progress body now.buffer (lacking (too_long sections.Body limit)) d.stands
      (λ so_far same. IsPart-over limit so_far now.buffer place size ends says some (omega arith)));
}

has_line : (limit : ℕ) (p : Progress) (body buffer : List ℕ) (place size : ℕ)
    → StandsAt limit p body buffer stages.Line
    → line_end buffer ≡ Some place → Says (take (suc place) buffer) (Some size) → HasLine p place size
has_line limit p body buffer place size stands ends says = record {
  ends = ap line_end (sym stands.1) ∙ ends;
  says = subst (λ (b : List ℕ). Says (take (suc place) b) (Some size)) stands.1 says;
}

-- the line was used, and the chunk's data comes next
pub Line-data : (limit : ℕ) (before : Option (List ℕ)) (old : Intake) (after : Option (List ℕ)) (now : Intake)
    (body : List ℕ)
    (place size : ℕ) → line_end now.buffer ≡ Some place → Says (take (suc place) now.buffer) (Some size) → 0 < size
    → length body + size ≤ limit → Decodes limit before old after now body stages.Line
    → Decodes limit before old after (rest_of (drop (suc place) now.buffer) now) body (stages.Data size)
Line-data limit before old after now body place size ends says some within d = record {
  come = IsGot-rest before old after now (drop (suc place) now.buffer) d.come;
  chunks = d.chunks;
  progress = d.progress;
  begins = d.begins;
  stands = record {
    place = place;
    size = size;
    came = [];
    line = has_line limit d.progress body now.buffer place size d.stands ends says;
    some = some;
    within = let same : length body ≡ length d.progress.body = ap length d.stands.0 in omega arith;
    body_is = d.stands.0 ∙ sym (append-nil d.progress.body);
    behind = ap (drop (suc place)) (sym d.stands.1);
    due = omega arith;
  };
}

none_empty : (buffer : List ℕ) → HasNoEnd buffer 0
unfolding ends_empty
none_empty buffer zero below = refl
none_empty buffer (suc k) below = absurd (omega arith)

-- the line was that of the last chunk, and the trailer section comes next
pub Line-last : (limit : ℕ) (before : Option (List ℕ)) (old : Intake) (after : Option (List ℕ)) (now : Intake)
    (body : List ℕ)
    (place : ℕ) → line_end now.buffer ≡ Some place → Says (take (suc place) now.buffer) (Some 0)
    → Decodes limit before old after now body stages.Line
    → Decodes limit before old after (rest_of (drop place now.buffer) now) body (stages.Trailers 0)
Line-last limit before old after now body place ends says d = record {
  come = IsGot-rest before old after now (drop place now.buffer) d.come;
  chunks = d.chunks;
  progress = d.progress;
  begins = d.begins;
  stands = record {
    place = place;
    line = has_line limit d.progress body now.buffer place 0 d.stands ends says;
    body_is = d.stands.0;
    buffered = ap (drop place) d.stands.1;
    within = omega arith;
    known = none_empty (drop place now.buffer);
  };
}

-- ---- inside data

-- bytes of a chunk's data went to the body
pub Data-moved : (limit : ℕ) (before : Option (List ℕ)) (old : Intake) (after : Option (List ℕ)) (now : Intake)
    (body : List ℕ)
    (left count : ℕ) → count ≤ left → count ≤ length now.buffer
    → Decodes limit before old after now body (stages.Data left)
    → Decodes limit before old after (rest_of (drop count now.buffer) now) (body ++ take count now.buffer)
    (stages.Data (left - count))
Data-moved limit before old after now body left count few there d = record {
  come = IsGot-rest before old after now (drop count now.buffer) d.come;
  chunks = d.chunks;
  progress = d.progress;
  begins = d.begins;
  stands = record {
    place = d.stands.place;
    size = d.stands.size;
    came = d.stands.came ++ take count now.buffer;
    line = d.stands.line;
    some = d.stands.some;
    within = d.stands.within;
    body_is = ap (λ (l : List ℕ). l ++ take count now.buffer) d.stands.body_is
        ∙ append_assoc d.progress.body d.stands.came (take count now.buffer);
    behind = d.stands.behind
        ∙ ap (λ (l : List ℕ). d.stands.came ++ l) (sym (take-append-drop count now.buffer))
        ∙ sym (append_assoc d.stands.came (take count now.buffer) (drop count now.buffer));
    due = omega (
      arith,
      d.stands.due,
      length-append d.stands.came
          (take count now.buffer),
      length-take count now.buffer,
    );
  };
}

-- bytes of a chunk's data are due, and none is there
pub Data-awaits : (limit : ℕ) (before : Option (List ℕ)) (old : Intake) (after : Option (List ℕ)) (now : Intake)
    (body : List ℕ)
    (left : ℕ) → length now.buffer ≡ 0 → Decodes limit before old after now body (stages.Data left)
    → Awaits limit before old after now body (stages.Data left)
Data-awaits limit before old after now body left empty d = record {
  decodes = d;
  less = found_lack limit before old after now body (stages.Data left) open_ d
      (IsPart-open_data limit (length d.progress.body) d.progress.ahead d.stands.place d.stands.size d.stands.line.ends
      d.stands.line.says
      d.stands.some d.stands.within few);
}
  where
    few : length (drop (suc d.stands.place) d.progress.ahead) ≤ d.stands.size
    few = omega (arith, ap length d.stands.behind, length-append d.stands.came now.buffer, d.stands.due)

-- the part, where all of the data came
data_part : (limit : ℕ) (p : Progress) (body buffer : List ℕ) (d : IsInData limit p body buffer 0)
    → Comes limit p (if_crlf (chunk d.came (suc d.place + d.size + 2)) buffer)
data_part limit p body buffer d =
    IsPart-data limit (length p.body) p.ahead d.place d.size d.came buffer d.line.ends d.line.says d.some
    d.within d.behind
    (omega (arith, d.due))

-- CR LF was used, and the next line comes
pub Data-closes : (limit : ℕ) (before : Option (List ℕ)) (old : Intake) (after : Option (List ℕ)) (now : Intake)
    (body : List ℕ)
    → IsClosed now.buffer (Ok true) → Decodes limit before old after now body (stages.Data 0)
    → Decodes limit before old after (rest_of (drop 2 now.buffer) now) body stages.Line
Data-closes limit before old after now body closed d = record {
  come = IsGot-rest before old after now (drop 2 now.buffer) d.come;
  chunks = d.chunks ++ d.stands.came ∷ [];
  progress = past_chunk d.progress d.stands.came total;
  begins = Chunks-more limit (begun (old.buffer ++ d.come.got)) d.chunks d.progress d.stands.came total d.begins
      (subst (λ (part : Part). Comes limit d.progress part) (closed.1 (chunk d.stands.came total))
      (data_part limit d.progress body now.buffer d.stands));
  stands = (d.stands.body_is, sym rest);
}
  where
    total : ℕ
    total = suc d.stands.place + d.stands.size + 2

    after_data : drop d.stands.size (drop (suc d.stands.place) d.progress.ahead) ≡ now.buffer
    after_data =
        let count : d.stands.size ≡ length d.stands.came = omega (arith, d.stands.due) in
        ap₂ drop count d.stands.behind ∙ drop-append_seam d.stands.came now.buffer

    rest : drop (suc d.stands.place + d.stands.size + 2) d.progress.ahead ≡ drop 2 now.buffer
    rest =
        sym (drop-drop 2 (suc d.stands.place + d.stands.size) d.progress.ahead)
        ∙ ap (drop 2) (sym (drop-drop d.stands.size (suc d.stands.place) d.progress.ahead) ∙ after_data)

-- less than CR LF is there
pub Data-unclosed : (limit : ℕ) (before : Option (List ℕ)) (old : Intake) (after : Option (List ℕ)) (now : Intake)
    (body : List ℕ)
    → IsClosed now.buffer (Ok false) → Decodes limit before old after now body (stages.Data 0)
    → Awaits limit before old after now body (stages.Data 0)
Data-unclosed limit before old after now body closed d = record {
  decodes = d;
  less = found_lack limit before old after now body (stages.Data 0) open_ d
      (subst (λ (part : Part). Comes limit d.progress part)
      (closed (chunk d.stands.came (suc d.stands.place + d.stands.size + 2)))
      (data_part limit d.progress body now.buffer d.stands));
}

-- another byte stands where CR LF is due
pub Data-ill_closed : (limit : ℕ) (before : Option (List ℕ)) (old : Intake) (after : Option (List ℕ)) (now : Intake)
    (body : List ℕ)
    → IsClosed now.buffer (Err faults.Bad) → Decodes limit before old after now body (stages.Data 0)
    → LacksBody limit Chunked before old after now faults.Bad
Data-ill_closed limit before old after now body closed d = record {
  come = d.come;
  cause = found_lack limit before old after now body (stages.Data 0) bad d
      (subst (λ (part : Part). Comes limit d.progress part)
      (closed.1 (chunk d.stands.came (suc d.stands.place + d.stands.size + 2)))
      (data_part limit d.progress body now.buffer d.stands));
}

-- ---- in the trailer section

-- an empty line ends the trailer section, and the body is whole
pub Trailers-whole : (limit : ℕ) (before : Option (List ℕ)) (old : Intake) (after : Option (List ℕ)) (now : Intake)
    (body : List ℕ)
    (scanned end : ℕ) → IsEnd (1 + max_trailers) now.buffer end
    → Decodes limit before old after now body (stages.Trailers scanned)
    → Decoded limit before old after (rest_of (drop end now.buffer) now) body
Trailers-whole limit before old after now body scanned end ends d = record {
  come = IsGot-rest before old after now (drop end now.buffer) d.come;
  size = total;
  counted = count;
  whole = whole;
  rest = rest;
}
  where
    bytes : List ℕ
    bytes = old.buffer ++ d.come.got

    total : ℕ
    total = d.progress.at + (d.stands.place + end)

    ends_there : IsEnd (1 + max_trailers) (drop d.stands.place d.progress.ahead) end
    ends_there = subst (λ (b : List ℕ). IsEnd (1 + max_trailers) b end) d.stands.buffered ends

    count : total + length (drop end now.buffer) ≡ length bytes
    count =
        let all : d.progress.at + length d.progress.ahead ≡ 0 + length bytes =
        Chunks-length limit (begun bytes) d.chunks d.progress d.begins in
        let size : length now.buffer ≡ length (drop d.stands.place d.progress.ahead) = ap length d.stands.buffered in
        let inside : d.stands.place < length d.progress.ahead =
        (line_end-is d.progress.ahead d.stands.place d.stands.line.ends).1 in
        omega (arith, ends.within, length-drop end now.buffer, length-drop d.stands.place d.progress.ahead)

    whole : IsChunked limit bytes (complete body total)
    whole = subst (λ (b : List ℕ). IsChunked limit bytes (complete b total)) (sym d.stands.body_is)
        (IsChunked-whole limit bytes d.chunks d.progress (d.stands.place + end) d.begins
        (IsPart-last limit (length d.progress.body) d.progress.ahead d.stands.place end d.stands.line.ends
        d.stands.line.says ends_there))

    rest : drop end now.buffer ≡ drop total bytes
    rest =
        ap (drop end) d.stands.buffered ∙ drop-drop end d.stands.place d.progress.ahead
        ∙ ap (drop (d.stands.place + end)) (Chunks-ahead limit bytes (begun bytes) d.chunks d.progress refl d.begins)
        ∙ drop-drop (d.stands.place + end) d.progress.at bytes

-- no empty line ends where the trailer section is read
none_ends : (limit : ℕ) (p : Progress) (body buffer : List ℕ) (scanned : ℕ) (t : IsInTrailers p body buffer scanned)
    → EndsAt (1 + max_trailers) buffer None
    → HasNoEnd (drop t.place p.ahead) (min (length (drop t.place p.ahead)) (1 + max_trailers))
none_ends limit p body buffer scanned t none =
    subst (λ (b : List ℕ). HasNoEnd b (min (length b) (1 + max_trailers))) t.buffered none

-- no empty line is there yet, and the trailer section may still be longer
pub Trailers-awaits : (limit : ℕ) (before : Option (List ℕ)) (old : Intake) (after : Option (List ℕ)) (now : Intake)
    (body : List ℕ)
    (scanned : ℕ) → EndsAt (1 + max_trailers) now.buffer None → length now.buffer ≤ max_trailers
    → Decodes limit before old after now body (stages.Trailers scanned)
    → Awaits limit before old after now body (stages.Trailers (length now.buffer))
Trailers-awaits limit before old after now body scanned none few d = record {
  decodes = looked;
  less = found_lack limit before old after now body (stages.Trailers (length now.buffer)) open_ looked
      (IsPart-open_trailers limit
      (length d.progress.body) d.progress.ahead d.stands.place d.stands.line.ends d.stands.line.says
      (none_ends limit d.progress body now.buffer scanned d.stands none)
      (subst (λ (b : List ℕ). length b ≤ max_trailers) d.stands.buffered few));
}
  where
    looked : Decodes limit before old after now body (stages.Trailers (length now.buffer))
    looked = record {
      come = d.come;
      chunks = d.chunks;
      progress = d.progress;
      begins = d.begins;
      stands = record {
        place = d.stands.place;
        line = d.stands.line;
        body_is = d.stands.body_is;
        buffered = d.stands.buffered;
        within = omega arith;
        known = λ k below. let inside : k ≤ min (length now.buffer) (1 + max_trailers) = omega arith in none k inside;
      };
    }

-- no empty line is there, and the trailer section may be no longer
pub Trailers-long : (limit : ℕ) (before : Option (List ℕ)) (old : Intake) (after : Option (List ℕ)) (now : Intake)
    (body : List ℕ)
    (scanned : ℕ) → EndsAt (1 + max_trailers) now.buffer None → max_trailers < length now.buffer
    → Decodes limit before old after now body (stages.Trailers scanned)
    → LacksBody limit Chunked before old after now (faults.TooLong sections.Trailers max_trailers)
Trailers-long limit before old after now body scanned none long d = record {
  come = d.come;
  cause = found_lack limit before old after now body (stages.Trailers scanned) (too_long sections.Trailers max_trailers)
      d
      (IsPart-long_trailers limit
      (length d.progress.body) d.progress.ahead d.stands.place d.stands.line.ends d.stands.line.says
      (none_ends limit d.progress body now.buffer scanned d.stands none)
      (subst (λ (b : List ℕ). max_trailers < length b) d.stands.buffered long));
}
