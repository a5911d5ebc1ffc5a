-- A head has no more fields than lines, and what its spans say is what is kept of it.
use Rattle.std.proofs.Common.{◌≡◌, ℕ, ◌+◌, ◌≤◌, ◌==◌, cond, List, [], ◌∷◌, ◌++◌, length, take, drop, map, refl, sym, ap, ◌∙◌, arith, append-nil, Some}
use Rattle.std.proofs.Math.ListN.{drop_of_length-le}
use Rattle.std.specs.List.{flat_map}
use Rattle.std.proofs.lemmas.List.Sums.{sum_by-append}
use Rattle.httparse.specs.Grammar as grammar
use Rattle.httparse.specs.Grammar.{RequestHead, ReadsRequest, print_request, print_blank, print_version, print_field, print_section, print_end, LineEnd, crlf, lf, field_value}
use Rattle.httparse.specs.declared.spans.HeaderSpan.{HeaderSpan}
use Rattle.httparse.specs.declared.spans.RequestSpans.{RequestSpans}
use Rattle.httparse.specs.Spans.{header_bytes, name_and_value, IsRequestAt}
use Rattle.ecr_model.specs.http.FieldLines.{Field, field_at}
use Rattle.ecr_model.specs.http.Fields.{field_of, head_of}
use Rattle.ecr_model.specs.http.Framing.{Parses}
use Rattle.ecr_http.specs.Lines.{line_count}
use Rattle.ecr_http.specs.Spans.{head_at}

-- an LF is one line's end
abbrev ends_line : ℕ → ℕ
ends_line b = cond (b == 10) 1 0

line_count-append : (xs ys : List ℕ) → line_count (xs ++ ys) ≡ line_count xs + line_count ys
line_count-append xs ys = sum_by-append ends_line xs ys

line_count-print_end : (end : LineEnd) → line_count (print_end end) ≡ 1
line_count-print_end crlf = refl
line_count-print_end lf = refl

line_count-print_field : (f : grammar.Field) → 1 ≤ line_count (print_field f)
line_count-print_field f = simp line_count-append (omega (arith, line_count-print_end f.end))

line_count-print_fields : (fields : List grammar.Field) → length fields ≤ line_count (flat_map print_field fields)
line_count-print_fields [] = omega arith
line_count-print_fields (f ∷ fs) =
    omega (
      arith,
      line_count-append (print_field f)
          (flat_map print_field fs),
      line_count-print_field f,
      line_count-print_fields fs,
    )

-- each field has a line of its own
pub fields-bound : (bytes : List ℕ) (h : RequestHead) (rest : List ℕ) → ReadsRequest bytes h rest
    → length h.fields ≤ line_count bytes
unfolding print_request
fields-bound bytes h rest r =
    let fields = line_count-print_fields h.fields in
    rw r.1 (simp line_count-append (omega (arith, fields)))

-- the field of a name and a value
abbrev to_field : List ℕ × List ℕ → Field
to_field p = record { name = p.0; value = p.1 }

map-map : {A B C : Type 0} (f : A → B) (g : B → C) (xs : List A) → map g (map f xs) ≡ map (λ x. g (f x)) xs
map-map f g [] = refl
map-map f g (x ∷ xs) = ap (λ l. g (f x) ∷ l) (map-map f g xs)

fields-agree : (bytes : List ℕ) (spans : List HeaderSpan) (fields : List grammar.Field)
    → map (header_bytes bytes) spans ≡ map name_and_value fields
    → map (field_at bytes) spans ≡ map field_of fields
fields-agree bytes spans fields e =
    sym (map-map (header_bytes bytes) to_field spans) ∙ ap (map to_field) e ∙ map-map name_and_value to_field fields

-- the spans of a head say what is kept of it
pub head_at-head_of : (bytes : List ℕ) (spans : List HeaderSpan) (parts : RequestSpans) (h : RequestHead)
    → IsRequestAt bytes spans parts h
    → head_at bytes parts (take parts.headers spans) ≡ head_of h
head_at-head_of bytes spans parts h is =
    let method = is.method in
    let path = is.path in
    let version = is.version in
    let fields = fields-agree bytes (take parts.headers spans) h.fields is.fields in
    cc

-- the head that the parser found, where it goes to the end of the bytes, is the one that they are
pub Parses-found : (bytes : List ℕ) (spans : List HeaderSpan) (parts : RequestSpans) (h : RequestHead)
    → IsRequestAt bytes spans parts h → parts.len ≡ length bytes
    → Parses bytes (Some (head_at bytes parts (take parts.headers spans)))
Parses-found bytes spans parts h is whole =
    let none : drop parts.len bytes ≡ [] = drop_of_length-le bytes (omega arith) in
    (h, (is.reads.0, is.reads.1 ∙ ap (λ l. print_request h ++ l) none), head_at-head_of bytes spans parts h is)

-- a head that is all of the bytes is found at their length
pub found-whole : (bytes : List ℕ) (spans : List HeaderSpan) (parts : RequestSpans) (h : RequestHead)
    → IsRequestAt bytes spans parts h → ReadsRequest bytes h [] → parts.len ≡ length bytes
found-whole bytes spans parts h is reads = is.len ∙ sym (ap length (reads.1 ∙ append-nil (print_request h)))
