use Rattle.std.proofs.Common.{◌≡◌, ℕ, List, [], ◌++◌, ◌∙◌, sym, ap, arith, length, take, drop}
use Rattle.std.proofs.Math.Seq.{take-append_seam}
use Rattle.ecr_http.specs.Spans.{head_at}
use Rattle.ecr_http.proofs.HeadLemmas.{fields-bound, Parses-found, found-whole}
use Rattle.ecr_http.proofs.head.parse_head.Goals as goal

-- what was written in place of all items
written : {X : Type 0} (len : ℕ) (new old : List X) → length new ≡ len → take len (new ++ drop (length new) old) ≡ new
written len new old e = ap (λ n. take n (new ++ drop (length new) old)) (sym e)
    ∙ take-append_seam new (drop (length new) old)

pub returns-in-Err : goal.returns-in-Err
returns-in-Err c = record {
  parses = λ h r. c.in-Err.ensures.found h [] r
      (omega (arith, fields-bound c.args.bytes.now h [] r, c.in_ok-places.ensures.len, c.count_lines.ensures));
}

pub returns-in-Ok-Partial : goal.returns-in-Ok-Partial
returns-in-Ok-Partial c = record {
  parses = λ h r.
      (rw c.in-Ok-Partial.field-0-is at c.in-Ok-Partial.ensures.found) h [] r
      (omega (arith, fields-bound c.args.bytes.now h [] r, c.in_ok-places.ensures.len, c.count_lines.ensures));
}

pub returns-then-parts-bytes : goal.returns-then-parts-bytes
returns-then-parts-bytes c = record {
  parses = λ h r.
      let found = rw c.in-Ok-Complete.field-0-is at c.in-Ok-Complete.ensures.found in
      let is = found h [] r (omega
      (arith, fields-bound c.args.bytes.now h [] r, c.in_ok-places.ensures.len, c.count_lines.ensures)) in
      c.if-parts-bytes.true (found-whole _ _ _ h is r);
}

pub returns-in_ok-head-in-Ok-Complete : goal.returns-in_ok-head-in-Ok-Complete
returns-in_ok-head-in-Ok-Complete c = record {
  parses = let complete = rw c.in-Ok-Complete.field-0-is at c.in-Ok-Complete.ensures.complete in
      let parses = Parses-found _ _ _ complete.0 complete.1 c.if-parts-bytes.false in
      let kept =
      c.truncate.ensures.items
      ∙ ap (take c.in-Ok-Complete.parts.headers)
      (written _ _ _ (omega (arith, c.parse_request.auto.headers, c.deref_mut.ensures.len))) in (
        parses.0,
        parses.1,
        c.in_ok-head-in-Ok-Complete.ensures
            ∙ ap (head_at c.args.bytes.now c.in-Ok-Complete.parts) kept ∙ parses.2,
      );
}
