use Rattle.std.proofs.Common.{◌≡◌, ◌+◌, ◌≤◌, ◌++◌, length, take, drop, ap, ◌∙◌, arith}
use Rattle.std.proofs.lemmas.List.{length-drop, length-take-le}
use Rattle.ecr_http.specs.Intakes.{range}
use Rattle.ecr_http.proofs.BufferLemmas.{range-more}
use Rattle.ecr_http.proofs.buffer.Buffer.fill.Goals as goal

pub returns-in-Bytes-clause-filled : goal.returns-in-Bytes-clause-filled
returns-in-Bytes-clause-filled g c =
    let s = c.self.inside in
    let n = c.in-Bytes.n in
    let now = c.read_at-got.new.room.items in
    let piece = take n (drop s.end now) in
    let room : s.end + c.args.most ≤ length now =
    omega (arith, c.read_at-got.ensures.long, c.in_ok-make_room.ensures.room) in
    let fits : n ≤ length (drop s.end now) = omega (arith, room, c.in-Bytes.ensures.count.1, length-drop s.end now) in
    let same : range s.start s.end now ≡ c.args.self.now =
    ap (drop s.start) (c.read_at-got.ensures.kept ∙ c.make_room.ensures.kept) ∙ c.self.view_is ∙ c.close_gap.ensures in
    record {
      piece = piece;
      consumed = c.in-Bytes.ensures.bytes;
      count = length-take-le n (drop s.end now) fits;
      some = c.in-Bytes.ensures.count.0;
      at_most = c.in-Bytes.ensures.count.1;
      appended = range-more s.start s.end n now c.self.invariant.0 (omega (arith, room)) ∙ ap (λ l. l ++ piece) same;
    }
