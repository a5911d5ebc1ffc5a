use Rattle.std.proofs.Common.{◌≡◌, ◌+◌, ◌<◌, ◌≤◌, ℕ, List, Some, None, suc, length, take, drop, sym, ap, ◌∙◌, subst, arith}
use Rattle.ecr_model.specs.http.Chunks.{Says}
use Rattle.ecr_model.proofs.lemmas.http.ChunkLemmas.{line_end-is}
use Rattle.ecr_http.specs.Decoding.{Decodes, left_to_do}
use Rattle.ecr_http.specs.declared.chunks.Stage.TheVariants as stages
use Rattle.ecr_http.proofs.BodyLemmas.{rest_of}
use Rattle.ecr_http.proofs.DecodingLemmas.{Says-taken, nearer_by_use}
use Rattle.ecr_http.proofs.StageLemmas.{Line-no_size, Line-over, Line-data, Line-last}
use Rattle.ecr_http.proofs.intake.Intake.begin.Goals as goal

pub returns-in-None-clause-goes_on : goal.returns-in-None-clause-goes_on
returns-in-None-clause-goes_on c = λ before after old body same d.
    Line-no_size c.args.limit before old after c.args.self.now body c.args.place c.requires
    (Says-taken c.args.self.now.buffer _ c.args.place None c.as_slice.ensures.bytes c.in-None.ensures.size) d

pub returns-then-size-saturating_sub-clause-goes_on : goal.returns-then-size-saturating_sub-clause-goes_on
returns-then-size-saturating_sub-clause-goes_on c = λ before after old body same d.
    let room = c.saturating_sub.ensures in
    let more = c.if-size-saturating_sub.true in
    let some : 0 < c.in-Some.size = omega (arith, c.in-Some.size-test.1) in
    Line-over c.args.limit before old after c.args.self.now body c.args.place c.in-Some.size c.requires
    (Says-taken c.args.self.now.buffer _ c.args.place (Some c.in-Some.size) c.as_slice.ensures.bytes
    c.in-Some.ensures.size) some
    (omega arith) d

pub returns-else-size-saturating_sub-clause-goes_on : goal.returns-else-size-saturating_sub-clause-goes_on
returns-else-size-saturating_sub-clause-goes_on c = λ before after old body same d.
    let room = c.saturating_sub.ensures in
    let few = c.if-size-saturating_sub.false in
    let some : 0 < c.in-Some.size = omega (arith, c.in-Some.size-test.1) in
    let next : suc c.args.place ≡ c.args.place + 1 = omega arith in
    subst (λ (b : List ℕ). Decodes c.args.limit before old after (rest_of b c.args.self.now) body
    (stages.Data c.in-Some.size))
    (ap (λ (k : ℕ). drop k c.args.self.now.buffer) next ∙ sym c.skip-in-Some.ensures.rest)
    (Line-data c.args.limit before old after c.args.self.now body c.args.place c.in-Some.size c.requires
    (Says-taken c.args.self.now.buffer _ c.args.place (Some c.in-Some.size) c.as_slice.ensures.bytes
    c.in-Some.ensures.size) some
    (omega arith) d)

pub returns-in-Some-eq0-clause-goes_on : goal.returns-in-Some-eq0-clause-goes_on
returns-in-Some-eq0-clause-goes_on c = λ before after old body same d.
    let line = Says-taken c.args.self.now.buffer _ c.args.place
    (Some c.in-Some-eq0.field-0) c.as_slice.ensures.bytes c.in-Some-eq0.ensures.size in
    subst (λ (b : List ℕ). Decodes c.args.limit before old after (rest_of b c.args.self.now) body (stages.Trailers 0))
    (sym c.skip.ensures.rest)
    (Line-last c.args.limit before old after c.args.self.now body c.args.place c.requires
    (subst (λ (k : ℕ). Says (take (suc c.args.place) c.args.self.now.buffer)
    (Some k)) c.in-Some-eq0.field-0-test line) d)

pub returns-in-Some-eq0-clause-nearer : goal.returns-in-Some-eq0-clause-nearer
returns-in-Some-eq0-clause-nearer c =
    let inside = line_end-is c.args.self.now.buffer c.args.place c.requires in
    let there : c.args.place ≤ length c.args.self.now.buffer = omega (arith, inside.1) in
    subst (λ (b : List ℕ). left_to_do (stages.Trailers 0)
    (rest_of b c.args.self.now) < left_to_do stages.Line c.args.self.now)
    (sym c.skip.ensures.rest) (nearer_by_use c.args.self.now c.args.place stages.Line (stages.Trailers 0) there
    (omega arith))

pub returns-else-size-saturating_sub-clause-nearer : goal.returns-else-size-saturating_sub-clause-nearer
returns-else-size-saturating_sub-clause-nearer c =
    let inside = line_end-is c.args.self.now.buffer c.args.place c.requires in
    let there : c.args.place + 1 ≤ length c.args.self.now.buffer = omega (arith, inside.1) in
    subst (λ (b : List ℕ). left_to_do (stages.Data c.in-Some.size)
    (rest_of b c.args.self.now) < left_to_do stages.Line c.args.self.now)
    (sym c.skip-in-Some.ensures.rest)
    (nearer_by_use c.args.self.now (c.args.place + 1) stages.Line (stages.Data c.in-Some.size) there (omega arith))
