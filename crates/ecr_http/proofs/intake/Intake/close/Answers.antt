use Rattle.std.proofs.Common.{◌<◌, ℕ, List, Bool, true, false, Ok, Err, refl, sym, subst, arith}
use Rattle.std.proofs.lemmas.Result.{err_from_is_err_and}
use Rattle.ecr_http.specs.Decoding.{IsClosed, Decodes, left_to_do}
use Rattle.ecr_http.specs.declared.chunks.Stage.TheVariants as stages
use Rattle.ecr_http.proofs.BodyLemmas.{rest_of}
use Rattle.ecr_http.proofs.DecodingLemmas.{nearer_by_use}
use Rattle.ecr_http.proofs.StageLemmas.{Data-closes, Data-unclosed, Data-ill_closed}
use Rattle.ecr_http.proofs.intake.Intake.close.Goals as goal

pub returns-then-closed-clause-goes_on : goal.returns-then-closed-clause-goes_on
returns-then-closed-clause-goes_on g c = λ limit before old body d.
    let closed = subst (λ (b : List ℕ). IsClosed b (Ok true)) c.as_slice.ensures.bytes
    (subst (λ (x : Bool). IsClosed c.as_slice.result.now (Ok x)) c.if-closed.true c.in_ok-closed.ensures.closed) in
    subst (λ (b : List ℕ). Decodes limit before old (g.S.Source.left c.args.source.now)
    (rest_of b c.args.self.now) body stages.Line)
    (sym c.skip.ensures.rest) (Data-closes limit before old _ c.args.self.now body closed d)

pub returns-then-closed-clause-nearer : goal.returns-then-closed-clause-nearer
returns-then-closed-clause-nearer g c =
    let closed = subst (λ (b : List ℕ). IsClosed b (Ok true)) c.as_slice.ensures.bytes
    (subst (λ (x : Bool). IsClosed c.as_slice.result.now (Ok x)) c.if-closed.true c.in_ok-closed.ensures.closed) in
    subst (λ (b : List ℕ). left_to_do stages.Line (rest_of b c.args.self.now) < left_to_do
    (stages.Data 0) c.args.self.now)
    (sym c.skip.ensures.rest) (nearer_by_use c.args.self.now 2 (stages.Data 0) stages.Line closed.0 (omega arith))

pub returns-clause-goes_on : goal.returns-clause-goes_on
returns-clause-goes_on g c = λ limit before old body d.
    let unclosed = subst (λ (b : List ℕ). IsClosed b (Ok false)) c.as_slice.ensures.bytes
    (subst (λ (x : Bool). IsClosed c.as_slice.result.now (Ok x)) c.if-closed.false c.in_ok-closed.ensures.closed) in
    c.read_on.ensures.goes_on limit before old body
    (Data-unclosed limit before old _ c.args.self.now body unclosed d)

pub returns-in_err-closed-clause-goes_on : goal.returns-in_err-closed-clause-goes_on
returns-in_err-closed-clause-goes_on g c = λ limit before old body d.
    let closed = subst (λ (b : List ℕ). IsClosed b (Err c.in_err-closed.field-0.0)) c.as_slice.ensures.bytes
    c.in_err-closed.ensures.closed in
    let p = err_from_is_err_and c.from_residual.result c.from_residual.ensures.1 in
    rw (p.1, p.2, closed.0) (Data-ill_closed limit before old _ c.args.self.now body (refl, closed.1) d)
