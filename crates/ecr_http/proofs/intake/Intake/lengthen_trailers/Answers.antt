use Rattle.std.proofs.Common.{ℕ, sym, subst, arith}
use Rattle.ecr_model.specs.http.Chunks.{max_trailers}
use Rattle.ecr_http.specs.Decoding.{Awaits, left_to_do}
use Rattle.ecr_http.specs.declared.chunks.Stage.TheVariants as stages
use Rattle.ecr_http.proofs.StageLemmas.{Trailers-awaits, Trailers-long}
use Rattle.ecr_http.proofs.intake.Intake.lengthen_trailers.Goals as goal

pub returns-then-len-gt-MAX_TRAILERS-clause-goes_on : goal.returns-then-len-gt-MAX_TRAILERS-clause-goes_on
unfolding max_trailers
returns-then-len-gt-MAX_TRAILERS-clause-goes_on g c = λ limit scanned before old body d.
    let long = c.if-len-gt-MAX_TRAILERS.true in
    Trailers-long limit before old _ c.args.self.now body scanned c.requires (omega (arith, c.len.ensures.length)) d

pub returns-clause-goes_on : goal.returns-clause-goes_on
unfolding max_trailers
returns-clause-goes_on g c = λ limit scanned before old body d.
    let few = c.if-len-gt-MAX_TRAILERS.false in
    c.read_on.ensures.goes_on limit before old body
    (subst (λ (n : ℕ). Awaits limit before old (g.S.Source.left c.args.source.now) c.args.self.now body
    (stages.Trailers n))
    (sym c.len-scanned.ensures.length)
    (Trailers-awaits limit before old _ c.args.self.now body scanned c.requires (omega (arith, c.len.ensures.length))
    d))

pub returns-clause-nearer : goal.returns-clause-nearer
unfolding left_to_do
returns-clause-nearer g c = λ scanned. c.read_on.ensures.nearer
