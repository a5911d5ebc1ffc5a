use Rattle.std.proofs.Common.{◌+◌, ℕ, List, sym, subst}
use Rattle.ecr_model.specs.http.Framing.{IsEnd}
use Rattle.ecr_model.specs.http.Chunks.{max_trailers}
use Rattle.ecr_http.specs.Decoding.{Decoded}
use Rattle.ecr_http.proofs.BodyLemmas.{rest_of}
use Rattle.ecr_http.proofs.StageLemmas.{Trailers-whole}
use Rattle.ecr_http.proofs.intake.Intake.decode_trailers.Goals as goal

pub returns-in-Some-clause-goes_on : goal.returns-in-Some-clause-goes_on
unfolding max_trailers
returns-in-Some-clause-goes_on g c = λ limit before old body d.
    let ends = subst (λ (b : List ℕ). IsEnd (1 + max_trailers) b c.in-Some.end) c.as_slice.ensures.bytes
    c.in-Some.ensures.end in
    subst (λ (b : List ℕ). Decoded limit before old (g.S.Source.left c.args.source.now)
    (rest_of b c.args.self.now) body)
    (sym c.skip.ensures.rest) (Trailers-whole limit before old _ c.args.self.now body c.args.scanned
    c.in-Some.end ends d)

pub returns-in-None-clause-goes_on : goal.returns-in-None-clause-goes_on
returns-in-None-clause-goes_on g c = λ limit before old body d.
    c.lengthen_trailers.ensures.goes_on limit c.args.scanned before old body d
