use Rattle.std.proofs.Common.{sym, subst}
use Rattle.ecr_model.specs.declared.http.Framing.{Framing}
use Rattle.ecr_http.specs.Bodies.{FitsLimit, Bodies}
use Rattle.ecr_http.proofs.intake.Intake.take_body.Goals as goal

pub returns-in-Sized-clause-takes : goal.returns-in-Sized-clause-takes
returns-in-Sized-clause-takes g c =
    let same = c.in-Sized.is in
    subst (λ (f : Framing). Bodies c.args.limit f (g.S.Source.left c.args.source.now) c.args.self.now
    (g.S.Source.left c.take_sized.new.source) c.take_sized.new.self c.take_sized.result)
    (sym same) (c.take_sized.ensures.takes c.args.limit
    (subst (λ (f : Framing). FitsLimit f c.args.limit) same c.requires.fits))
