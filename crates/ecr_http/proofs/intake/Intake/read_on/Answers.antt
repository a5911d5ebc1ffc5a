use Rattle.std.proofs.lemmas.Result.{err_from_is_err_and}
use Rattle.ecr_http.proofs.DecodingLemmas.{Decodes-gains, Awaits-stops, nearer_by_gains}
use Rattle.ecr_http.proofs.intake.Intake.read_on.Goals as goal

pub returns-clause-goes_on : goal.returns-clause-goes_on
returns-clause-goes_on g c = λ limit before old body awaits.
    Decodes-gains limit before old _ _ c.args.self.now c.fill.new.self body c.args.stage awaits.decodes
    c.in_ok-fill.ensures.reads

pub returns-clause-nearer : goal.returns-clause-nearer
returns-clause-nearer g c =
    nearer_by_gains _ _ c.args.self.now c.fill.new.self c.args.stage c.in_ok-fill.ensures.reads

pub returns-in_err-fill-clause-goes_on : goal.returns-in_err-fill-clause-goes_on
returns-in_err-fill-clause-goes_on g c = λ limit before old body awaits.
    let reads = c.in_err-fill.ensures.reads in
    let p = err_from_is_err_and c.from_residual.result c.from_residual.ensures.1 in
    rw (p.1, p.2) (Awaits-stops limit before old _ _ c.args.self.now c.fill.new.self body c.args.stage _ awaits
    reads.0 reads.1 reads.2)
