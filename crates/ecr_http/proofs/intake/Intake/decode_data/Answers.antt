use Rattle.std.proofs.Common.{◌≡◌, ◌≤◌, ℕ, subst, arith}
use Rattle.std.proofs.lemmas.Result.{err_from_is_err_and}
use Rattle.ecr_http.specs.Decoding.{Decodes, left_to_do}
use Rattle.ecr_http.specs.declared.chunks.Stage.TheVariants as stages
use Rattle.ecr_http.proofs.DecodingLemmas.{IsNearer-before}
use Rattle.ecr_http.proofs.StageLemmas.{Data-awaits}
use Rattle.ecr_http.proofs.intake.Intake.decode_data.Goals as goal

pub returns-then-due-gt0-clause-goes_on : goal.returns-then-due-gt0-clause-goes_on
returns-then-due-gt0-clause-goes_on g c = λ limit before old d.
    let now = c.move_data.new.self in
    let body = c.move_data.new.body.items in
    c.read_on.ensures.goes_on limit before old body
    (Data-awaits limit before old _ now body _ (c.in_ok-due.ensures.used c.if-due-gt0.true)
    (c.in_ok-due.ensures.moved limit before _ old d))

pub returns-then-due-gt0-clause-nearer : goal.returns-then-due-gt0-clause-nearer
returns-then-due-gt0-clause-nearer g c =
    IsNearer-before c.read_on.result c.read_on.new.self _ _ c.in_ok-due.ensures.no_farther c.read_on.ensures.nearer

pub returns-clause-goes_on : goal.returns-clause-goes_on
returns-clause-goes_on g c = λ limit before old d.
    let now = c.move_data.new.self in
    let body = c.move_data.new.body.items in
    let left = g.S.Source.left c.args.source.now in
    let none : c.in_ok-due.due ≡ 0 = let no = c.if-due-gt0.false in omega arith in
    c.close.ensures.goes_on limit before old body
    (subst (λ (n : ℕ). Decodes limit before old left now body (stages.Data n)) none
    (c.in_ok-due.ensures.moved limit before left old d))

pub returns-clause-nearer : goal.returns-clause-nearer
returns-clause-nearer g c =
    let none : c.in_ok-due.due ≡ 0 = let no = c.if-due-gt0.false in omega arith in
    let less = subst (λ (n : ℕ). left_to_do (stages.Data n) c.move_data.new.self ≤ left_to_do
    (stages.Data c.args.left) c.args.self.now) none c.in_ok-due.ensures.no_farther in
    IsNearer-before c.close.result c.close.new.self _ _ less c.close.ensures.nearer

pub returns-in_err-due-clause-goes_on : goal.returns-in_err-due-clause-goes_on
returns-in_err-due-clause-goes_on g c = λ limit before old d.
    let same = c.in_err-due.ensures.err in
    let p = err_from_is_err_and c.from_residual.result c.from_residual.ensures.1 in
    rw (p.1, p.2, same.1) (record { come = d.come; cause = tt })
