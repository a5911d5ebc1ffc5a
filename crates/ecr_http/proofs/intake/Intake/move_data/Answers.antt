use Rattle.std.proofs.Common.{◌-◌, ◌≤◌, ℕ, List, drop, sym, subst, arith}
use Rattle.ecr_http.specs.Decoding.{Decodes, left_to_do}
use Rattle.ecr_http.specs.declared.chunks.Stage.TheVariants as stages
use Rattle.ecr_http.proofs.BodyLemmas.{rest_of}
use Rattle.ecr_http.proofs.DecodingLemmas.{no_farther_by_use}
use Rattle.ecr_http.proofs.StageLemmas.{Data-moved}
use Rattle.ecr_http.proofs.intake.Intake.move_data.Goals as goal

pub returns-clause-moved : goal.returns-clause-moved
returns-clause-moved c = λ limit before after old d.
    let size = c.len.ensures.length in
    let least = c.min-count.ensures in
    let stage = stages.Data (c.args.left - c.min-count.result) in
    subst (λ (b : List ℕ). Decodes limit before old after (rest_of b c.args.self.now) c.move_to.new.to.items stage)
    (sym c.in_ok-move_to.ensures.rest)
    (subst (λ (l : List ℕ). Decodes limit before old after
    (rest_of (drop c.min-count.result c.args.self.now.buffer) c.args.self.now) l stage)
    (sym c.in_ok-move_to.ensures.moved)
    (Data-moved limit before old after c.args.self.now c.args.body.now.items c.args.left c.min-count.result
    (omega arith) (omega arith) d))

pub returns-clause-no_farther : goal.returns-clause-no_farther
returns-clause-no_farther c =
    let size = c.len.ensures.length in
    let least = c.min-count.ensures in
    let due = c.args.left - c.min-count.result in
    subst (λ (b : List ℕ). left_to_do (stages.Data due) (rest_of b c.args.self.now) ≤ left_to_do
    (stages.Data c.args.left) c.args.self.now)
    (sym c.in_ok-move_to.ensures.rest)
    (no_farther_by_use c.args.self.now c.min-count.result c.args.left due (omega arith))
