use Rattle.std.proofs.Common.{◌≡◌, ◌≢◌, ◌≤◌, ◌<◌, ◌+◌, ◌-◌, ◌++◌, ℕ, List, length, take, drop, Option, sym, subst, arith, length-append, length-drop}
use Rattle.std.proofs.lemmas.List.{length-take}
use Rattle.std.proofs.lemmas.Result.{err_from_is_err_and}
use Rattle.ecr_http.specs.Bodies.{Gathers}
use Rattle.ecr_http.specs.Takings.{left_to_read}
use Rattle.ecr_http.specs.declared.intake.Intake.{Intake}
use Rattle.ecr_http.proofs.BodyLemmas.{rest_of, Gathers-start, Gathers-moved, Gathers-gains, HasBody-whole, LacksBody-reads}
use Rattle.ecr_http.proofs.intake.Intake.take_sized.Goals as goal

-- what moved is at most what was missing
moved_small : (size count : ℕ) (body buffer : List ℕ) → length body ≤ size → count ≡ size - length body
    → length (body ++ take count buffer) ≤ size
moved_small size count body buffer few is =
    omega (arith, length-append body (take count buffer), length-take count buffer)

-- where it is less, nothing is left
moved_all : (size count : ℕ) (body buffer : List ℕ) → length body ≤ size → count ≡ size - length body
    → length (body ++ take count buffer) ≢ size
    → length (body ++ take count buffer) + length (drop count buffer) < size
moved_all size count body buffer few is less =
    omega (arith, length-append body (take count buffer), length-take count buffer, length-drop count buffer)

-- the body and the buffer after the move
moved : (size count : ℕ) (before : Option (List ℕ)) (old : Intake) (left : Option (List ℕ)) (now : Intake)
    (body to rest : List ℕ)
    → count ≡ size - length body → to ≡ body ++ take count now.buffer
    → rest ≡ drop count now.buffer
    → Gathers size before old left now body → Gathers size before old left (rest_of rest now) to
moved size count before old left now body to rest is bytes others gathers =
    rw (bytes, others) (Gathers-moved size before old left now body count gathers
    (moved_small size count body now.buffer gathers.at_most is))

pub loop-body-init : goal.loop-body-init
loop-body-init g c =
    let left = g.S.Source.left c.args.source.now in
    record {
      gathers = subst (λ (b : List ℕ). Gathers c.args.size left c.args.self.now left c.args.self.now b)
          (sym c.new-body.ensures.items)
          (Gathers-start c.args.size left c.args.self.now c.requires.spent);
      later = omega arith;
    }

pub overflow_sub-due : goal.overflow_sub-due
overflow_sub-due g c =
    let few = c.loop-body.invariant.gathers.at_most in omega (arith, c.len.ensures, c.loop-body.body.ok)

pub loop-body-preserved : goal.loop-body-preserved
loop-body-preserved g c =
    let e = c.in_ok-move_to.ensures in
    let count = c.args.size - c.len.result in
    let same : count ≡ c.args.size - length c.loop-body.body.items =
    omega (arith, c.len.ensures, c.loop-body.body.ok) in
    let later = c.in_ok-fill.ensures.later in
    let before = c.loop-body.invariant.later in
    record {
      gathers = Gathers-gains c.args.size _ c.args.self.now _ _ (rest_of c.move_to.new.self c.loop-body.self)
          c.fill.new.self c.move_to.new.to.items
          (moved c.args.size count _ c.args.self.now _ c.loop-body.self c.loop-body.body.items c.move_to.new.to.items
          c.move_to.new.self
          same e.moved e.rest c.loop-body.invariant.gathers)
          c.in_ok-fill.ensures.reads;
      later = omega arith;
    }

pub loop-body-smaller : goal.loop-body-smaller
unfolding left_to_read
loop-body-smaller g c = c.in_ok-fill.ensures.nearer

pub returns-then-len-size-clause-takes : goal.returns-then-len-size-clause-takes
returns-then-len-size-clause-takes g c = λ limit fits.
    let e = c.in_ok-move_to.ensures in
    let count = c.args.size - c.len.result in
    let same : count ≡ c.args.size - length c.loop-body.body.items =
    omega (arith, c.len.ensures, c.loop-body.body.ok) in
    HasBody-whole limit c.args.size _ c.args.self.now _ (rest_of c.move_to.new.self c.loop-body.self)
    c.move_to.new.to fits
    (moved c.args.size count _ c.args.self.now _ c.loop-body.self c.loop-body.body.items c.move_to.new.to.items
    c.move_to.new.self
    same e.moved e.rest c.loop-body.invariant.gathers)
    (omega (arith, c.len-in-loop-body.ensures, c.move_to.new.to.ok, c.if-len-size.true))

pub returns-in_err-move_to-clause-takes : goal.returns-in_err-move_to-clause-takes
returns-in_err-move_to-clause-takes g c = λ limit fits.
    let same = c.in_err-move_to.ensures.err in
    let p = err_from_is_err_and c.from_residual.result c.from_residual.ensures.1 in
    rw (p.1, p.2, same.1) (record { come = c.loop-body.invariant.gathers.come; cause = tt })

pub returns-in_err-fill-clause-takes : goal.returns-in_err-fill-clause-takes
returns-in_err-fill-clause-takes g c = λ limit fits.
    let e = c.in_ok-move_to.ensures in
    let count = c.args.size - c.len.result in
    let same : count ≡ c.args.size - length c.loop-body.body.items =
    omega (arith, c.len.ensures, c.loop-body.body.ok) in
    let gathers = moved c.args.size count _ c.args.self.now _ c.loop-body.self c.loop-body.body.items
    c.move_to.new.to.items c.move_to.new.self
    same e.moved e.rest c.loop-body.invariant.gathers in
    let less : length c.move_to.new.to.items ≢ c.args.size = λ is. c.if-len-size.false
    (omega (arith, c.len-in-loop-body.ensures, c.move_to.new.to.ok)) in
    let reads = c.in_err-fill.ensures.reads in
    let p = err_from_is_err_and c.from_residual-in_err-fill.result c.from_residual-in_err-fill.ensures.1 in
    rw (p.1, p.2) (LacksBody-reads limit c.args.size _ c.args.self.now _ _ (rest_of c.move_to.new.self c.loop-body.self)
    c.fill.new.self c.move_to.new.to.items _ fits gathers
    (rw (e.moved, e.rest) (moved_all c.args.size count c.loop-body.body.items c.loop-body.self.buffer
    c.loop-body.invariant.gathers.at_most same (rw e.moved at less))) reads)
