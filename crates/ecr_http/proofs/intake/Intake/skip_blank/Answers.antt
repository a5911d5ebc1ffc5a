use Rattle.std.proofs.Common.{◌≡◌, sym, ap, ◌∙◌, subst, arith}
use Rattle.ecr_model.specs.http.Stream.{blank_length}
use Rattle.ecr_model.proofs.lemmas.http.StreamLemmas.{blank_length-le, blank_length-skipped}
use Rattle.ecr_http.specs.NextHeads.{IsReady, IsRead, past_front}
use Rattle.ecr_http.specs.Takings.{left_to_read}
use Rattle.ecr_http.proofs.NextHeadLemmas.{IsReady-past, IsRead-past_blank}
use Rattle.ecr_http.proofs.intake.Intake.skip_blank.Goals as goal

pub pass-requires-clause-within : goal.pass-requires-clause-within
pass-requires-clause-within c =
    let count = c.blank_length-blank.ensures ∙ ap blank_length c.as_slice.ensures.bytes in
    omega (arith, blank_length-le c.args.self.now.buffer)

pub returns-then-blank-gt0-clause-ready : goal.returns-then-blank-gt0-clause-ready
returns-then-blank-gt0-clause-ready c =
    let count = c.blank_length-blank.ensures ∙ ap blank_length c.as_slice.ensures.bytes in
    subst IsReady (sym c.pass.ensures.passed)
    (IsReady-past c.args.self.now c.blank_length-blank.result
    (omega (arith, blank_length-le c.args.self.now.buffer)) c.requires.ready)

pub returns-then-blank-gt0-clause-none : goal.returns-then-blank-gt0-clause-none
returns-then-blank-gt0-clause-none c =
    let count = c.blank_length-blank.ensures ∙ ap blank_length c.as_slice.ensures.bytes in
    let now : c.pass.new.self ≡ past_front (blank_length c.args.self.now.buffer) c.args.self.now =
    c.pass.ensures.passed ∙ ap (λ n. past_front n c.args.self.now) count in
    ap (λ x. blank_length x.buffer) now ∙ blank_length-skipped c.args.self.now.buffer

pub returns-then-blank-gt0-clause-goes_on : goal.returns-then-blank-gt0-clause-goes_on
returns-then-blank-gt0-clause-goes_on c = λ before after old r.
    let count = c.blank_length-blank.ensures ∙ ap blank_length c.as_slice.ensures.bytes in
    let now : c.pass.new.self ≡ past_front (blank_length c.args.self.now.buffer) c.args.self.now =
    c.pass.ensures.passed ∙ ap (λ n. past_front n c.args.self.now) count in
    subst (IsRead before old after) (sym now) (IsRead-past_blank before old after c.args.self.now r)

pub returns-then-blank-gt0-clause-read : goal.returns-then-blank-gt0-clause-read
unfolding left_to_read
returns-then-blank-gt0-clause-read c = ap left_to_read c.pass.ensures.passed
