use Rattle.std.proofs.Common.{◌∙◌, ◌++◌, sym, ap}
use Rattle.ecr_errors.proofs.DigestsLemmas.{digests_text-more, more_digests}
use Rattle.ecr_errors.proofs.digests.write_some.Goals as goal

pub loop-digest-init : goal.loop-digest-init
loop-digest-init c =
    ap (λ t. t ++ more_digests c.args.rest.now) c.in_ok-text.ensures.written
    ∙ sym (digests_text-more c.args.first.now c.args.rest.now)
