use Rattle.std.proofs.Common.{drop, arith}
use Rattle.ecr_tagmatch.proofs.WildLemmas.{agreed-past_tag}
use Rattle.ecr_tagmatch.proofs.wildcards.agreed.Goals as goal

pub returns-else-at-tag-clause-exact : goal.returns-else-at-tag-clause-exact
returns-else-at-tag-clause-exact c =
    let at = c.loop-at.at in
    omega (
      arith,
      c.loop-at.invariant.1,
      agreed-past_tag (drop at c.args.pattern.now) c.args.tag.now at
          (omega (arith, c.if-at-tag.false)),
    )
