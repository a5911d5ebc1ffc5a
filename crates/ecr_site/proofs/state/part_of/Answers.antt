use Rattle.std.proofs.Common.{◌∙◌}
use Rattle.std.proofs.lemmas.Iterator.{YieldsList-from_take}
use Rattle.std.proofs.lemmas.Iterator.Adapters.{YieldsList-from_skip}
use Rattle.std.proofs.lemmas.Iterator.Consumers.{YieldsList-at, YieldsList-from_rest, YieldsList-end}
use Rattle.ecr_site.proofs.state.part_of.Goals as goal

pub returns : goal.returns
returns c =
    let seen = YieldsList-end
    (YieldsList-at c.into_iter-name-iterator.ensures.into_iter_gives
    (YieldsList-from_take c.args.max
    (YieldsList-at c.take-name-items.ensures.source
    (YieldsList-from_skip c.args.from
    (YieldsList-at c.skip.ensures.source (YieldsList-from_rest c.args.names.now.keys c.iter.ensures.rest))
    c.skip.ensures.count))
    c.take-name-items.ensures.count))
    c.loop-name.yielded _ c.loop-name.yielded_by _ _ c.in-None.is c.next.ensures.steps in
    c.loop-name.invariant ∙ seen.0
