use Rattle.ecr_site.proofs.StateLemmas.{AreNamesOf-first}
use Rattle.ecr_site.proofs.state.SiteState.new.Goals as goal

pub invariant_of-result : goal.invariant_of-result
invariant_of-result c = rw (c.new.ensures.items, c.new-2.ensures.empty)
    (AreNamesOf-first (record { site = c.args.site; served = c.args.served.items; limits = c.args.limits }))
