use Rattle.std.proofs.Common.{◌∙◌}
use Rattle.ecr_pages.proofs.Copying.{copying_none, copying_more, copying_all}
use Rattle.ecr_pages.proofs.places.copy_of.Goals as goal

pub loop-birth-init : goal.loop-birth-init
loop-birth-init g c =
    copying_none c.args.places.now.entries c.new-copy.result.entries c.into_iter-birth-iterator.result
    c.new-copy.ensures.empty
    (c.into_iter-birth-iterator.ensures.into_iter_gives ∙ c.keys-birth-items.ensures.rest)

pub loop-birth-preserved : goal.loop-birth-preserved
loop-birth-preserved g c =
    copying_more c.args.places.now.entries c.loop-birth.copy.entries c.copy_row.new.copy.entries
    c.loop-birth.birth-iterator c.next.new.self
    c.in-Some.birth.now c.in-Some.ensures.steps c.in_ok-copy_row.ensures c.loop-birth.invariant

pub returns : goal.returns
returns g c =
    copying_all c.args.places.now.entries c.loop-birth.copy.entries c.loop-birth.birth-iterator
    c.in-None.ensures.steps.0 c.loop-birth.invariant
