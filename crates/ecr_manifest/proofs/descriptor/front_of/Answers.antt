use Rattle.std.proofs.Common.{sym, arith}
use Rattle.std.proofs.lemmas.List.{take_all}
use Rattle.ecr_manifest.proofs.descriptor.front_of.Goals as goal

pub returns-then-media-lt52 : goal.returns-then-media-lt52
returns-then-media-lt52 c = sym (take_all 52 c.args.media.now (omega arith))
