use Rattle.std.proofs.Common.{◌∙◌}
use Rattle.ecr_tagmatch.proofs.MatchesLemmas.{starts_with-starts}
use Rattle.ecr_tagmatch.proofs.matches.starts.Goals as goal

pub returns : goal.returns
returns c = record { exact = c.starts_with.ensures.value ∙ starts_with-starts c.args.prefix.now c.args.tag.now }
