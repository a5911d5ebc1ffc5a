use Rattle.std.proofs.Common.{rules}
use Rattle.ecr_serve.proofs.ServerWordsLemmas.{no_count-zero}
use Rattle.ecr_serve.proofs.server_words.read_within.Goals as goal

pub returns-then-count-eq0 : goal.returns-then-count-eq0
returns-then-count-eq0 c = no_count-zero c.args.usual c.args.most c.args.word.now c.in-Some.count (search rules)
    c.if-count-eq0.true (rw c.in-Some.is at c.in_ok-count.ensures).spelled
