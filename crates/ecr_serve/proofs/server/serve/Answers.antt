use Rattle.std.specs.Prelude.{codes, map, string_bytes}
use Rattle.clap.specs.Words.{all_of, matches_of}
use Rattle.ecr_serve.specs.Server.{serve_app}
use Rattle.ecr_serve.proofs.ServerWordsLemmas.{some_sites}
use Rattle.ecr_serve.proofs.server.serve.Goals as goal

pub run-end-requires-clause-some : goal.run-end-requires-clause-some
run-end-requires-clause-some g c κs within =
    some_sites (all_of (codes "sites") (matches_of serve_app (map string_bytes c.args.words.now)))
    c.in-Ok-Some.server.sites (rw c.in-Ok-Some.field-0-is at c.in-Ok-Some.ensures).texts.sites_are

pub returns-in-Ok-None-clause-runs : goal.returns-in-Ok-None-clause-runs
returns-in-Ok-None-clause-runs g c = λ workers copiers address sites server.
    absurd ((rw c.in-Ok-None.field-0-is at c.in-Ok-None.ensures) workers copiers address sites server)

pub returns-in-Ok-Some-clause-usage : goal.returns-in-Ok-Some-clause-usage
returns-in-Ok-Some-clause-usage g c = λ none.
    absurd (none c.in-Ok-Some.server.workers c.in-Ok-Some.server.copiers c.in-Ok-Some.server.address.now
    c.in-Ok-Some.server.sites (rw c.in-Ok-Some.field-0-is at c.in-Ok-Some.ensures))
