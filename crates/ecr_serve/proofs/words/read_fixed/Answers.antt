use Rattle.std.proofs.Common.{map, string_bytes}
use Rattle.ecr_serve.proofs.WordsLemmas.{no_command-moment, served_fixed}
use Rattle.ecr_serve.proofs.words.read_fixed.Goals as goal

pub returns-in_default : goal.returns-in_default
returns-in_default c = no_command-moment c.args.moment.now (map string_bytes c.args.words.now)
    (rw c.in_default.is at c.in_ok-fixed.ensures)

pub returns : goal.returns
returns c =
    served_fixed c.args.moment.now (map string_bytes c.args.words.now) c.in-Some.fixed c.read_served.result
    (rw c.in-Some.is at c.in_ok-fixed.ensures) c.read_served.ensures
