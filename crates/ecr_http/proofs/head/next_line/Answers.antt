use Rattle.std.proofs.Common.{◌-◌, arith}
use Rattle.ecr_http.proofs.LineLemmas.{length-slice_range, HasNoLine-nowhere}
use Rattle.ecr_http.proofs.head.next_line.Goals as goal

pub returns-in-None : goal.returns-in-None
returns-in-None c =
    let bytes = c.args.bytes.now in
    let none = HasNoLine-nowhere bytes c.args.from c.args.to (c.args.to - c.args.from) (omega arith)
    (λ k low high. c.in-None.ensures k low
    (omega (arith, length-slice_range bytes c.args.from c.args.to c.requires.1))) in
    λ k after within. none k after (omega arith)

pub returns-in-Some : goal.returns-in-Some
returns-in-Some c =
    let bytes = c.args.bytes.now in
    let long = length-slice_range bytes c.args.from c.args.to c.requires.1 in
    let found = c.in-Some.ensures.0 in
    let high = found.high in
    let none = HasNoLine-nowhere bytes c.args.from c.args.to c.in-Some.at (omega arith) found.before in
    (omega arith, omega arith, λ k after within. none k after (omega arith))
