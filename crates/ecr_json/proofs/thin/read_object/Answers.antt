use Rattle.std.proofs.Common.{None, Some, map}
use Rattle.serde_json.specs.View.{members_view}
use Rattle.serde_json.proofs.Views.{view-Object}
use Rattle.ecr_json.proofs.MemberLemmas.{KeepsOf-object}
use Rattle.ecr_json.proofs.thin.read_object.Goals as goal

pub returns-in-Some : goal.returns-in-Some
returns-in-Some c =
    let names = map (λ n. n.now) c.args.names.now in
    let found = c.in-Some.found in
    let kept = KeepsOf-object names c.args.reader.now (Some (members_view found.entries)) c.read_kept.new.reader
    (rw c.in-Some.is at c.in_ok-found.ensures) in
    rw (view-Object found) kept

pub returns-in-None : goal.returns-in-None
returns-in-None c =
    let names = map (λ n. n.now) c.args.names.now in
    KeepsOf-object names c.args.reader.now None c.read_kept.new.reader (rw c.in-None.is at c.in_ok-found.ensures)
