use Rattle.std.proofs.Common.{◌≡◌, None, Some, map, ap, arith}
use Rattle.json.specs.Json.{read_key}
use Rattle.serde_json.specs.View.{members_view}
use Rattle.ecr_json.proofs.MemberLemmas.{ReadsMembers-none, ReadsMembers-more, ReadsMembers-smaller, ReadsMembers-refused, ReadsMembers-no_key, ReadsMembers-over}
use Rattle.ecr_json.proofs.thin.read_kept.Goals as goal

pub members-init : goal.members-init
members-init c =
    let names = map (λ n. n.now) c.args.names.now in
    ReadsMembers-none names c.args.depth c.args.reader.now _ (ap members_view c.new-found.ensures.empty)

pub members-preserved : goal.members-preserved
members-preserved c =
    let names = map (λ n. n.now) c.args.names.now in
    let name = c.in-Ok-Some.name.now in
    let s = c.next_key.new.self in
    let key : read_key c.members.reader ≡ Some (Some name, s) = grind arith in
    let keeps = rw c.if-not-is_right.false at c.in_ok-is_right-in-Ok-Some.ensures in
    ReadsMembers-more names c.args.depth c.args.reader.now c.members.reader
    (members_view c.members.found.entries) name s c.read_member.new.reader
    (members_view c.read_member.new.found.entries)
    c.members.invariant key keeps

pub members-smaller : goal.members-smaller
members-smaller c =
    let names = map (λ n. n.now) c.args.names.now in
    let name = c.in-Ok-Some.name.now in
    let s = c.next_key.new.self in
    let key : read_key c.members.reader ≡ Some (Some name, s) = grind arith in
    let keeps = rw c.if-not-is_right.false at c.in_ok-is_right-in-Ok-Some.ensures in
    ReadsMembers-smaller names c.args.depth c.args.reader.now c.members.reader
    (members_view c.members.found.entries) name s c.read_member.new.reader
    (members_view c.read_member.new.found.entries)
    key keeps

pub returns-then-not-is_right : goal.returns-then-not-is_right
returns-then-not-is_right c =
    let names = map (λ n. n.now) c.args.names.now in
    let name = c.in-Ok-Some.name.now in
    let s = c.next_key.new.self in
    let key : read_key c.members.reader ≡ Some (Some name, s) = grind arith in
    let wrong = rw c.if-not-is_right.true at c.in_ok-is_right-in-Ok-Some.ensures in
    ReadsMembers-refused names c.args.depth c.args.reader.now c.members.reader
    (members_view c.members.found.entries) name s _ c.members.invariant key wrong

pub returns-in-Ok-None : goal.returns-in-Ok-None
returns-in-Ok-None c =
    let names = map (λ n. n.now) c.args.names.now in
    let key : read_key c.members.reader ≡ Some (None, c.next_key.new.self) = grind arith in
    ReadsMembers-over names c.args.depth c.args.reader.now c.members.reader
    (members_view c.members.found.entries) c.next_key.new.self c.members.invariant key

pub returns-in-Err : goal.returns-in-Err
returns-in-Err c =
    let names = map (λ n. n.now) c.args.names.now in
    let key : read_key c.members.reader ≡ None = grind arith in
    ReadsMembers-no_key names c.args.depth c.args.reader.now c.members.reader
    (members_view c.members.found.entries) _ c.members.invariant key
