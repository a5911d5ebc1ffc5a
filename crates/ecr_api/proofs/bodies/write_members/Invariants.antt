use Rattle.std.proofs.Common.{◌≡◌, ◌++◌, drop}
use Rattle.ecr_api.specs.Writings.{member_tokens, written_data}
use Rattle.ecr_api.proofs.bodies.write_members.Given as goal

abbrev pub invariant-loop-member : goal.invariant-loop-member
invariant-loop-member l =
    (l.out.before ≡ l.initial.out.before)
    × (l.initial.out.tokens ++ member_tokens (written_data l.members) ≡ l.out.tokens ++ member_tokens
    (written_data (drop l.member-index l.members)))
