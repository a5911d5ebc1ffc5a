use Rattle.std.proofs.Common.{◌+◌, ◌*◌, length}
use Rattle.ecr_json.specs.Passing.{PassesItems, PassesMembers}
use Rattle.ecr_json.proofs.skip.+skip.Given as goal

abbrev pub decreases-pass : goal.decreases-pass
decreases-pass l = 3 * l.depth

abbrev pub decreases-skip : goal.decreases-skip
decreases-skip l = 3 * l.depth + 1

abbrev pub decreases-skip_items : goal.decreases-skip_items
decreases-skip_items l = 3 * l.depth + 2

abbrev pub decreases-skip_members : goal.decreases-skip_members
decreases-skip_members l = 3 * l.depth + 2

abbrev pub invariant-skip_items-items : goal.invariant-skip_items-items
invariant-skip_items-items l = PassesItems l.depth l.initial.reader l.reader

abbrev pub decreases-skip_items-items : goal.decreases-skip_items-items
decreases-skip_items-items l = length l.reader

abbrev pub invariant-skip_members-members : goal.invariant-skip_members-members
invariant-skip_members-members l = PassesMembers l.depth l.initial.reader l.reader

abbrev pub decreases-skip_members-members : goal.decreases-skip_members-members
decreases-skip_members-members l = length l.reader
