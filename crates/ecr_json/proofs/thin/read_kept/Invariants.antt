use Rattle.std.proofs.Common.{length, map}
use Rattle.serde_json.specs.View.{members_view}
use Rattle.ecr_json.specs.Thinning.{ReadsMembers}
use Rattle.ecr_json.proofs.thin.read_kept.Given as goal

abbrev pub invariant-members : goal.invariant-members
invariant-members l = ReadsMembers (map (λ n. n.now) l.names) l.depth l.initial.reader l.reader
    (members_view l.found.entries)

abbrev pub decreases-members : goal.decreases-members
decreases-members l = length l.reader
