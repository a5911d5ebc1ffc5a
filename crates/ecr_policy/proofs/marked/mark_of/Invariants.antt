use Rattle.std.proofs.Common.{◌≡◌, map, drop, fold}
use Rattle.ecr_policy.specs.Marks.{text_mark}
use Rattle.ecr_policy.proofs.marked.mark_of.Given as goal

abbrev pub invariant-loop-text : goal.invariant-loop-text
invariant-loop-text l = fold text_mark l.initial.mark (map (λ t. t.now) l.texts) ≡ fold text_mark l.mark
    (map (λ t. t.now) (drop l.text-index l.texts))
