use Rattle.std.proofs.Common.{bytes_eq, map, ◌∙◌}
use Rattle.std.specs.Cmp.Lexicographic.{pointwise}
use Rattle.ecr_policy.proofs.MarkLemmas.{pointwise-mark_of, pointwise-now}
use Rattle.ecr_policy.proofs.marked.Marked.is_same.Goals as goal

pub returns-then-self-other : goal.returns-then-self-other
returns-then-self-other c =
    c.eq.ensures ∙ pointwise-now c.self.inside.texts.items c.other.inside.texts.items
    ∙ (λ i. pointwise bytes_eq (c.self.view_is i) (c.other.view_is i))

pub returns-else-self-other : goal.returns-else-self-other
returns-else-self-other c =
    pointwise-mark_of (map (λ t. t.now) c.self.inside.texts.items)
    (map (λ t. t.now) c.other.inside.texts.items) c.self.inside.mark c.other.inside.mark
    c.self.invariant c.other.invariant c.if-self-other.false
    ∙ (λ i. pointwise bytes_eq (c.self.view_is i) (c.other.view_is i))
