use Rattle.std.proofs.Common.{rules, ◌⊎◌, ◌≤◌, ap, sym, subst, ◌∙◌}
use Rattle.ecr_model.specs.registry.Growth.{Grows, Follows}
use Rattle.ecr_turn.specs.Journals.{IsBeginning, longer_of}
use Rattle.ecr_turn.specs.Steps.{merged}
use Rattle.ecr_turn.proofs.Journals.{max_left, ordered}
use Rattle.ecr_turn.proofs.Moves.{may_join, may_take_in}
use Rattle.ecr_turn.proofs.steps.absorb.Goals as goal

pub join_seat-requires : goal.join_seat-requires
join_seat-requires g c = (
  search rules,
  search rules,
  search rules,
  search rules,
  may_join _ _ _ _ _ _ _ c.requires.one.1.0
      c.requires.two.1.0,
)

pub load-requires : goal.load-requires
load-requires g c = (
  search rules,
  search rules,
  may_take_in _ _ _ _ _ _ c.args.other.me.0.past c.args.other.me.0.seen
      (ap (λ m. m.0.stage) c.join_seat.ensures.2),
)

pub returns-clause-pass : goal.returns-clause-pass
returns-clause-pass g c =
    let o = c.args.other.me.0 in let is = c.join_seat.ensures.2 in let told = c.load.ensures.2 o.past o.seen
    (ap (λ m. m.0.stage) is) in let now = told.0 ∙ ap (λ m. (merged m.0, m.1)) is in (
      (
        c.load.ensures.0 ∙ c.join_seat.ensures.0,
        ap (λ m. m.0.caller) now,
        ap (λ m. m.0.frame) now,
        subst
            (λ n. c.args.seat.now.me.0.callers ≤ n) (sym (ap (λ m. m.0.callers) now))
            (max_left c.args.seat.now.me.0.callers o.callers),
      ),
      (ap (λ m. m.0.stage) now, ap (λ m. m.1) now ∙ c.requires.one.1.1),
    )

pub returns-clause-callers : goal.returns-clause-callers
returns-clause-callers g c =
    let o = c.args.other.me.0 in let is = c.join_seat.ensures.2 in let told = c.load.ensures.2 o.past o.seen
    (ap (λ m. m.0.stage) is) in ap (λ m. m.0.callers) (told.0 ∙ ap (λ m. (merged m.0, m.1)) is)

pub returns-clause-past : goal.returns-clause-past
returns-clause-past g c =
    let o = c.args.other.me.0 in let is = c.join_seat.ensures.2 in let told = c.load.ensures.2 o.past o.seen
    (ap (λ m. m.0.stage) is) in ap (λ m. m.0.past) (told.0 ∙ ap (λ m. (merged m.0, m.1)) is)

pub returns-clause-seen : goal.returns-clause-seen
returns-clause-seen g c =
    let o = c.args.other.me.0 in let is = c.join_seat.ensures.2 in let told = c.load.ensures.2 o.past o.seen
    (ap (λ m. m.0.stage) is) in ap (λ m. m.0.seen) (told.0 ∙ ap (λ m. (merged m.0, m.1)) is)

pub returns-clause-ordered : goal.returns-clause-ordered
returns-clause-ordered g c =
    let v = c.args.seat.now.me.0 in let o = c.args.other.me.0 in let is = c.join_seat.ensures.2 in let told =
    c.load.ensures.2 o.past o.seen (ap (λ m. m.0.stage) is) in
    subst (λ m. IsBeginning m.0.seen o.seen ⊎ IsBeginning o.seen m.0.seen) is
    (ordered _ told.1.news o.seen told.2.news (sym told.1.longer ∙ told.2.longer))

pub returns-clause-grows : goal.returns-clause-grows
returns-clause-grows g c =
    let v = c.args.seat.now.me.0 in let o = c.args.other.me.0 in let is = c.join_seat.ensures.2 in let told =
    c.load.ensures.2 o.past o.seen (ap (λ m. m.0.stage) is) in
    let now = told.0 ∙ ap (λ m. (merged m.0, m.1)) is in
    subst (Grows v.caller v.past v.seen) (sym (ap (λ m. m.0.seen) now))
    (subst (λ m. Grows m.0.caller m.0.past m.0.seen (longer_of m.0.seen o.seen)) is told.1)

pub returns-clause-follows : goal.returns-clause-follows
returns-clause-follows g c =
    let v = c.args.seat.now.me.0 in let o = c.args.other.me.0 in let is = c.join_seat.ensures.2 in let told =
    c.load.ensures.2 o.past o.seen (ap (λ m. m.0.stage) is) in
    let now = told.0 ∙ ap (λ m. (merged m.0, m.1)) is in
    subst (Follows o.past o.seen) (sym (ap (λ m. m.0.seen) now))
    (subst (λ m. Follows o.past o.seen (longer_of m.0.seen o.seen)) is told.2)
