use Rattle.std.proofs.Common.{◌++◌, List, All, IsSome, sym, ap, ◌∙◌, subst}
use Rattle.ecr_model.specs.declared.names.Name.{Name}
use Rattle.ecr_cells.specs.Doors.{door_at}
use Rattle.ecr_cells.proofs.KeyLemmas.{copied-all, copied-more}
use Rattle.ecr_cells.proofs.shared.doors.names_of.Goals as goal

pub loop-name-init : goal.loop-name-init
loop-name-init c =
    ap (λ (ns : List Name). ns ++ c.into_iter-name-iterator.result) c.new-names.ensures.items
    ∙ c.into_iter-name-iterator.ensures.into_iter_gives ∙ c.keys-name-items.ensures.rest

pub loop-name-preserved : goal.loop-name-preserved
loop-name-preserved c =
    copied-more c.loop-name.names.items _ _ c.in-Some.name.now _ c.in_ok-push.ensures.items c.in_ok-copy_of_name.ensures
    c.in-Some.ensures.steps c.loop-name.invariant

pub returns-clause-names : goal.returns-clause-names
returns-clause-names c = copied-all c.loop-name.names.items _ c.in-None.ensures.steps.0 c.loop-name.invariant

pub returns-clause-found : goal.returns-clause-found
returns-clause-found c =
    let doors = c.args.doors.now.entries in
    subst (λ (ns : List Name). All (λ n. IsSome (door_at doors n)) ns)
    (sym (copied-all c.loop-name.names.items _ c.in-None.ensures.steps.0 c.loop-name.invariant))
    c.keys-name-items.ensures.found
