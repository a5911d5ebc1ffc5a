use Rattle.std.proofs.Common.{◌≡◌, List, take, All, IsSome, sym, ◌∙◌, subst}
use Rattle.std.proofs.lemmas.List.{take_all}
use Rattle.std.specs.Map.{keys_of}
use Rattle.ecr_model.specs.declared.names.Name.{Name}
use Rattle.ecr_cells.specs.Doors.{door_at}
use Rattle.ecr_cells.specs.Splits.{AreSplitting}
use Rattle.ecr_cells.proofs.SplitLemmas.{AreSplit-all, AreSplitting-none, AreSplitting-splits, IsSome-splitting}
use Rattle.ecr_cells.proofs.shared.doors.split_doors.Goals as goal

pub loop-name-init : goal.loop-name-init
loop-name-init g c =
    AreSplitting-none c.args.doors.now.entries c.new-splits.result.entries c.as_slice-name-items.result.now
    c.new-splits.ensures.empty

pub split_door-requires : goal.split_door-requires
split_door-requires g c =
    let doors = c.args.doors.now.entries in
    let names = c.as_slice-name-items.result.now in
    record {
      there = IsSome-splitting doors c.loop-name.doors.entries c.loop-name.splits.entries names
          (take c.loop-name.name-index names) c.loop-name.name-index c.name-item.result
          (subst (λ (ns : List Name). All (λ n. IsSome (door_at doors n)) ns) (sym c.as_slice-name-items.ensures.value)
          c.in_ok-names.ensures.found)
          c.loop-name-test.true c.name-item.is c.loop-name.invariant;
    }

pub returns-in_err-split_door-clause-kept : goal.returns-in_err-split_door-clause-kept
returns-in_err-split_door-clause-kept g c = λ name. c.split_door.ensures.kept name ∙ c.loop-name.invariant.kept name

pub loop-name-preserved : goal.loop-name-preserved
loop-name-preserved g c =
    AreSplitting-splits c.args.doors.now.entries c.loop-name.doors.entries c.split_door.new.doors.entries
    c.loop-name.splits.entries c.split_door.new.splits.entries c.as_slice-name-items.result.now
    c.loop-name.name-index c.name-item.result c.loop-name-test.true c.name-item.is c.loop-name.invariant
    c.split_door.ensures.kept c.in_ok-split_door.ensures.split

pub returns-clause-kept : goal.returns-clause-kept
returns-clause-kept g c = c.loop-name.invariant.kept

pub returns-clause-split : goal.returns-clause-split
returns-clause-split g c =
    let doors = c.args.doors.now.entries in
    let names = c.as_slice-name-items.result.now in
    let whole : take c.loop-name.name-index names ≡ keys_of doors =
    take_all c.loop-name.name-index names c.loop-name-test.false ∙ c.as_slice-name-items.ensures.value
    ∙ c.in_ok-names.ensures.names in
    AreSplit-all doors c.loop-name.doors.entries c.loop-name.splits.entries
    (subst (λ (ns : List Name). AreSplitting doors c.loop-name.doors.entries c.loop-name.splits.entries ns) whole
    c.loop-name.invariant)
