use Rattle.std.proofs.Common.{◌∙◌, List, option_map, sym, ap, subst}
use Rattle.serde_json.specs.View.{view}
use Rattle.ecr_api.specs.declared.values.Valued.{Valued}
use Rattle.ecr_api.specs.Readings.{AreApart}
use Rattle.ecr_api.specs.Values.{valued_members}
use Rattle.ecr_api.proofs.ValueLemmas.{typed_members-apart}
use Rattle.ecr_api.proofs.read.read_value.Goals as goal

-- the values are those of the action's members
pub read_values-requires : goal.read_values-requires
read_values-requires c =
    let values = c.in-Some.values.items in
    let read = sym c.in_ok-values.ensures ∙ ap (option_map (λ v. valued_members v.items)) c.in-Some.is in
    let apart = typed_members-apart c.members_of.result.now (view c.args.body.now)
    (valued_members values) c.members_of.ensures.named read in
    subst (λ (vs : List Valued). AreApart (valued_members vs)) (sym c.as_slice.ensures.value) apart
