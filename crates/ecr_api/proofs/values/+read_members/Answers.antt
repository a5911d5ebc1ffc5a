use Rattle.std.proofs.Common.{◌≡◌, ◌∙◌, ◌++◌, List, Option, Some, None, IfOk, if◌then◌else◌, length, slice_range, option_map, sym, ap, subst}
use Rattle.serde_json.specs.View.{view}
use Rattle.ecr_model.specs.requests.Members.{Valued, all_typed}
use Rattle.ecr_api.specs.Values.{valued_members, valued_of}
use Rattle.ecr_api.proofs.ValueLemmas.{all_typed-first}
use Rattle.ecr_api.proofs.values.+read_members.Goals as goal

-- the member's value stands behind those before, and in front of the rest
pub returns-in_ok-push-in-Some : goal.returns-in_ok-push-in-Some
returns-in_ok-push-in-Some n c =
    let body = view c.args.body.now in
    let read = ap (option_map valued_of) (sym c.in-Some.is) ∙ c.typed_member.ensures in
    let first = all_typed-first c.args.values.now.items c.in-Some.value c.args.members.now _ body
    c.in-len1-up.len_at_least read in
    let pushed = ap (λ l. option_map (λ more. valued_members l ++ more)
    (all_typed (slice_range c.args.members.now 1 (length c.args.members.now)) body))
    (sym c.in_ok-push-in-Some.ensures.items) in
    subst (λ (all : Option (List Valued)). IfOk c.read_members.result
    (λ right. all ≡ (if right then Some (valued_members c.read_members.new.values.items) else None)))
    (sym (first ∙ pushed)) c.read_members.ensures
