use Rattle.std.proofs.Common.{◌≡◌, false, Some, map, sym, ap, ◌∙◌, option_map}
use Rattle.json.specs.Json.{value}
use Rattle.serde_json.specs.Read.{of_json, converted}
use Rattle.serde_json.specs.View.{view, members_view}
use Rattle.ecr_json.specs.Thin.{is_named}
use Rattle.ecr_json.specs.Thinning.{thin_value}
use Rattle.ecr_json.proofs.MemberLemmas.{Keeps-unnamed, Keeps-named, thinly-None}
use Rattle.ecr_json.proofs.thin.read_member.Goals as goal

pub returns-then-not-is_named : goal.returns-then-not-is_named
returns-then-not-is_named c =
    let names = map (λ n. n.now) c.args.names.now in
    let read = converted of_json (value c.args.depth c.args.reader.now) in
    let unnamed : is_named c.args.name.now names ≡ false = sym c.is_named.ensures ∙ c.if-not-is_named.true in
    Keeps-unnamed names c.args.name.now read
    (members_view c.args.found.now.entries) c.skip.new.reader c.skip.result unnamed c.skip.ensures

pub returns-in_ok-put-in-Some : goal.returns-in_ok-put-in-Some
returns-in_ok-put-in-Some c =
    let names = map (λ n. n.now) c.args.names.now in
    let read = converted of_json (value c.args.depth c.args.reader.now) in
    let r = c.read_value.new.reader in
    let found : thin_value c.args.depth c.args.reader.now ≡ Some (view c.in-Some.value, r) =
    c.in_ok-value.ensures ∙ ap (option_map (λ v. (view v, r))) c.in-Some.is in
    Keeps-named names c.args.name.now read (members_view c.args.found.now.entries)
    (members_view c.put.new.map.entries) r (view c.in-Some.value) found c.in_ok-put-in-Some.ensures.ok

pub returns-in-None : goal.returns-in-None
returns-in-None c =
    let read = converted of_json (value c.args.depth c.args.reader.now) in
    let r = c.read_value.new.reader in
    thinly-None read (c.in_ok-value.ensures ∙ ap (option_map (λ v. (view v, r))) c.in-None.is)
