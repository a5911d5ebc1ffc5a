use Rattle.std.proofs.Common.{◌≡◌, [], ap, ◌∙◌, arith}
use Rattle.json.specs.Json.{parse_map}
use Rattle.ecr_json.specs.Thin.{thin}
use Rattle.ecr_json.specs.Thinning.{thin_value}
use Rattle.ecr_json.proofs.ThinningLemmas.{value-empty}
use Rattle.ecr_json.proofs.thin.read_value.Goals as goal

pub returns-in-None : goal.returns-in-None
returns-in-None c =
    let empty : c.args.reader.now ≡ [] = grind arith in
    ap (thin_value c.args.depth) empty ∙ ap (parse_map thin) (value-empty c.args.depth)
