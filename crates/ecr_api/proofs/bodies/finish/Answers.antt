use Rattle.std.proofs.Common.{◌∙◌, ◌++◌, ap}
use Rattle.json.specs.Print.{print}
use Rattle.serde_json.proofs.Texts.{print-outline}
use Rattle.ecr_api.proofs.bodies.finish.Goals as goal

pub returns : goal.returns
returns c = λ d same. c.into_inner.ensures.items ∙ ap (λ before. before ++ print c.args.out.tokens) c.requires
    ∙ ap print same ∙ print-outline d
