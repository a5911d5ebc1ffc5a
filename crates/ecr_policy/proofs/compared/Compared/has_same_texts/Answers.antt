use Rattle.std.proofs.Common.{◌∙◌}
use Rattle.ecr_model.specs.documents.Policies.{have_same_texts}
use Rattle.ecr_policy.specs.Sets.{prefixes_of}
use Rattle.ecr_policy.proofs.SetLemmas.{pointwise-InOrder, have_same_texts-Prefixes}
use Rattle.ecr_policy.proofs.compared.Compared.has_same_texts.Goals as goal

pub returns-in-Prefixes-Prefixes : goal.returns-in-Prefixes-Prefixes
returns-in-Prefixes-Prefixes c =
    c.is_same.ensures
    ∙ pointwise-InOrder c.self.inside.prefixes c.other.inside.prefixes (prefixes_of c.self.inside.rule.now.choose)
    (prefixes_of c.other.inside.rule.now.choose) c.self.invariant c.other.invariant
    ∙ have_same_texts-Prefixes c.self.inside.rule.now.choose c.other.inside.rule.now.choose
    c.in-Prefixes-Prefixes.field-0-0 c.in-Prefixes-Prefixes.field-0-1 c.in-Prefixes-Prefixes.is-0
    c.in-Prefixes-Prefixes.is-1
    ∙ (λ i. have_same_texts (c.self.view_is i).choose (c.other.view_is i).choose)
