-- The answer of a list of conditions.
use Rattle.std.proofs.Common.{◌≡◌, List, [], ◌∷◌, Option, Some, None, refl}
use Rattle.ecr_model.specs.declared.registry.lifecycle.Policy.{Policy}
use Rattle.ecr_model.specs.declared.registry.lifecycle.PolicyFault.{PolicyFault}
use Rattle.ecr_model.specs.documents.Conditions.{first_of}
use Rattle.ecr_model.specs.documents.Policies.{policy_or_fault}

-- a last condition decides by itself
pub policy_or_fault-first_of : (fault : Option PolicyFault) (policy : Policy)
    → policy_or_fault (first_of (fault ∷ [])) policy ≡ policy_or_fault fault policy
policy_or_fault-first_of None policy = refl
policy_or_fault-first_of (Some fault) policy = refl

pub ruleset answers = (policy_or_fault-first_of)
