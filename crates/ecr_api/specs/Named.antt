-- The names by which a body is read thinly (Amazon ECR API Reference, "Actions").
use Rattle.std.specs.Prelude.{◌≡◌, ℕ, true, List, [], ◌∷◌, Option, None, Some}
use Rattle.ecr_json.specs.Thin.{is_named}
use Rattle.ecr_model.specs.declared.requests.action.Member.{Member}
use Rattle.ecr_model.specs.declared.requests.refusal.Parameter.{Parameter}
use Rattle.ecr_model.specs.requests.Refusals.{parameter_text}

-- the parameter's name is one of these
abbrev pub IsNamed : List (List ℕ) → Parameter → Type 0
IsNamed names parameter = is_named (parameter_text parameter) names ≡ true

-- the same of the parameter where there is one
abbrev pub IsNamedOrNone : List (List ℕ) → Option Parameter → Type 0
IsNamedOrNone names None = Unit {0}
IsNamedOrNone names (Some parameter) = IsNamed names parameter

-- the name of each member is one of these, and that of each from which one is apart
abbrev pub AreNamed : List (List ℕ) → List Member → Type 0
AreNamed names [] = Unit {0}
AreNamed names (m ∷ ms) = IsNamed names m.parameter × IsNamedOrNone names m.apart × AreNamed names ms
