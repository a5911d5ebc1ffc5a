use Rattle.std.proofs.Common.{refl}
use Rattle.ecr_model.specs.requests.Members.{typed_members, first_bad, token_place, is_decimal, digits_value, site_of_account}
use Rattle.ecr_model.specs.names.Names.{is_name}
use Rattle.ecr_model.specs.requests.Refusals.{parameter_text}
use Rattle.ecr_examples.proofs.requests.values_are_allowed.Goals as goal

pub returns : goal.returns
unfolding typed_members first_bad token_place is_decimal digits_value site_of_account is_name parameter_text
returns c = record {
  allowed = record {
    value = refl;
    zeros = refl;
    decimals = refl;
    place = refl;
    no_place = refl;
    padded = refl;
    site = refl;
    other_region = refl;
    rows = refl;
    words = refl;
    hundred = refl;
    too_many = refl;
    no_names = refl;
    bad_name = refl;
    account = refl;
    no_account = refl;
    repository = refl;
    no_repository = refl;
    repositories = refl;
    no_repositories = refl;
    mutability = refl;
    no_mutability = refl;
    force = refl;
    results = refl;
    no_results = refl;
    token = refl;
    no_token = refl;
    beside = refl;
    not_beside = refl;
    beside_none = refl;
    bad = refl;
    required = refl;
    optional = refl;
    out_of_domain = refl;
    first = refl;
    none = refl;
  };
}
