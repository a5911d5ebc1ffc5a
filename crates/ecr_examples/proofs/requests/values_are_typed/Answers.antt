use Rattle.std.proofs.Common.{refl}
use Rattle.ecr_model.specs.documents.Documents.{document}
use Rattle.std.specs.Str.Lossy.{utf8_valid_len}
use Rattle.std.specs.Str.{is_utf8, chars}
use Rattle.serde_json.proofs.OnLiterals.{serde_json_on_literals}
use Rattle.ecr_examples.proofs.requests.values_are_typed.Goals as goal

pub returns : goal.returns
unfolding document utf8_valid_len is_utf8 chars lib.Utf8.encode serde_json_on_literals
returns c = record {
  typed = record {
    document_is = refl;
    no_document = refl;
    no_text = refl;
    no_null = refl;
    false_is_there = refl;
    at = refl;
    at_null = refl;
    at_none = refl;
    whole_is = refl;
    negative_is = refl;
    no_whole = refl;
    two_texts = refl;
    one_text = refl;
    both = refl;
    all_are = refl;
    not_all = refl;
    account = refl;
    account_number = refl;
    repository = refl;
    no_repository = refl;
    repositories = refl;
    no_repositories = refl;
    mutability = refl;
    force = refl;
    no_force = refl;
    results = refl;
    token = refl;
    no_token = refl;
  };
}
