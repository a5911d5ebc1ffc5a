use Rattle.std.proofs.Common.{refl}
use Rattle.ecr_model.specs.documents.Policies.{selection_fault, rule_fault, clash, list_fault, policy}
use Rattle.ecr_model.specs.documents.Documents.{document}
use Rattle.std.specs.Str.Lossy.{utf8_valid_len}
use Rattle.std.specs.Str.{is_utf8, chars}
use Rattle.serde_json.proofs.OnLiterals.{serde_json_on_literals}
use Rattle.ecr_examples.proofs.policies.policies_are_read.Goals as goal

pub returns : goal.returns
unfolding selection_fault rule_fault clash list_fault policy document utf8_valid_len is_utf8 chars lib.Utf8.encode
    serde_json_on_literals
returns c = record {
  read = record {
    rules = refl;
    more_members = refl;
    no_rules = refl;
    no_json = refl;
    lengths = refl;
    numbers = refl;
    holds = refl;
    not = refl;
    no_list = refl;
    too_many = refl;
    first_rule = refl;
    twice = refl;
    sound = refl;
    short = refl;
    empty = refl;
    no_object = refl;
    made = refl;
    well = refl;
    ill = refl;
    read = refl;
    unread = refl;
  };
}
