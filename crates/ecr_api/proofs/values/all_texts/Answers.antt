use Rattle.std.proofs.Common.{option_map, sym, ap}
use Rattle.ecr_model.specs.requests.Members.{texts}
use Rattle.ecr_api.proofs.ValueLemmas.{all_texts-items_view}
use Rattle.ecr_api.proofs.values.all_texts.Goals as goal

pub returns-then-are_texts : goal.returns-then-are_texts
returns-then-are_texts c = sym (ap (option_map texts) (all_texts-items_view c.args.items.now cc))
