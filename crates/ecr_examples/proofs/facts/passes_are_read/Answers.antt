use Rattle.std.proofs.Common.{refl}
use Rattle.ecr_examples.proofs.facts.passes_are_read.Goals as goal

pub returns : goal.returns
returns c = record {
  read = record {
    tickets = refl;
    numbers = refl;
    turns = refl;
    learned = refl;
    found = refl;
    seen = refl;
    recorded = refl;
    live = refl;
    pasts = refl;
    joined = refl;
    first = λ gate. refl;
    known = λ p. refl;
    served = refl;
    register = refl;
    fresh_register = refl;
    set = refl;
  };
}
