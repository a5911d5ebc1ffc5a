use Rattle.std.proofs.Common.{[], ◌∷◌, refl, arith}
use Rattle.ecr_examples.specs.Kept.{line}
use Rattle.ecr_examples.proofs.kept.journals_grow.Goals as goal

pub returns : goal.returns
returns c = record {
  grow = record {
    rise = (omega arith, (omega arith, omega arith));
    low = λ h. omega (arith, h.0);
    fall = λ h. omega (arith, h.1.0);
    high = λ h. omega (arith, h.1);
    each = (refl, (refl, tt));
    not_each = λ h. omega (arith, h.1.0);
    grows =
        record { news = line 1 7 ∷ []; longer = refl; others = (λ h. omega (arith, h), tt); later = (omega arith, tt) };
    follows = record { news = line 0 7 ∷ []; longer = refl; later = (omega arith, tt) };
    longer = refl;
    longer_too = refl;
    own = refl;
  };
}
