use Rattle.std.proofs.Common.{refl}
use Rattle.httparse.proofs.OnLiterals.{httparse_on_literals}
use Rattle.ecr_examples.proofs.heads.fields_are_found.Goals as goal

pub returns : goal.returns
unfolding httparse_on_literals
returns c = record {
  found = record {
    line_is = refl;
    place = refl;
    kept = refl;
    same = refl;
    other = refl;
    two = refl;
    first = refl;
    absent = refl;
    each = refl;
    differ = refl;
    says = refl;
    says_first = refl;
    says_nothing = refl;
  };
}
