use Rattle.std.proofs.Common.{refl, arith}
use Rattle.ecr_model.specs.sessions.Sessions.{max_read}
use Rattle.ecr_examples.proofs.facts.facts_hold.Goals as goal

pub returns : goal.returns
unfolding max_read
returns c = record {
  hold = record {
    no_seal = refl;
    some_seal = λ h. cc h;
    new_caller = tt;
    same_caller = refl;
    other_caller = λ h. omega (arith, h);
    no_caller = λ h. h;
    no_content = refl;
    some_content = λ h. cc h;
    nothing = refl;
    fits = refl;
    fits_here = (refl, refl);
    fits_nowhere = λ h. cc h.1;
    asks = tt;
    changes = λ h. h;
    unspent = omega arith;
    spent = λ h. omega (arith, h);
    failed_unspent = λ h. omega (arith, h);
    some_read = (omega arith, omega arith);
    none_read = λ h. omega (arith, h.0);
    too_many_read = λ h. omega (arith, h.1);
    some_taken = (omega arith, omega arith);
    none_taken = λ h. omega (arith, h.0);
    too_many_taken = λ h. omega (arith, h.1);
    read_fault = omega arith;
    no_read_fault = λ h. omega (arith, h);
    write_fault = omega arith;
    no_write_fault = λ h. omega (arith, h);
  };
}
