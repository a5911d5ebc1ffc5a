use Rattle.std.proofs.Common.{refl}
use Rattle.ecr_model.specs.http.Framing.{framing_of}
use Rattle.ecr_examples.proofs.heads.bodies_are_delimited.Goals as goal

pub returns : goal.returns
unfolding framing_of
returns c = record {
  delimited = record {
    digits = refl;
    long = refl;
    no_digits = refl;
    signed = refl;
    stated = refl;
    unlike = refl;
    unstated = refl;
    most = refl;
    equal = refl;
    listed = refl;
    chunked = refl;
    twice = refl;
    second = refl;
    other = refl;
    both = refl;
    one_coding = refl;
    no_coding = refl;
    old = refl;
    host = refl;
    no_host = refl;
    hosts = refl;
    old_hosts = refl;
    empty = refl;
  };
}
