use Rattle.std.proofs.Common.{refl}
use Rattle.ecr_model.specs.http.Framing.{waits, framing_of, max_body}
use Rattle.ecr_examples.proofs.heads.clients_wait.Goals as goal

pub returns : goal.returns
unfolding waits framing_of max_body
returns c = record {
  wait = record {
    due = refl;
    old = refl;
    nothing = refl;
    unstated = refl;
    other = refl;
    unexpected = refl;
    most = refl;
    too_many = refl;
    unlike = refl;
    chunks = refl;
    sized = refl;
    sent = refl;
  };
}
